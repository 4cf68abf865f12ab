-- How many bytes the records take that wait for a commit. What one insert types is one record, if it is two characters or more, and
-- every other operation has a record of its own.
use Rattle.std.specs.Prelude.{ℕ, ◌+◌, ◌*◌, nat_lt, if◌then◌else◌, List, [], ◌∷◌, length, take, drop}
use Rattle.op_model.specs.declared.op.Op.{Op}
use Rattle.op_model.specs.declared.edit.Change.{Change}
use Rattle.op_model.specs.declared.edit.Change.TheVariants.{Insert, Delete, Mark, Unmark}
use Rattle.op_model.specs.Records.{record_length, stream_length}
use Rattle.op_ids.specs.Clock.{advanced}
use Rattle.op_model.specs.Actions.{all_wait_at_most, made_by_action, Asked}
use Rattle.op_model.specs.Causality.{clock_of}
use Rattle.op_model.specs.Made.{size_of}
use Rattle.op_model.specs.Replay.{Kept, edited, merged, settlement}

-- the operations that type a text: of two or more, the record of the first one, two bytes for their number, and four for each later
-- character
abbrev pub text_length : List Op → ℕ
text_length (op ∷ next ∷ ops) = record_length op + 2 + 4 * length (next ∷ ops)
text_length ops = stream_length ops

-- the operations that a change made
abbrev pub change_length : Change → List Op → ℕ
change_length (Insert at text) ops = text_length ops
change_length (Delete at count) ops = stream_length ops
change_length (Mark from to mark) ops = stream_length ops
change_length (Unmark from to key) ops = stream_length ops

-- the operations that changes made, one after another
abbrev pub changes_length : List Change → List Op → ℕ
changes_length [] ops = 0
changes_length (c ∷ cs) ops = change_length c (take (size_of c) ops) + changes_length cs (drop (size_of c) ops)

-- the bytes for which there has to be room where changes are made: one change's own, and for several the most that they may add
abbrev pub length_of_changes : List Op → ℕ → Asked → List Change → ℕ
length_of_changes ops replica a (c ∷ []) = change_length c (made_by_action ops replica a)
length_of_changes ops replica a cs = all_wait_at_most (length (advanced (clock_of ops) replica)) a.token a.changes

-- the same of an action
abbrev pub action_length : List Op → ℕ → Asked → ℕ
action_length ops replica a = length_of_changes ops replica a a.changes

-- those of a list behind its first taken ones, where these steps were kept, newest first: each step adds what it put there
abbrev pub waiting_length : ℕ → List Kept → List Op → ℕ
waiting_length taken [] list = 0
waiting_length taken (edited session edit first count ∷ steps) list =
    if nat_lt first taken then 0 else waiting_length taken steps (take first list) + changes_length edit.changes (drop first list)
waiting_length taken (merged peer index ∷ steps) list =
    if nat_lt index taken then 0 else waiting_length taken steps (take index list) + stream_length (drop index list)
waiting_length taken (settlement n ∷ steps) list = waiting_length taken steps list
