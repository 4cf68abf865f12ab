-- Several changes of a document at once: the operations that they make, and why they are refused.
use Rattle.std.specs.Prelude.{not, if◌then◌else◌, ℕ, ◌+◌, ◌-◌, ◌*◌, min, Bool, ◌&&◌, nat_lt, nat_le}
use Rattle.std.specs.Prelude.{List, [], ◌∷◌, ◌++◌, length, Option, Some, None}
use Rattle.std.specs.Option.{option_map}
use Rattle.fixed_numbers.specs.declared.limits.TheConstants.{MAX_COUNTER, MAX_DOCUMENTS, MAX_OPERATIONS, MAX_PENDING, MAX_REPLICAS}
use Rattle.fixed_numbers.specs.declared.limits.TheConstants.{MAX_STREAM_LENGTH}
use Rattle.fixed_numbers.specs.declared.refusals.TheConstants.{LIMIT, RANGE, STALE}
use Rattle.op_ids.specs.Clock.{advanced}
use Rattle.op_model.specs.declared.op.Op.{Op}
use Rattle.op_model.specs.declared.edit.Edit.{Edit}
use Rattle.op_model.specs.declared.edit.Change.{Change}
use Rattle.op_model.specs.declared.edit.Change.TheVariants.{Insert, Delete, Mark, Unmark}
use Rattle.op_model.specs.Text.{visible, rev}
use Rattle.op_model.specs.Causality.{clock_of, documents}
use Rattle.op_model.specs.Spans.{with_number}
use Rattle.op_model.specs.Records.{head_length, key_length, mark_length, stream_length, token_length}
use Rattle.op_model.specs.Made.{made, edit_refusal, greatest_counter, is_at_rev, is_inside, is_small, size_of}

-- what is asked to be done at once: changes of a document, one after another, at the number of operations that it has to have, if
-- there is one, and under a token, if there is one
pub record Asked : Type 0 where
  pub doc : ℕ
  pub rev : Option ℕ
  pub token : Option ℕ
  pub changes : List Change

-- an edit, and changes of the same document after it
abbrev pub asked : Edit → List Change → Asked
asked e others = record { doc = e.doc; rev = e.rev; token = e.token; changes = e.change ∷ others }

-- one of the changes, as an edit that would come by itself
abbrev pub edit_of : ℕ → Option ℕ → Change → Edit
edit_of doc token c = record { doc = doc; rev = None; token = token; change = c }

-- the operations of changes, each of which is made of what those before it leave
abbrev pub made_in_turn : List Op → ℕ → ℕ → Option ℕ → List Change → List Op
made_in_turn ops replica doc token [] = []
made_in_turn ops replica doc token (c ∷ cs) =
    made ops replica (edit_of doc token c)
    ++ made_in_turn (ops ++ made ops replica (edit_of doc token c)) replica doc token cs

-- the operations that an action adds to a replica's list
abbrev pub made_by_action : List Op → ℕ → Asked → List Op
made_by_action ops replica a = made_in_turn ops replica a.doc a.token a.changes

-- how many characters a text of n has after a change
abbrev pub length_after : ℕ → Change → ℕ
length_after n (Insert at text) = n + length text
length_after n (Delete at count) = n - count.value
length_after n (Mark from to mark) = n
length_after n (Unmark from to key) = n

-- how many operations changes make that lie within the text
abbrev pub sizes : List Change → ℕ
sizes [] = 0
sizes (c ∷ cs) = size_of c + sizes cs

-- the bytes of a record's head and token, where a clock counts this many replicas
abbrev pub head_at_most : ℕ → Option ℕ → ℕ
head_at_most replicas token = head_length replicas + token_length token

-- the most bytes of a change's records, each by itself
abbrev pub stream_at_most : ℕ → Option ℕ → Change → ℕ
stream_at_most replicas token (Insert at text) = length text * (head_at_most replicas token + 29)
stream_at_most replicas token (Delete at count) = count.value * (head_at_most replicas token + 24)
stream_at_most replicas token (Mark from to mark) = head_at_most replicas token + mark_length mark + 50
stream_at_most replicas token (Unmark from to key) = head_at_most replicas token + key_length key + 50

-- the most bytes that a change adds to what waits for a commit: a text is one record
abbrev pub waits_at_most : ℕ → Option ℕ → Change → ℕ
waits_at_most replicas token (Insert at text) = head_at_most replicas token + 27 + 4 * length text
waits_at_most replicas token (Delete at count) = stream_at_most replicas token (Delete at count)
waits_at_most replicas token (Mark from to mark) = stream_at_most replicas token (Mark from to mark)
waits_at_most replicas token (Unmark from to key) = stream_at_most replicas token (Unmark from to key)

-- the most bytes that changes add to what waits
abbrev pub all_wait_at_most : ℕ → Option ℕ → List Change → ℕ
all_wait_at_most replicas token [] = 0
all_wait_at_most replicas token (c ∷ cs) = waits_at_most replicas token c + all_wait_at_most replicas token cs

-- what further changes may take: so many operations, bytes of records in the store, and bytes that wait for one commit
pub record Room : Type 0 where
  pub operations : ℕ
  pub stream : ℕ
  pub waiting : ℕ

-- the document has a number, and is one of at most 1,024 with the others; the replica is one of at most 16
abbrev pub may_change : List Op → ℕ → ℕ → Bool
may_change ops replica doc =
    nat_lt 0 doc && nat_lt doc 4294967296 && nat_le (length (with_number doc (documents ops))) MAX_DOCUMENTS
    && nat_le (length (advanced (clock_of ops) replica)) MAX_REPLICAS

-- how many more operations a replica may make of a document
abbrev pub operations_left : List Op → ℕ → ℕ → ℕ
operations_left ops replica doc =
    if may_change ops replica doc then min (MAX_OPERATIONS - length ops) (MAX_COUNTER - greatest_counter ops) else 0

-- the room after these operations: what the limits of a store leave
abbrev pub room_behind : List Op → ℕ → ℕ → Room
room_behind ops replica doc = record {
  operations = operations_left ops replica doc;
  stream = MAX_STREAM_LENGTH - stream_length ops;
  waiting = MAX_PENDING;
}

-- there is room for a change, whatever it names
abbrev pub has_room_for : Room → ℕ → Option ℕ → Change → Bool
has_room_for room replicas token c =
    nat_le (size_of c) room.operations && nat_le (stream_at_most replicas token c) room.stream
    && nat_le (waits_at_most replicas token c) room.waiting

-- the room that a change leaves
abbrev pub room_after : Room → ℕ → Option ℕ → Change → Room
room_after room replicas token c = record {
  operations = room.operations - size_of c;
  stream = room.stream - stream_at_most replicas token c;
  waiting = room.waiting - waits_at_most replicas token c;
}

-- why changes of a text of n characters are refused, the first cause in turn: after how many of them, and range 5, limit 7
abbrev pub refused_in_turn : ℕ → Room → ℕ → Option ℕ → ℕ → List Change → Option (ℕ × ℕ)
refused_in_turn k room replicas token n [] = None
refused_in_turn k room replicas token n (c ∷ cs) =
    if not (is_inside n c) then Some (k, RANGE)
    else if not (is_small c && has_room_for room replicas token c) then Some (k, LIMIT)
    else refused_in_turn (k + 1) (room_after room replicas token c) replicas token (length_after n c) cs

-- why several changes are refused: stale 6, then range 5 and limit 7 in turn, by the most bytes that their records may have
abbrev pub refused_several : List Op → ℕ → Asked → Option (ℕ × ℕ)
refused_several ops replica a =
    if not (is_at_rev (rev ops a.doc) a.rev) then Some (0, STALE)
    else refused_in_turn 0 (room_behind ops replica a.doc) (length (advanced (clock_of ops) replica)) a.token
    (length (visible ops a.doc)) a.changes

-- one change is tested by the bytes of its own records
abbrev pub refused_changes : List Op → ℕ → Asked → List Change → Option (ℕ × ℕ)
refused_changes ops replica a (c ∷ []) =
    option_map (λ n. (0, n)) (edit_refusal ops replica (record { doc = a.doc; rev = a.rev; token = a.token; change = c }))
refused_changes ops replica a cs = refused_several ops replica a

-- why an action is refused: after how many of its changes, and by which number
abbrev pub action_refusal : List Op → ℕ → Asked → Option (ℕ × ℕ)
action_refusal ops replica a = refused_changes ops replica a a.changes

-- the number alone
abbrev pub refusal_of : List Op → ℕ → Asked → Option ℕ
refusal_of ops replica a = option_map (λ found. found.1) (action_refusal ops replica a)
