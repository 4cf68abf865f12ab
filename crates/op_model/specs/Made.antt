-- The operations that an edit makes.
use Rattle.std.specs.Prelude.{not, if◌then◌else◌, ℕ, zero, suc, ◌+◌, ◌-◌, Bool, true, false, List}
use Rattle.std.specs.Prelude.{[], ◌∷◌, length, take, drop, map, filter, max, nat_lt, nat_le, ◌&&◌}
use Rattle.std.specs.Prelude.{◌==◌, ◌++◌, slice_get, Option, Some, None}
use Rattle.std.specs.Option.{option_map}
use Rattle.std.specs.List.{list_any}
use Rattle.fixed_numbers.specs.declared.limits.TheConstants.{MAX_EDIT}
use Rattle.fixed_numbers.specs.declared.refusals.TheConstants.{LIMIT, RANGE, STALE}
use Rattle.op_ids.specs.Id.{Id, is_same}
use Rattle.op_ids.specs.Clock.{advanced}
use Rattle.op_model.specs.declared.op.Op.{Op}
use Rattle.op_model.specs.declared.op.Body.{Body}
use Rattle.op_model.specs.declared.op.Body.TheVariants as body
use Rattle.op_model.specs.declared.anchor.Anchor.TheVariants.{Before, After}
use Rattle.op_model.specs.declared.anchor.Start.{Start}
use Rattle.op_model.specs.declared.anchor.Start.TheVariants as start
use Rattle.op_model.specs.declared.anchor.End.{End}
use Rattle.op_model.specs.declared.anchor.End.TheVariants as end
use Rattle.op_model.specs.declared.mark.MarkKey.{MarkKey}
use Rattle.op_model.specs.declared.mark.MarkKey.TheVariants as key
use Rattle.op_model.specs.declared.edit.Edit.{Edit}
use Rattle.op_model.specs.declared.edit.Change.{Change}
use Rattle.op_model.specs.declared.edit.Change.TheVariants as change
use Rattle.op_model.specs.declared.character.Character.{Character}
use Rattle.op_model.specs.Walk.{walk}
use Rattle.op_model.specs.Text.{is_removed, visible, rev}
use Rattle.op_model.specs.Marks.{key_of}
use Rattle.op_model.specs.Causality.{clock_of, is_within_limits}

-- what stands behind the first n visible characters
abbrev pub behind_visible : (Character → Bool) → ℕ → List Character → List Character
behind_visible hidden n [] = []
behind_visible hidden n (c ∷ cs) =
    if n == 0 then c ∷ cs else behind_visible hidden (if hidden c then n else n - 1) cs

-- the tombstones that these characters begin with
abbrev pub first_hidden : (Character → Bool) → List Character → List Character
first_hidden hidden [] = []
first_hidden hidden (c ∷ cs) = if hidden c then c ∷ first_hidden hidden cs else []

-- the tombstones between the i-th visible character, or the beginning, and the next visible one
abbrev pub tombstones_at : List Op → ℕ → ℕ → List Character
tombstones_at ops doc i = first_hidden (is_removed ops doc) (behind_visible (is_removed ops doc) i (walk ops doc))

-- a mark operation that ends here ends just after this character
abbrev pub is_end_after : Id → End → Bool
is_end_after id (end.To (After other)) = is_same other id
is_end_after id (end.To (Before other)) = false
is_end_after id end.OfText = false

-- is a mark operation that ends just after this character
abbrev pub is_marking_up_to : Id → Body → Bool
is_marking_up_to id (body.AddMark mark start end) = is_end_after id end
is_marking_up_to id (body.RemoveMark key start end) = is_end_after id end
is_marking_up_to id (body.Insert origin value) = false
is_marking_up_to id (body.Remove target) = false

-- some mark operation of the document ends just after this character
abbrev pub ends_after : List Op → ℕ → Id → Bool
ends_after ops doc id = list_any (λ op. op.doc == doc && is_marking_up_to id op.body) ops

-- the id of the last of these characters, or else this one
abbrev pub last_or : Option Id → List Character → Option Id
last_or before [] = before
last_or before (c ∷ cs) = last_or (Some c.id) cs

-- the id of the character at an index
abbrev pub id_at : List Character → ℕ → Option Id
id_at cs i = option_map (λ c. c.id) (slice_get cs i)

-- the id of the character just before an index
abbrev pub id_before : List Character → ℕ → Option Id
id_before cs zero = None
id_before cs (suc i) = id_at cs i

-- the origin of an insert behind the i-th visible character: of the tombstones there the last one that some mark ends after,
-- so that the mark doesn't grow; else that visible character, or none at the beginning
abbrev pub origin_of : List Op → ℕ → ℕ → Option Id
origin_of ops doc i =
    last_or (id_before (visible ops doc) i) (filter (λ c. ends_after ops doc c.id) (tombstones_at ops doc i))

-- just before this character, or at the start of the text
abbrev pub start_before : Option Id → Start
start_before None = start.OfText
start_before (Some id) = start.From (Before id)

-- the start of a mark from the visible character at this index on: just before it
abbrev pub start_of : List Character → ℕ → Start
start_of cs from = start_before (id_at cs from)

-- just before this character, or at the end of the text
abbrev pub end_before : Option Id → End
end_before None = end.OfText
end_before (Some id) = end.To (Before id)

-- just after this character
abbrev pub end_after : Option Id → End
end_after None = end.OfText
end_after (Some id) = end.To (After id)

-- strong and em end just before the next visible character, or at the end of the text: they grow there. A link and a comment
-- end just after their last character: they don't.
abbrev pub end_of : List Character → MarkKey → ℕ → End
end_of cs key.Strong to = end_before (id_at cs to)
end_of cs key.Em to = end_before (id_at cs to)
end_of cs key.Link to = end_after (id_before cs to)
end_of cs (key.Comment id) to = end_after (id_before cs to)

-- the greatest counter of the operations
abbrev pub greatest_counter : List Op → ℕ
greatest_counter [] = 0
greatest_counter (op ∷ ops) = max op.id.counter (greatest_counter ops)

-- an operation for each body, all with the same token, their counters rising by one: each counts those before it among what it
-- depends on
abbrev pub numbered : ℕ → ℕ → Option ℕ → ℕ → List (ℕ × ℕ) → List Body → List Op
numbered replica doc token counter clock [] = []
numbered replica doc token counter clock (b ∷ bs) =
    record { id = record { counter = counter; replica = replica }; doc = doc; token = token; deps = clock; body = b }
    ∷ numbered replica doc token (counter + 1) (advanced clock replica) bs

-- inserts of characters, the first behind this origin, each later one behind the one before
abbrev pub insert_bodies : ℕ → ℕ → Option Id → List ℕ → List Body
insert_bodies replica counter origin [] = []
insert_bodies replica counter origin (c ∷ cs) =
    body.Insert origin c ∷ insert_bodies replica (counter + 1) (Some (record { counter = counter; replica = replica })) cs

-- what an edit's operations do: a character each for an insert or a delete, in the order of the text, and one for a mark
abbrev pub bodies_of : List Op → ℕ → ℕ → Change → List Body
bodies_of ops replica doc (change.Insert at text) =
    insert_bodies replica (greatest_counter ops + 1) (origin_of ops doc at) text
bodies_of ops replica doc (change.Delete at count) = map (λ c. body.Remove c.id) (take count.value (drop at (visible ops doc)))
bodies_of ops replica doc (change.Mark from to mark) =
    body.AddMark mark (start_of (visible ops doc) from) (end_of (visible ops doc) (key_of mark) to) ∷ []
bodies_of ops replica doc (change.Unmark from to key) =
    body.RemoveMark key (start_of (visible ops doc) from) (end_of (visible ops doc) key to) ∷ []

-- the operations that an edit adds to a replica's list: the first has the counter one above the greatest in the list and
-- depends on all of the list, and all carry the edit's token
abbrev pub made : List Op → ℕ → Edit → List Op
made ops replica e =
    numbered replica e.doc e.token (greatest_counter ops + 1) (clock_of ops) (bodies_of ops replica e.doc e.change)

-- the document has this number of operations, where one is asked for
abbrev pub is_at_rev : ℕ → Option ℕ → Bool
is_at_rev n None = true
is_at_rev n (Some asked) = n == asked

-- the change lies within a text of n characters
abbrev pub is_inside : ℕ → Change → Bool
is_inside n (change.Insert at text) = nat_le at n
is_inside n (change.Delete at count) = nat_le (at + count.value) n
is_inside n (change.Mark from to mark) = nat_lt from to && nat_le to n
is_inside n (change.Unmark from to key) = nat_lt from to && nat_le to n

-- at most 256 characters are inserted or removed
abbrev pub is_small : Change → Bool
is_small (change.Insert at text) = nat_le (length text) MAX_EDIT
is_small (change.Delete at count) = nat_le count.value MAX_EDIT
is_small (change.Mark from to mark) = true
is_small (change.Unmark from to key) = true

-- how many operations a change makes that lies within the text
abbrev pub size_of : Change → ℕ
size_of (change.Insert at text) = length text
size_of (change.Delete at count) = count.value
size_of (change.Mark from to mark) = 1
size_of (change.Unmark from to key) = 1

-- why an edit is refused, by its number, in the order of test: stale 6, range 5, limit 7
abbrev pub edit_refusal : List Op → ℕ → Edit → Option ℕ
edit_refusal ops replica e =
    if not (is_at_rev (rev ops e.doc) e.rev) then Some STALE
    else if not (is_inside (length (visible ops e.doc)) e.change) then Some RANGE
    else if not (is_small e.change && is_within_limits (ops ++ made ops replica e)) then Some LIMIT
    else None
