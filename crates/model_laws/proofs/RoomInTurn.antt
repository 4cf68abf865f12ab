-- Changes that pass the test by the most that they may take are refused nowhere when they are made in turn.
use Rattle.std.proofs.Common.{◌≡◌, ℕ, zero, suc, ◌+◌, ◌-◌, ◌≤◌, ◌<◌, Bool, true, false, ◌&&◌, nat_le, nat_lt, List, [], ◌∷◌, ◌++◌, length}
use Rattle.std.proofs.Common.{Option, Some, None, arith, refl, ap, ◌∙◌, append-nil, length-append}
use Rattle.std.specs.Prelude.{not, if◌then◌else◌}
use Rattle.std.specs.Option.{option_map}
use Rattle.std.proofs.Math.Nat.{min-le_left, min-le_right}
use Rattle.op_ids.specs.Clock.{advanced}
use Rattle.op_model.specs.declared.op.Op.{Op}
use Rattle.op_model.specs.declared.edit.Edit.{Edit}
use Rattle.op_model.specs.declared.edit.Change.{Change}
use Rattle.op_model.specs.Actions.{Asked, Room, action_refusal, edit_of, may_change, operations_left, refusal_of}
use Rattle.op_model.specs.Actions.{refused_changes, refused_in_turn, refused_several, room_after, room_behind, sizes, stream_at_most}
use Rattle.op_model.specs.Causality.{clock_of, documents, IsCausallyClosed, is_within_limits}
use Rattle.op_model.specs.Made.{edit_refusal, greatest_counter, is_at_rev, is_inside, made, size_of}
use Rattle.op_model.specs.Records.{stream_length}
use Rattle.op_model.specs.Spans.{with_number}
use Rattle.op_model.specs.Text.{rev, visible}
use Rattle.model_laws.specs.Acting.{NoneRefused}
use Rattle.model_laws.proofs.ChangeBytes.{stream_made-at_most}
use Rattle.model_laws.proofs.LimitsMade.{closed_within, due_asks_right, due_from, due_within, made-none, stream_within, within_made}
use Rattle.model_laws.proofs.Limits.{stream_length-append}
use Rattle.model_laws.proofs.TurnFolds.{first_passes, passes, Passes}
use Rattle.model_laws.proofs.OneChange.{closed-due, greatest-due, length-visible_made, replicas-due, documents-due, length-due}

-- The room is no more than these operations leave of a last counter, and of so many operations and bytes. If the changes make an operation
-- and there is room for one, they may change the document.
pub record IsLeft (ops : List Op) (replica doc : ℕ) (cs : List Change) (room : Room) (last most bytes : ℕ) : Type 0 where
  pub operations : room.operations ≤ most - length ops
  pub counters : room.operations ≤ last - greatest_counter ops
  pub stream : room.stream ≤ bytes - stream_length ops
  pub may : 0 < sizes cs → 0 < room.operations → may_change ops replica doc ≡ true

-- the tests of a replica and a document
may_parts : (a b c d : Bool) → (a && b && c && d) ≡ true → (a ≡ true) × (b ≡ true) × (c ≡ true) × (d ≡ true)
may_parts true true true true e = (refl, refl, refl, refl)
may_parts true true true false e = absurd (cc)
may_parts true true false d e = absurd (cc)
may_parts true false c d e = absurd (cc)
may_parts false b c d e = absurd (cc)

below_left : (n used most : ℕ) → 0 < n → n ≤ most - used → used + n ≤ most
below_left n used most some less = omega arith

-- a change that makes nothing leaves the limits as they are
within_none : (ops : List Op) (replica : ℕ) (e : Edit) → IsCausallyClosed ops → is_inside (length (visible ops e.doc)) e.change ≡ true
    → size_of e.change ≡ 0 → is_within_limits (ops ++ made ops replica e) ≡ true
within_none ops replica e closed inside none = rw (made-none ops replica e inside none, append-nil ops) (closed_within ops closed)

-- a change that has room keeps the limits
within_room : (ops : List Op) (replica doc : ℕ) (token : Option ℕ) (room : Room) (c : Change) (cs : List Change) (last most bytes : ℕ) → IsCausallyClosed ops
    → IsLeft ops replica doc (c ∷ cs) room last most bytes → last ≡ 281474976710655 → most ≡ 16777216 → bytes ≡ 1073741824
    → is_inside (length (visible ops doc)) c ≡ true → Passes room (length (advanced (clock_of ops) replica)) token c → 0 < size_of c
    → is_within_limits (ops ++ made ops replica (edit_of doc token c)) ≡ true
within_room ops replica doc token room c cs last most bytes closed left is_last is_most is_bytes inside pass some =
    let e = edit_of doc token c in
    let n = size_of c in
    let may = may_parts (nat_lt 0 doc) (nat_lt doc 4294967296) (nat_le (length (with_number doc (documents ops))) 1024)
    (nat_le (length (advanced (clock_of ops) replica)) 16) (left.may (omega (arith, some)) (at_least n room.operations some pass.operations)) in
    let taken = stream_made-at_most ops replica e inside in
    within_made ops replica e (last + 1) most bytes closed inside
    (record {
      counters = next n (greatest_counter ops) last (below_left n (greatest_counter ops) last some (chain n room.operations _ pass.operations left.counters));
      operations = below_left n (length ops) most some (chain n room.operations _ pass.operations left.operations);
      stream = stream_fits (stream_length (made ops replica e)) (stream_at_most (length (advanced (clock_of ops) replica)) token c) room.stream (stream_length ops) bytes taken pass.stream left.stream (rw (← is_bytes) at (stream_within ops (closed_within ops closed)));
      doc = may.0;
      small = may.1;
      documents = may.2;
      replicas = may.3;
    }) (ap (λ (k : ℕ). k + 1) is_last) is_most is_bytes
  where
    at_least : (n m : ℕ) → 0 < n → n ≤ m → 0 < m
    at_least n m some less = omega arith

    chain : (a b c : ℕ) → a ≤ b → b ≤ c → a ≤ c
    chain a b c one two = omega arith

    next : (n used last : ℕ) → used + n ≤ last → used + n < last + 1
    next n used last less = omega arith

    stream_fits : (made most room used bytes : ℕ) → made ≤ most → most ≤ room → room ≤ bytes - used → used ≤ bytes → used + made ≤ bytes
    stream_fits made most room used bytes one two three four = omega arith

-- so nothing refuses it
due_with_room : (ops : List Op) (replica doc : ℕ) (token : Option ℕ) (room : Room) (c : Change) (cs : List Change) (last most bytes : ℕ) → IsCausallyClosed ops
    → IsLeft ops replica doc (c ∷ cs) room last most bytes → last ≡ 281474976710655 → most ≡ 16777216 → bytes ≡ 1073741824
    → is_inside (length (visible ops doc)) c ≡ true → Passes room (length (advanced (clock_of ops) replica)) token c
    → edit_refusal ops replica (edit_of doc token c) ≡ None
due_with_room ops replica doc token room c cs last most bytes closed left is_last is_most is_bytes inside pass =
    due_from ops replica (edit_of doc token c) (record { current = refl; inside = inside; small = pass.small }) (within (size_of c) refl)
  where
    within : (n : ℕ) → size_of c ≡ n → is_within_limits (ops ++ made ops replica (edit_of doc token c)) ≡ true
    within zero none = within_none ops replica (edit_of doc token c) closed inside none
    within (suc n) some = within_room ops replica doc token room c cs last most bytes closed left is_last is_most is_bytes inside pass (omega (arith, some))

left_less : (room used most n added : ℕ) → room ≤ most - used → added ≡ used + n → room - n ≤ most - added
left_less room used most n added less more = omega arith

left_stream : (room used most n made added : ℕ) → room ≤ most - used → made ≤ n → added ≡ used + made → room - n ≤ most - added
left_stream room used most n made added less few more = omega arith

-- after a change the rest of the room is no more than the limits leave
left_after : (ops : List Op) (replica doc : ℕ) (token : Option ℕ) (room : Room) (c : Change) (cs : List Change) (last most bytes : ℕ) → IsCausallyClosed ops
    → IsLeft ops replica doc (c ∷ cs) room last most bytes → edit_refusal ops replica (edit_of doc token c) ≡ None
    → IsLeft (ops ++ made ops replica (edit_of doc token c)) replica doc cs (room_after room (length (advanced (clock_of ops) replica)) token c) last most bytes
left_after ops replica doc token room c cs last most bytes closed left due =
    let e = edit_of doc token c in
    let more = made ops replica e in
    let n = size_of c in
    let right = due_asks_right ops replica e due in
    let long : length (ops ++ more) ≡ length ops + n = length-append ops more ∙ ap (λ k. length ops + k) (length-due ops replica e closed due) in
    record {
      operations = left_less room.operations (length ops) most n (length (ops ++ more)) left.operations long;
      counters = left_less room.operations (greatest_counter ops) last n (greatest_counter (ops ++ more)) left.counters (greatest-due ops replica e closed due);
      stream = left_stream room.stream (stream_length ops) bytes (stream_at_most (length (advanced (clock_of ops) replica)) token c) (stream_length more) (stream_length (ops ++ more)) left.stream
          (stream_made-at_most ops replica e right.inside) (stream_length-append ops more);
      may = λ some room_left. rw (documents-due ops replica e closed due, replicas-due ops replica e closed due) (left.may (omega (arith, some)) (omega (arith, room_left)));
    }

-- changes that pass the test in such a room are refused nowhere
pub room_left_in_turn : (cs : List Change) (ops : List Op) (replica doc : ℕ) (token : Option ℕ) (room : Room) (k last most bytes : ℕ) → IsCausallyClosed ops
    → IsLeft ops replica doc cs room last most bytes → last ≡ 281474976710655 → most ≡ 16777216 → bytes ≡ 1073741824
    → refused_in_turn k room (length (advanced (clock_of ops) replica)) token (length (visible ops doc)) cs ≡ None
    → NoneRefused ops replica doc token cs
room_left_in_turn [] ops replica doc token room k last most bytes closed left is_last is_most is_bytes none = tt
room_left_in_turn (c ∷ cs) ops replica doc token room k last most bytes closed left is_last is_most is_bytes none =
    let replicas = length (advanced (clock_of ops) replica) in
    let e = edit_of doc token c in
    let parts = first_passes k room replicas token (length (visible ops doc)) c cs none in
    let pass = passes room replicas token c parts.1 in
    let due = due_with_room ops replica doc token room c cs last most bytes closed left is_last is_most is_bytes parts.0 pass in (
      due,
      room_left_in_turn cs (ops ++ made ops replica e) replica doc token (room_after room replicas token c) (k + 1) last most bytes
          (closed-due ops replica e closed due) (left_after ops replica doc token room c cs last most bytes closed left due) is_last is_most is_bytes
          (rw (replicas-due ops replica e closed due, length-visible_made ops replica e closed due) parts.2),
    )

-- the same, by the numbers of a store
pub room_in_turn : (ops : List Op) (replica doc : ℕ) (token : Option ℕ) (room : Room) (k : ℕ) (cs : List Change) → IsCausallyClosed ops
    → room.operations ≤ 16777216 - length ops → room.operations ≤ 281474976710655 - greatest_counter ops
    → room.stream ≤ 1073741824 - stream_length ops → (0 < sizes cs → may_change ops replica doc ≡ true)
    → refused_in_turn k room (length (advanced (clock_of ops) replica)) token (length (visible ops doc)) cs ≡ None
    → NoneRefused ops replica doc token cs
room_in_turn ops replica doc token room k cs closed operations counters stream may none =
    room_left_in_turn cs ops replica doc token room k 281474976710655 16777216 1073741824 closed
    (record { operations = operations; counters = counters; stream = stream; may = λ some room_left. may some }) refl refl refl none

at_least_none : (n : ℕ) → 0 ≤ n
at_least_none n = omega arith

-- so many operations are left
operations_left-most : (ops : List Op) (replica doc : ℕ) (b : Bool) → may_change ops replica doc ≡ b
    → (operations_left ops replica doc ≤ 16777216 - length ops) × (operations_left ops replica doc ≤ 281474976710655 - greatest_counter ops)
operations_left-most ops replica doc true may =
    rw may (min-le_left (16777216 - length ops) (281474976710655 - greatest_counter ops), min-le_right (16777216 - length ops) (281474976710655 - greatest_counter ops))
operations_left-most ops replica doc false may = rw may (at_least_none (16777216 - length ops), at_least_none (281474976710655 - greatest_counter ops))

-- if some are, the replica may change the document
operations_left-some : (ops : List Op) (replica doc : ℕ) (b : Bool) → may_change ops replica doc ≡ b → 0 < operations_left ops replica doc
    → may_change ops replica doc ≡ true
operations_left-some ops replica doc true may some = may
operations_left-some ops replica doc false may some = absurd (no_less (rw may at some))
  where
    no_less : 0 < 0 → ⊥
    no_less less = omega arith

same_at_most : (n : ℕ) → n ≤ n
same_at_most n = omega arith

-- the room that is given after operations is no more than the limits leave
pub room_behind_left : (ops : List Op) (replica doc : ℕ) (cs : List Change) → IsLeft ops replica doc cs (room_behind ops replica doc) 281474976710655 16777216 1073741824
room_behind_left ops replica doc cs =
    let most = operations_left-most ops replica doc (may_change ops replica doc) refl in
    record {
      operations = most.0;
      counters = most.1;
      stream = same_at_most (1073741824 - stream_length ops);
      may = λ some room_left. operations_left-some ops replica doc (may_change ops replica doc) refl room_left;
    }

-- so changes that pass the test in it are refused nowhere
pub room_behind_in_turn : (ops : List Op) (replica doc : ℕ) (token : Option ℕ) (k : ℕ) (cs : List Change) → IsCausallyClosed ops
    → refused_in_turn k (room_behind ops replica doc) (length (advanced (clock_of ops) replica)) token (length (visible ops doc)) cs ≡ None
    → NoneRefused ops replica doc token cs
room_behind_in_turn ops replica doc token k cs closed none =
    room_left_in_turn cs ops replica doc token (room_behind ops replica doc) k 281474976710655 16777216 1073741824 closed (room_behind_left ops replica doc cs) refl refl refl none

-- only nothing is mapped to nothing
none_mapped : {X Y : Type 0} (f : X → Y) (found : Option X) → option_map f found ≡ None → found ≡ None
none_mapped f None none = refl
none_mapped f (Some x) none = absurd (cc)

-- an edit that is not refused with a number of operations to have is not refused without one
due_anyhow : (ops : List Op) (replica doc : ℕ) (asked token : Option ℕ) (c : Change)
    → edit_refusal ops replica (record { doc = doc; rev = asked; token = token; change = c }) ≡ None → edit_refusal ops replica (edit_of doc token c) ≡ None
due_anyhow ops replica doc asked token c due =
    let e : Edit = record { doc = doc; rev = asked; token = token; change = c } in
    let right = due_asks_right ops replica e due in
    due_from ops replica (edit_of doc token c) (record { current = refl; inside = right.inside; small = right.small }) (due_within ops replica e due)

behind_rev : (current : Bool) (rest : Option (ℕ × ℕ)) → (if not current then Some (0, 6) else rest) ≡ None → rest ≡ None
behind_rev true rest none = none
behind_rev false rest none = absurd (cc)

-- if several changes aren't refused, they pass the test in the room after these operations
pub several_passed : (ops : List Op) (replica : ℕ) (a : Asked) → refused_several ops replica a ≡ None
    → refused_in_turn 0 (room_behind ops replica a.doc) (length (advanced (clock_of ops) replica)) a.token (length (visible ops a.doc)) a.changes ≡ None
several_passed ops replica a none =
    behind_rev (is_at_rev (rev ops a.doc) a.rev)
    (refused_in_turn 0 (room_behind ops replica a.doc) (length (advanced (clock_of ops) replica)) a.token (length (visible ops a.doc)) a.changes) none

-- so nothing refuses them in turn
pub several_none : (ops : List Op) (replica : ℕ) (a : Asked) → IsCausallyClosed ops → refused_several ops replica a ≡ None
    → NoneRefused ops replica a.doc a.token a.changes
several_none ops replica a closed none = room_behind_in_turn ops replica a.doc a.token 0 a.changes closed (several_passed ops replica a none)

changes_none : (ops : List Op) (replica : ℕ) (a : Asked) (cs : List Change) → a.changes ≡ cs → IsCausallyClosed ops → refused_changes ops replica a cs ≡ None
    → NoneRefused ops replica a.doc a.token a.changes
changes_none ops replica a [] is closed none = several_none ops replica a closed none
changes_none ops replica a (c ∷ []) is closed none =
    rw is (due_anyhow ops replica a.doc a.rev a.token c (none_mapped (λ (n : ℕ). (0, n)) (edit_refusal ops replica (record { doc = a.doc; rev = a.rev; token = a.token; change = c })) none), tt)
changes_none ops replica a (c ∷ d ∷ cs) is closed none = several_none ops replica a closed none

-- if nothing refuses an action, nothing refuses its changes in turn
pub action_none : (ops : List Op) (replica : ℕ) (a : Asked) → IsCausallyClosed ops → action_refusal ops replica a ≡ None
    → NoneRefused ops replica a.doc a.token a.changes
action_none ops replica a closed none = changes_none ops replica a a.changes refl closed none

rev_current : (current : Bool) (rest : Option (ℕ × ℕ)) → (if not current then Some (0, 6) else rest) ≡ None → current ≡ true
rev_current true rest none = refl
rev_current false rest none = absurd (cc)

several_current : (ops : List Op) (replica : ℕ) (a : Asked) → refused_several ops replica a ≡ None → is_at_rev (rev ops a.doc) a.rev ≡ true
several_current ops replica a none =
    rev_current (is_at_rev (rev ops a.doc) a.rev)
    (refused_in_turn 0 (room_behind ops replica a.doc) (length (advanced (clock_of ops) replica)) a.token (length (visible ops a.doc)) a.changes) none

changes_current : (ops : List Op) (replica : ℕ) (a : Asked) (cs : List Change) → refused_changes ops replica a cs ≡ None
    → is_at_rev (rev ops a.doc) a.rev ≡ true
changes_current ops replica a [] none = several_current ops replica a none
changes_current ops replica a (c ∷ []) none =
    let e : Edit = record { doc = a.doc; rev = a.rev; token = a.token; change = c } in
    (due_asks_right ops replica e (none_mapped (λ (n : ℕ). (0, n)) (edit_refusal ops replica e) none)).current
changes_current ops replica a (c ∷ d ∷ cs) none = several_current ops replica a none

-- and the document has the number of operations that it asks for
pub action_current : (ops : List Op) (replica : ℕ) (a : Asked) → action_refusal ops replica a ≡ None → is_at_rev (rev ops a.doc) a.rev ≡ true
action_current ops replica a none = changes_current ops replica a a.changes none

-- the same, of the number alone
pub action_not_refused : (ops : List Op) (replica : ℕ) (a : Asked) → IsCausallyClosed ops → refusal_of ops replica a ≡ None
    → NoneRefused ops replica a.doc a.token a.changes
action_not_refused ops replica a closed none =
    action_none ops replica a closed (none_mapped (λ (found : ℕ × ℕ). found.1) (action_refusal ops replica a) none)
