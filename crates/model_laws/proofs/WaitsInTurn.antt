-- How many bytes changes that are made in turn take at most, and that what waits of them is counted change by change.
use Rattle.std.proofs.Common.{◌≡◌, ℕ, ◌+◌, ◌≤◌, List, [], ◌∷◌, ◌++◌, length, Option, None, arith, refl, ap, ◌∙◌, sym, append-nil}
use Rattle.std.proofs.Math.Seq.{take-append_seam, drop-append_seam}
use Rattle.op_ids.specs.Clock.{advanced}
use Rattle.op_model.specs.declared.op.Op.{Op}
use Rattle.op_model.specs.declared.edit.Change.{Change}
use Rattle.op_model.specs.Actions.{Asked, all_wait_at_most, edit_of, made_by_action, made_in_turn}
use Rattle.op_model.specs.Actions.{refused_in_turn, refused_several, room_behind, stream_at_most, waits_at_most}
use Rattle.op_model.specs.Text.{visible}
use Rattle.op_model.specs.Causality.{clock_of, IsCausallyClosed}
use Rattle.op_model.specs.Made.{made, size_of}
use Rattle.op_model.specs.Records.{stream_length}
use Rattle.op_model.specs.Waiting.{change_length, changes_length}
use Rattle.model_laws.specs.Acting.{NoneRefused, all_stream_at_most}
use Rattle.model_laws.proofs.ChangeBytes.{change_made-at_most, stream_made-at_most}
use Rattle.model_laws.proofs.Limits.{stream_length-append}
use Rattle.model_laws.proofs.RoomInTurn.{room_behind_in_turn, several_passed}
use Rattle.model_laws.proofs.TurnFolds.{within_room-none}
use Rattle.model_laws.proofs.OneChange.{closed-due, due_inside, length-due, replicas-due}

-- what changes add is what the first one adds, and what the others do
pub changes_length-cons : (c : Change) (cs : List Change) (first rest : List Op) → length first ≡ size_of c
    → changes_length (c ∷ cs) (first ++ rest) ≡ change_length c first + changes_length cs rest
changes_length-cons c cs first rest long = rw (← long, take-append_seam first rest, drop-append_seam first rest) refl

-- one change adds what it adds alone
pub changes_length-one : (c : Change) (first : List Op) → length first ≡ size_of c → changes_length (c ∷ []) first ≡ change_length c first
changes_length-one c first long =
    ap (changes_length (c ∷ [])) (sym (append-nil first)) ∙ (changes_length-cons c [] first [] long ∙ omega arith)

-- the same of changes that are made in turn
pub changes_length-made : (ops : List Op) (replica doc : ℕ) (token : Option ℕ) (c : Change) (cs : List Change) → IsCausallyClosed ops
    → NoneRefused ops replica doc token (c ∷ cs)
    → changes_length (c ∷ cs) (made_in_turn ops replica doc token (c ∷ cs))
    ≡ change_length c (made ops replica (edit_of doc token c))
    + changes_length cs (made_in_turn (ops ++ made ops replica (edit_of doc token c)) replica doc token cs)
changes_length-made ops replica doc token c cs closed due =
    changes_length-cons c cs (made ops replica (edit_of doc token c)) (made_in_turn (ops ++ made ops replica (edit_of doc token c)) replica doc token cs)
    (length-due ops replica (edit_of doc token c) closed due.0)

sum_at_most : (a b c d : ℕ) → a ≤ b → c ≤ d → a + c ≤ b + d
sum_at_most a b c d one two = omega arith

-- changes that nothing refuses in turn add at most this to what waits
pub waits_in_turn : (cs : List Change) (ops : List Op) (replica doc : ℕ) (token : Option ℕ) → IsCausallyClosed ops → NoneRefused ops replica doc token cs
    → changes_length cs (made_in_turn ops replica doc token cs) ≤ all_wait_at_most (length (advanced (clock_of ops) replica)) token cs
waits_in_turn [] ops replica doc token closed due = omega arith
waits_in_turn (c ∷ cs) ops replica doc token closed due =
    let e = edit_of doc token c in
    let more = made ops replica e in
    let replicas = length (advanced (clock_of ops) replica) in
    let first = change_made-at_most ops replica e (due_inside ops replica e closed due.0) in
    let rest = rw (replicas-due ops replica e closed due.0) at (waits_in_turn cs (ops ++ more) replica doc token (closed-due ops replica e closed due.0) due.1) in
    rw (changes_length-made ops replica doc token c cs closed due)
    (sum_at_most (change_length c more) (waits_at_most replicas token c) (changes_length cs (made_in_turn (ops ++ more) replica doc token cs)) (all_wait_at_most replicas token cs) first rest)

-- and their records take at most this many bytes
pub stream_in_turn : (cs : List Change) (ops : List Op) (replica doc : ℕ) (token : Option ℕ) → IsCausallyClosed ops → NoneRefused ops replica doc token cs
    → stream_length (made_in_turn ops replica doc token cs) ≤ all_stream_at_most (length (advanced (clock_of ops) replica)) token cs
stream_in_turn [] ops replica doc token closed due = omega arith
stream_in_turn (c ∷ cs) ops replica doc token closed due =
    let e = edit_of doc token c in
    let more = made ops replica e in
    let replicas = length (advanced (clock_of ops) replica) in
    let first = stream_made-at_most ops replica e (due_inside ops replica e closed due.0) in
    let rest = rw (replicas-due ops replica e closed due.0) at (stream_in_turn cs (ops ++ more) replica doc token (closed-due ops replica e closed due.0) due.1) in
    rw (stream_length-append more (made_in_turn (ops ++ more) replica doc token cs))
    (sum_at_most (stream_length more) (stream_at_most replicas token c) (stream_length (made_in_turn (ops ++ more) replica doc token cs)) (all_stream_at_most replicas token cs) first rest)

chain : (a b c : ℕ) → a ≤ b → b ≤ c → a ≤ c
chain a b c one two = omega arith

-- changes that pass the test in the room after a closed list add no more to what waits than may wait at all
pub pending_in_turn : (ops : List Op) (replica doc : ℕ) (token : Option ℕ) (k : ℕ) (cs : List Change) → IsCausallyClosed ops
    → refused_in_turn k (room_behind ops replica doc) (length (advanced (clock_of ops) replica)) token (length (visible ops doc)) cs ≡ None
    → changes_length cs (made_in_turn ops replica doc token cs) ≤ 1048576
pending_in_turn ops replica doc token k cs closed none =
    let replicas = length (advanced (clock_of ops) replica) in
    let counted = waits_in_turn cs ops replica doc token closed (room_behind_in_turn ops replica doc token k cs closed none) in
    let within = within_room-none cs k (room_behind ops replica doc) replicas token (length (visible ops doc)) none in
    chain (changes_length cs (made_in_turn ops replica doc token cs)) (all_wait_at_most replicas token cs) 1048576 counted within.waiting

-- so do several changes that aren't refused
pub pending_several : (ops : List Op) (replica : ℕ) (a : Asked) → IsCausallyClosed ops → refused_several ops replica a ≡ None
    → changes_length a.changes (made_by_action ops replica a) ≤ 1048576
pending_several ops replica a closed none = pending_in_turn ops replica a.doc a.token 0 a.changes closed (several_passed ops replica a none)
