-- Several changes, counted one after another.
use Rattle.std.proofs.Common.{◌≡◌, ℕ, ◌+◌, ◌<◌, true, List, ◌∷◌, length, Option, Some, None, refl, ap, drop, get_or, arith}
use Rattle.std.proofs.lemmas.List.{drop_more}
use Rattle.std.specs.Prelude.{if◌then◌else◌, is_some}
use Rattle.op_ids.specs.Clock.{advanced}
use Rattle.op_model.specs.Actions.{all_wait_at_most, asked, head_at_most, refused_in_turn, refused_several, room_behind, waits_at_most, Asked, Room}
use Rattle.op_model.specs.Causality.{clock_of}
use Rattle.op_model.specs.declared.edit.Change.{Change}
use Rattle.op_model.specs.declared.edit.Edit.{Edit}
use Rattle.op_model.specs.declared.op.Op.{Op}
use Rattle.op_model.specs.Made.{is_at_rev}
use Rattle.op_model.specs.Records.{token_length}
use Rattle.op_model.specs.Text.{rev, visible}
use Rattle.replica_core.specs.declared.turn.Turn.{Turn}
use Rattle.replica_core.specs.Turns.{room_of, IsRefusedNow, IsTaken}

-- sixteen bytes for a token that is there
pub token_bytes : (token : Option ℕ) → (if is_some token then 16 else 0) ≡ token_length token
token_bytes None = refl
token_bytes (Some token) = refl

-- at the number that is asked for, changes are refused in turn
pub several_in_turn : (ops : List Op) (replica : ℕ) (a : Asked) (e : Edit) (others : List Change) (room : Room) (shown : ℕ) → a ≡ asked e others
    → is_at_rev (rev ops a.doc) a.rev ≡ true → room ≡ room_behind ops replica a.doc → shown ≡ length (visible ops a.doc)
    → refused_several ops replica a ≡ refused_in_turn 0 room (length (advanced (clock_of ops) replica)) a.token shown (e.change ∷ others)
several_in_turn ops replica a e others room shown is current there many =
    rw (current, there, many, ap (λ (x : Asked). x.changes) is) refl

-- the next change, behind those that were taken, is refused
pub next_refused : (t : Turn) (head : ℕ) (others : List Change) (i n : ℕ) (c : Change) → i < length others → c ≡ get_or others i c → IsRefusedNow t head c n
    → (k replicas : ℕ) (token : Option ℕ) → head ≡ head_at_most replicas token
    → refused_in_turn k (room_of t) replicas token t.shown (drop i others) ≡ Some (k, n)
next_refused t head others i n c there item refused k replicas token is =
    rw (drop_more others i c there, ← item) (refused k replicas token (drop (i + 1) others) is)

-- or taken: what refuses the others after it
pub next_taken : (old new : Turn) (head : ℕ) (others : List Change) (i : ℕ) (c : Change) → i < length others → c ≡ get_or others i c → IsTaken old new head c
    → (k replicas : ℕ) (token : Option ℕ) → head ≡ head_at_most replicas token
    → refused_in_turn k (room_of old) replicas token old.shown (drop i others)
    ≡ refused_in_turn (k + 1) (room_of new) replicas token new.shown (drop (i + 1) others)
next_taken old new head others i c there item taken k replicas token is =
    rw (drop_more others i c there, ← item) (taken.rest k replicas token (drop (i + 1) others) is)

-- and it takes its bytes
pub next_waits : (old new : Turn) (head : ℕ) (others : List Change) (i : ℕ) (c : Change) → i < length others → c ≡ get_or others i c → IsTaken old new head c
    → (replicas : ℕ) (token : Option ℕ) → head ≡ head_at_most replicas token
    → new.waiting + all_wait_at_most replicas token (drop i others) ≡ old.waiting + all_wait_at_most replicas token (drop (i + 1) others)
next_waits old new head others i c there item taken replicas token is =
    let waits = taken.waiting replicas token is in
    let whole : all_wait_at_most replicas token (drop i others)
    ≡ waits_at_most replicas token c + all_wait_at_most replicas token (drop (i + 1) others) = rw (drop_more others i c there, ← item) refl in
    omega arith
