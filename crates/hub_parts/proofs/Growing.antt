-- What a locked part keeps is kept where its list grows.
use Rattle.std.proofs.Common.{◌≡◌, ℕ, ◌+◌, ◌<◌, ◌≤◌, Bool, true, false, nat_lt, List, [], ◌∷◌, ◌++◌, length, take, refl, ap, ◌∙◌, arith}
use Rattle.std.specs.Prelude.{if◌then◌else◌, Contains}
use Rattle.std.proofs.lemmas.Bool.{lt-ltb, le-ltb}
use Rattle.std.proofs.lemmas.List.{take-append-le}
use Rattle.op_model.specs.declared.op.Op.{Op}
use Rattle.op_model.specs.Actions.{made_by_action, Asked}
use Rattle.op_model.specs.Replay.{reached}
use Rattle.op_model.specs.Held.{ReplicaHeld, with_edit, with_merge}
use Rattle.replica_core.specs.Steps.{places_left}
use Rattle.replica_core.proofs.ReachedLemmas.{contains_tail}
use Rattle.hub_parts.specs.Locked.{due_behind, CanSettle}

-- The list is longer at its end, and what is settled is as before; there are places for as many settlements as before, or for two.
pub record Grows (h next : ReplicaHeld) : Type 0 where
  pub owner : next.replica ≡ h.replica
  pub opened : next.opened ≡ h.opened
  pub settled : next.settled ≡ h.settled
  pub more : List Op
  pub list : next.list ≡ h.list ++ more
  pub reaches : (n : ℕ) → Contains (reached h.opened h.steps) n → Contains (reached next.opened next.steps) n
  pub places : (n : ℕ) → (k : ℕ) → k ≤ 1 → k + due_behind h n ≤ places_left h.steps → k + due_behind next n ≤ places_left next.steps

-- a test counts for one at most
few : (t : Bool) → (if t then 1 else 0) ≤ 1
few true = omega arith
few false = omega arith

-- at most one settlement is due behind another
pub due_few : (h : ReplicaHeld) (n : ℕ) → due_behind h n ≤ 1
due_few h n = few (nat_lt n (length h.list))

-- none is due behind all operations
pub due_behind_all : (h : ReplicaHeld) → due_behind h (length h.list) ≡ 0
due_behind_all h = rw (le-ltb (length h.list) (length h.list) (omega arith)) refl

-- and one behind fewer
pub due_behind_some : (h : ReplicaHeld) (n : ℕ) → n < length h.list → due_behind h n ≡ 1
due_behind_some h n less = rw (lt-ltb n (length h.list) less) refl

-- an edit makes the list longer
pub grows_edit : (h : ReplicaHeld) (session : ℕ) (e : Asked) → Grows h (with_edit h session e)
grows_edit h session e =
    record {
      owner = refl;
      opened = refl;
      settled = refl;
      more = made_by_action h.list h.replica e;
      list = refl;
      reaches = λ n has. contains_tail (length h.list + length (made_by_action h.list h.replica e)) n (reached h.opened h.steps) has;
      places = λ n k small was. let one = due_few (with_edit h session e) n in omega (arith, one, small);
    }

-- so does a merge
pub grows_merge : (h : ReplicaHeld) (peer : ℕ) (op : Op) → Grows h (with_merge h peer op)
grows_merge h peer op =
    record {
      owner = refl;
      opened = refl;
      settled = refl;
      more = op ∷ [];
      list = refl;
      reaches = λ n has. contains_tail (length h.list + 1) n (reached h.opened h.steps) has;
      places = λ n k small was. let one = due_few (with_merge h peer op) n in omega (arith, one, small);
    }

-- a front stays as it is
pub same_front : (h next : ReplicaHeld) (g : Grows h next) (n : ℕ) → n ≤ length h.list → take n next.list ≡ take n h.list
same_front h next g n within = ap (λ ops. take n ops) g.list ∙ take-append-le n h.list g.more within

-- a commit that could be settled still can
pub owed_grown : (h next : ReplicaHeld) (n : ℕ) → Grows h next → CanSettle h n → CanSettle next n
owed_grown h next n g owed =
    let more = owed.more in
    record {
      more = omega (arith, g.settled, more);
      reached = g.reaches n owed.reached;
      places = g.places n 1 (omega arith) owed.places;
    }
