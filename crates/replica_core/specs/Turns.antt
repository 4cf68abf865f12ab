-- Used by private functions and proofs alone.
--
-- Changes that are counted, and made, one after another.
use Rattle.std.specs.Prelude.{◌≡◌, ℕ, ◌+◌, List, ◌∷◌, ◌++◌, length, Option, Some}
use Rattle.doc_core.specs.Standing.{StandsFor}
use Rattle.op_model.specs.declared.edit.Change.{Change}
use Rattle.op_model.specs.declared.op.Op.{Op}
use Rattle.op_model.specs.Actions.{head_at_most, made_in_turn, refused_in_turn, room_behind, waits_at_most, Room}
use Rattle.op_model.specs.Causality.{clock_of, IsCausallyClosed}
use Rattle.op_model.specs.Made.{greatest_counter}
use Rattle.op_model.specs.Text.{visible}
use Rattle.model_laws.specs.Acting.{NoneRefused}
use Rattle.replica_core.specs.declared.copying.Copying.{Copying}
use Rattle.replica_core.specs.declared.turn.Turn.{Turn}
use Rattle.replica_core.specs.Docs.{doc_number}

-- the room that is left
abbrev pub room_of : Turn → Room
room_of t = record { operations = t.operations; stream = t.stream; waiting = t.waiting }

-- the text and the room after these operations, for changes of a document by a replica
pub record IsTurnOf (t : Turn) (ops : List Op) (replica doc : ℕ) : Type 0 where
  pub room : room_of t ≡ room_behind ops replica doc
  pub shown : t.shown ≡ length (visible ops doc)

-- a change that nothing refuses: what refuses it and others refuses the others after it, and it takes its bytes of what may wait
pub record IsTaken (old new : Turn) (head : ℕ) (c : Change) : Type 0 where
  pub rest : (k replicas : ℕ) (token : Option ℕ) (cs : List Change) → head ≡ head_at_most replicas token
      → refused_in_turn k (room_of old) replicas token old.shown (c ∷ cs)
      ≡ refused_in_turn (k + 1) (room_of new) replicas token new.shown cs
  pub waiting : (replicas : ℕ) (token : Option ℕ) → head ≡ head_at_most replicas token
      → new.waiting + waits_at_most replicas token c ≡ old.waiting

-- a change that is refused with a number
abbrev pub IsRefusedNow : Turn → ℕ → Change → ℕ → Type 0
IsRefusedNow t head c n = (k replicas : ℕ) (token : Option ℕ) (cs : List Change) → head ≡ head_at_most replicas token
    → refused_in_turn k (room_of t) replicas token t.shown (c ∷ cs) ≡ Some (k, n)

-- a copy of a document, with the clock and the next counter of a causally closed list
pub record IsBehind (m : Copying) (ops : List Op) : Type 0 where
  pub closed : IsCausallyClosed ops
  pub stands : StandsFor m.doc ops
  pub clock : m.clock ≡ clock_of ops
  pub counter : m.counter ≡ greatest_counter ops + 1

-- the copy is one of after these operations and those made so far, and these changes are still to be made
pub record IsMaking (m : Copying) (ops : List Op) (replica doc : ℕ) (token : Option ℕ) (all left : List Change) : Type 0 where
  pub behind : IsBehind m (ops ++ m.ops.items)
  pub number : doc_number m.doc ≡ doc
  pub due : NoneRefused (ops ++ m.ops.items) replica doc token left
  pub made : m.ops.items ++ made_in_turn (ops ++ m.ops.items) replica doc token left ≡ made_in_turn ops replica doc token all
