-- What is decided of an action.
use Rattle.std.specs.Prelude.{◌≡◌, ◌<◌, ◌++◌, length}
use Rattle.op_model.specs.Actions.{made_by_action, Asked}
use Rattle.op_model.specs.Causality.{clock_of, documents}
use Rattle.op_model.specs.Machine.{edit_length}
use Rattle.op_model.specs.Rising.{IsPlace}
use Rattle.op_model.specs.Text.{rev}
use Rattle.replica_core.specs.declared.decided.Decided.{Decided}
use Rattle.replica_core.specs.declared.prepared.Prepared.{Prepared}
use Rattle.replica_core.specs.Edited.{ops_of, IsCopyOf}
use Rattle.op_model.specs.Held.{ReplicaHeld}
use Rattle.replica_core.specs.Held.{CanEdit}

-- nothing refuses the action, there has to be room for d.bytes bytes that wait, and its document has this place
pub record IsDecided (h : ReplicaHeld) (e : Asked) (d : Decided) : Type 0 where
  pub can : CanEdit h e
  pub length : d.bytes ≡ edit_length h e
  pub place : IsPlace (documents h.list) e.doc d.place

-- these are the action's operations, which are some, the clock of the list with them, and how long the list and the document are then; where a
-- copy of the document has them, it stands for all
pub record IsPrepared (h : ReplicaHeld) (e : Asked) (p : Prepared) : Type 0 where
  pub operations : ops_of p.edited ≡ made_by_action h.list h.replica e
  pub some : 0 < length (made_by_action h.list h.replica e)
  pub clock : p.clock ≡ clock_of (h.list ++ made_by_action h.list h.replica e)
  pub end : p.place.end ≡ length (h.list ++ made_by_action h.list h.replica e)
  pub number : p.place.rev ≡ rev (h.list ++ made_by_action h.list h.replica e) e.doc
  pub copy : IsCopyOf p.edited h.list e.doc
