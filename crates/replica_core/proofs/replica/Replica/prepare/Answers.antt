use Rattle.std.proofs.Common.{◌≡◌, ◌∙◌, ℕ, List, Result, Ok, Err, ap, sym}
use Rattle.std.specs.Prelude.{IfOk}
use Rattle.op_model.specs.Held.{ReplicaHeld}
use Rattle.op_model.specs.Actions.{refusal_of, Asked}
use Rattle.op_model.specs.declared.op.Op.{Op}
use Rattle.replica_core.specs.Decided.{IsPrepared}
use Rattle.replica_core.specs.declared.prepared.Prepared.{Prepared}
use Rattle.replica_core.specs.declared.refusal.Refusal.{Refusal}
use Rattle.replica_core.proofs.replica.Replica.prepare.Goals as goal

-- what is prepared for whoever has this list and this name is prepared for one of them
for_one : (made : Result Prepared Refusal) (h : ReplicaHeld) (e : Asked) (list : List Op) (replica : ℕ) → h.list ≡ list → h.replica ≡ replica
    → IfOk made (λ p. (h : ReplicaHeld) → h.list ≡ list → h.replica ≡ replica → IsPrepared h e p) → IfOk made (IsPrepared h e)
for_one (Ok p) h e list replica has named each = each h has named
for_one (Err e) h edit list replica has named each = tt

pub prepared-requires-clause-due : goal.prepared-requires-clause-due
prepared-requires-clause-due c =
    ap (λ (list : List Op). refusal_of list c.self.inside.id c.args.edit.now) c.as_slice-ops.ensures ∙ (rw (← c.self.view_is) at c.requires).can.due

pub returns-clause-prepared : goal.returns-clause-prepared
returns-clause-prepared c =
    let list : c.self.inside.log.list ≡ c.args.self.now.list = ap (λ (h : ReplicaHeld). h.list) c.self.view_is in
    let name : c.self.inside.id ≡ c.args.self.now.replica = ap (λ (h : ReplicaHeld). h.replica) c.self.view_is in
    for_one c.prepared.result c.args.self.now c.args.edit.now c.as_slice-ops.result c.self.inside.id (sym (c.as_slice-ops.ensures ∙ list)) (sym name) c.prepared.ensures.prepared
