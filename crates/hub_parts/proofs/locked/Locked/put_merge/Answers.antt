use Rattle.std.proofs.Common.{[], ◌∷◌, sym, ap, ◌∙◌}
use Rattle.op_model.specs.Records.{record_length}
use Rattle.op_model.specs.Waiting.{waiting_length}
use Rattle.hub_parts.specs.Locked.{LockedHeld}
use Rattle.hub_parts.proofs.KeptParts.{keeps_merge}
use Rattle.hub_parts.proofs.WaitLemmas.{counts_grown, waits_grown}
use Rattle.hub_parts.proofs.WaitingLengths.{waits_merge}
use Rattle.hub_parts.proofs.TypedWaits.{one_adds}
use Rattle.hub_parts.proofs.locked.Locked.put_merge.Goals as goal

pub invariant_of-self-in-Ok : goal.invariant_of-self-in-Ok
invariant_of-self-in-Ok c =
    let l : LockedHeld = record { replica = c.self.inside.replica; begun = c.self.inside.begun; failure_told = c.self.inside.failure_told } in
    let within = c.self.invariant.0.within in
    let merged = c.in-Ok.ensures.merged in (
      keeps_merge l c.put_merge.new.self c.args.peer c.args.op c.self.invariant.0 (rw (sym c.self.view_is) at c.requires.room) merged,
      waits_grown l.replica c.put_merge.new.self l.begun (record_length c.args.op) (c.args.op ∷ []) c.self.inside.waiting.items c.put_op.new.out.items
          c.self.invariant.1 within (ap (λ h. h.list) merged)
          (ap (λ h. waiting_length l.begun h.steps h.list) merged ∙ waits_merge l.replica c.args.peer c.args.op l.begun within)
          (one_adds c.args.op c.self.inside.waiting.items c.put_op.new.out.items c.every_op_has_a_spelling.ensures c.in_ok-put_op.ensures.ok),
      counts_grown l.replica c.put_merge.new.self l.begun c.self.inside.begun_bytes (c.args.op ∷ []) c.self.invariant.2 within (ap (λ h. h.list) merged),
    )
