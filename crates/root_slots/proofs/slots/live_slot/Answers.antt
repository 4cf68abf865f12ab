use Rattle.std.proofs.Common.{arith}
use Rattle.root_slots.proofs.SlotReads.{live_of}
use Rattle.root_slots.proofs.slots.live_slot.Goals as goal

pub returns-clause-slot : goal.returns-clause-slot
returns-clause-slot c =
    rw (live_of c.args.slots.now c.body_at.result.now c.body_at-2.result.now _ _ _ _ (omega (arith, c.requires)) c.gate_of.ensures c.gate_of-2.ensures
    c.body_at.ensures.body c.body_at-2.ensures.body c.version_at.ensures c.version_at-2.ensures) c.picked.ensures.slot

pub returns-clause-fault : goal.returns-clause-fault
returns-clause-fault c =
    rw (live_of c.args.slots.now c.body_at.result.now c.body_at-2.result.now _ _ _ _ (omega (arith, c.requires)) c.gate_of.ensures c.gate_of-2.ensures
    c.body_at.ensures.body c.body_at-2.ensures.body c.version_at.ensures c.version_at-2.ensures) c.picked.ensures.fault
