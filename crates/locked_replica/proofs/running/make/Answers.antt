use Rattle.std.proofs.Common.{sym}
use Rattle.locked_replica.proofs.running.make.Goals as goal
use Rattle.locked_replica.proofs.running.make.Goals.{in-Edit, in-Merge+in_ok-op-in-Merge, in-Begin, in-DeviceStep, in-Settle, in-Ack, in-Tell, in-Have}

pub returns-clause-call : goal.returns-clause-call
returns-clause-call g c = elim c.match-step.branch [
  | in-Edit w ↦ rw (w.in-Edit.is, w.result-is, w.hub-is) w.edit.ensures.call
  | in-Merge+in_ok-op-in-Merge w ↦ rw (w.in-Merge.is, w.result-is, w.hub-is, sym w.in_ok-op-in-Merge.ensures) w.merge.ensures.call
  | in-Begin w ↦ rw (w.in-Begin.is, w.result-is, w.hub-is) w.begin.ensures.call
  | in-DeviceStep w ↦ rw (w.in-DeviceStep.is, w.result-is, w.hub-is) w.device_step.ensures.call
  | in-Settle w ↦ rw (w.in-Settle.is, w.result-is, w.hub-is) w.settle.ensures.call
  | in-Ack w ↦ rw (w.in-Ack.is, w.result-is, w.hub-is) w.ack.ensures.call
  | in-Tell w ↦ rw (w.in-Tell.is, w.result-is, w.hub-is) w.tell.ensures.call
  | in-Have w ↦ rw (w.in-Have.is, w.result-is, w.hub-is) w.have.ensures.call
]

pub returns-clause-phase : goal.returns-clause-phase
returns-clause-phase g c = elim c.match-step.branch [
  | in-Edit w ↦ rw (w.result-is) tt
  | in-Merge+in_ok-op-in-Merge w ↦ rw (w.result-is) tt
  | in-Begin w ↦ rw (w.result-is) tt
  | in-DeviceStep w ↦ rw (w.result-is) w.device_step.ensures.made
  | in-Settle w ↦ rw (w.result-is) tt
  | in-Ack w ↦ rw (w.result-is) tt
  | in-Tell w ↦ rw (w.result-is) tt
  | in-Have w ↦ rw (w.result-is) tt
]

pub returns-clause-kind : goal.returns-clause-kind
returns-clause-kind g c = elim c.match-step.branch [
  | in-Edit w ↦ rw (w.in-Edit.is, w.result-is) tt
  | in-Merge+in_ok-op-in-Merge w ↦ rw (w.in-Merge.is, w.result-is) tt
  | in-Begin w ↦ rw (w.in-Begin.is, w.result-is) tt
  | in-DeviceStep w ↦ rw (w.in-DeviceStep.is, w.result-is) tt
  | in-Settle w ↦ rw (w.in-Settle.is, w.result-is) tt
  | in-Ack w ↦ rw (w.in-Ack.is, w.result-is) tt
  | in-Tell w ↦ rw (w.in-Tell.is, w.result-is) tt
  | in-Have w ↦ rw (w.in-Have.is, w.result-is) tt
]
