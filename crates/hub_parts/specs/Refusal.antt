-- Why the locked part refuses a call, and the machine's answers.
use Rattle.std.specs.Prelude.{ℕ, List, Result, Ok, Err}
use Rattle.std.specs.Global.{Vec}
use Rattle.fixed_numbers.specs.declared.refusals.TheConstants.{BUSY, FAILED}
use Rattle.op_model.specs.declared.op.Op.{Op}
use Rattle.op_model.specs.Machine.{Ticket, Answer, ticket, operations, clock, refused}
use Rattle.replica_core.specs.Merging.{answer_of}
use Rattle.replica_core.specs.Refusal.{number_of as number_of_replica}
use Rattle.replica_core.specs.declared.merged.Merged.{Merged}
use Rattle.hub_parts.specs.declared.refusal.LockedRefusal.{LockedRefusal}
use Rattle.hub_parts.specs.declared.refusal.LockedRefusal.TheVariants as refusal

-- each refusal has one number
abbrev pub number_of : LockedRefusal → ℕ
number_of (refusal.Replica e) = number_of_replica e
number_of refusal.Full = BUSY
number_of refusal.Failed = FAILED

-- the machine's answer to an edit
abbrev pub edited : Result Ticket LockedRefusal → Answer
edited (Ok t) = ticket t
edited (Err e) = refused (number_of e)

-- to a merge
abbrev pub merged : Result Merged LockedRefusal → Answer
merged (Ok m) = answer_of m
merged (Err e) = refused (number_of e)

-- to a telling of operations, and of the clock
abbrev pub told : Result (Vec Op) LockedRefusal → Answer
told (Ok ops) = operations ops.items
told (Err e) = refused (number_of e)

abbrev pub had : Result (List (ℕ × ℕ)) LockedRefusal → Answer
had (Ok c) = clock c
had (Err e) = refused (number_of e)
