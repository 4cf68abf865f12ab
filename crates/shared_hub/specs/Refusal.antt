-- Why a shared hub refuses a call, and the machine's answers.
use Rattle.std.specs.Prelude.{ℕ, List, Option, Some, None, Result, Ok, Err}
use Rattle.std.specs.Global.{Vec}
use Rattle.fixed_numbers.specs.declared.refusals.TheConstants.{STOPPING}
use Rattle.op_model.specs.declared.op.Op.{Op}
use Rattle.op_model.specs.Machine.{Ticket, Answer, ticket, operations, clock, refused}
use Rattle.replica_core.specs.Merging.{answer_of}
use Rattle.replica_core.specs.declared.merged.Merged.{Merged}
use Rattle.hub_parts.specs.Refusal.{number_of as number_of_locked}
use Rattle.shared_hub.specs.declared.refusal.SharedRefusal.{SharedRefusal}
use Rattle.shared_hub.specs.declared.refusal.SharedRefusal.TheVariants as refusal

-- each refusal has one number
abbrev pub number_of : SharedRefusal → ℕ
number_of (refusal.Locked e) = number_of_locked e
number_of (refusal.Change e at) = number_of_locked e
number_of refusal.Stopping = STOPPING

-- the change of several that is told with it, if there is one
abbrev pub told_at : SharedRefusal → Option ℕ
told_at (refusal.Locked e) = None
told_at (refusal.Change e at) = Some at
told_at refusal.Stopping = None

-- the machine's answer to an edit
abbrev pub edited : Result Ticket SharedRefusal → Answer
edited (Ok t) = ticket t
edited (Err e) = refused (number_of e)

-- to a merge
abbrev pub merged : Result Merged SharedRefusal → Answer
merged (Ok m) = answer_of m
merged (Err e) = refused (number_of e)

-- to a telling of operations, and of the clock
abbrev pub told : Result (Vec Op) SharedRefusal → Answer
told (Ok ops) = operations ops.items
told (Err e) = refused (number_of e)

abbrev pub had : Result (List (ℕ × ℕ)) SharedRefusal → Answer
had (Ok c) = clock c
had (Err e) = refused (number_of e)
