-- Calls of a hub and their answers, as the machine has them.
use Rattle.std.specs.Prelude.{◌≡◌, ℕ, List, [], ◌∷◌, Result, Ok, Err, IfOk, Option, Some, None}
use Rattle.std.specs.Global.{Vec}
use Rattle.fixed_numbers.specs.declared.refusals.TheConstants.{BUSY, FAILED}
use Rattle.op_model.specs.declared.op.Op.{Op}
use Rattle.op_model.specs.Machine.{Event, edit, merge, begin, device_step, settle, ack, tell, have}
use Rattle.op_model.specs.Machine.{Ticket, Answer, ticket, begun, nothing_new, idle, goes_on}
use Rattle.op_model.specs.Machine.{goes_through, settled_to, acknowledged, operations, clock}
use Rattle.op_model.specs.Machine.{refused}
use Rattle.replica_core.specs.Merging.{answer_of as answer_of_merge}
use Rattle.replica_core.specs.Refusal.{number_of as number_of_replica}
use Rattle.replica_core.specs.declared.merged.Merged.{Merged}
use Rattle.group_commit.specs.Errors.{number_of as number_of_store}
use Rattle.group_commit.specs.Held.{StoreHeld}
use Rattle.group_commit.specs.declared.phase.Phase.{Phase}
use Rattle.group_commit.specs.declared.phase.Phase.TheVariants as phase
use Rattle.locked_replica.specs.declared.refusal.HubRefusal.{HubRefusal}
use Rattle.locked_replica.specs.declared.refusal.HubRefusal.TheVariants as refusal
use Rattle.locked_replica.specs.declared.hub_step.HubStep.{HubStep}
use Rattle.locked_replica.specs.declared.hub_step.HubStep.TheVariants as step
use Rattle.locked_replica.specs.declared.hub_reply.HubReply.{HubReply}
use Rattle.locked_replica.specs.declared.hub_reply.HubReply.TheVariants as reply

-- each refusal has one number
abbrev pub number_of : HubRefusal → ℕ
number_of (refusal.Replica e) = number_of_replica e
number_of (refusal.Store e) = number_of_store e
number_of refusal.Full = BUSY
number_of refusal.Failed = FAILED

-- it is no refusal of the store
abbrev pub IsNotOfStore : HubRefusal → Type 0
IsNotOfStore (refusal.Store e) = ⊥
IsNotOfStore (refusal.Replica e) = Unit {0}
IsNotOfStore refusal.Full = Unit {0}
IsNotOfStore refusal.Failed = Unit {0}

-- the machine's answer to an edit
abbrev pub edited : Result Ticket HubRefusal → Answer
edited (Ok t) = ticket t
edited (Err e) = refused (number_of e)

-- to a merge
abbrev pub merge_answered : Result Merged HubRefusal → Answer
merge_answered (Ok m) = answer_of_merge m
merge_answered (Err e) = refused (number_of e)

-- to a begin
abbrev pub begun_of : Option ℕ → Answer
begun_of (Some n) = begun n
begun_of None = nothing_new

abbrev pub begin_answered : Result (Option ℕ) HubRefusal → Answer
begin_answered (Ok n) = begun_of n
begin_answered (Err e) = refused (number_of e)

-- to a device step: the commit is through after the call of its last phase
abbrev pub stepped_in : Phase → Answer
stepped_in phase.Idle = idle
stepped_in phase.Sync3 = goes_through
stepped_in p = goes_on

abbrev pub stepped : Result Phase HubRefusal → Answer
stepped (Ok p) = stepped_in p
stepped (Err e) = refused (number_of e)

-- to a settlement
abbrev pub settle_answered : Result ℕ HubRefusal → Answer
settle_answered (Ok n) = settled_to n
settle_answered (Err e) = refused (number_of e)

-- to a telling of operations, and of the clock
abbrev pub told : Result (Vec Op) HubRefusal → Answer
told (Ok ops) = operations ops.items
told (Err e) = refused (number_of e)

abbrev pub had : Result (List (ℕ × ℕ)) HubRefusal → Answer
had (Ok c) = clock c
had (Err e) = refused (number_of e)

-- the machine's event
abbrev pub event_of : HubStep → Event
event_of (step.Edit session e) = edit session e
event_of (step.Merge peer op) = merge peer op
event_of step.Begin = begin
event_of step.DeviceStep = device_step
event_of step.Settle = settle
event_of (step.Ack t) = ack t
event_of (step.Tell c) = tell c
event_of step.Have = have

-- the machine's answer
abbrev pub answer_of : HubReply → Answer
answer_of (reply.Edited r) = edited r
answer_of (reply.Merged r) = merge_answered r
answer_of (reply.Begun r) = begin_answered r
answer_of (reply.Stepped r) = stepped r
answer_of (reply.Settled r) = settle_answered r
answer_of (reply.Acknowledged r) = acknowledged r
answer_of (reply.Told r) = told r
answer_of (reply.Had r) = had r

-- the reply is one to this call: of its kind
abbrev pub IsReplyTo : HubStep → HubReply → Type 0
IsReplyTo (step.Edit session e) (reply.Edited r) = Unit {0}
IsReplyTo (step.Merge peer op) (reply.Merged r) = Unit {0}
IsReplyTo step.Begin (reply.Begun r) = Unit {0}
IsReplyTo step.DeviceStep (reply.Stepped r) = Unit {0}
IsReplyTo step.Settle (reply.Settled r) = Unit {0}
IsReplyTo (step.Ack t) (reply.Acknowledged r) = Unit {0}
IsReplyTo (step.Tell c) (reply.Told r) = Unit {0}
IsReplyTo step.Have (reply.Had r) = Unit {0}
IsReplyTo s r = ⊥

-- a reply to a device step names the phase of the store that the call found
abbrev pub NamesPhase : {D : Type 0} → HubReply → StoreHeld D → Type 0
NamesPhase (reply.Stepped r) store = IfOk r (λ p. p ≡ store.phase)
NamesPhase r store = Unit {0}

-- each reply is one to its call, as far as there are replies
abbrev pub AreRepliesTo : List HubStep → List HubReply → Type 0
AreRepliesTo ss [] = Unit {0}
AreRepliesTo [] (r ∷ rs) = ⊥
AreRepliesTo (s ∷ ss) (r ∷ rs) = IsReplyTo s r × AreRepliesTo ss rs

-- calls with their answers, as far as there are answers
abbrev pub events_of : List HubStep → List HubReply → List (Event × Answer)
events_of [] rs = []
events_of (s ∷ ss) [] = []
events_of (s ∷ ss) (r ∷ rs) = (event_of s, answer_of r) ∷ events_of ss rs
