-- What is answered to an edit, by what became of it.
use Rattle.std.proofs.Common.{◌≡◌, ◌≢◌, ℕ, ◌<◌, ◌↔◌, ◌⊎◌, ◌∙◌, true, None, refl, inl, inr}
use Rattle.op_model.specs.Actions.{Asked}
use Rattle.op_model.specs.Machine.{Ticket, ack, acknowledged, known_ticket}
use Rattle.fixed_numbers.specs.declared.refusals.TheConstants.{MEMORY}
use Rattle.hub_parts.specs.Locked.{LockedHeld}
use Rattle.hub_parts.proofs.AskedLemmas.{same_token}
use Rattle.placed_edits.specs.Placed.{Placed}
use Rattle.session_lines.specs.Saying.{number_of}
use Rattle.session_lines.specs.declared.answer.Answer.TheVariants.{Edited, Refused}
use Rattle.session_lines.specs.declared.refusal.Refusal.{Refusal}
use Rattle.session_lines.specs.declared.refusal.Refusal.TheVariants.{Busy, Failed, Field, Limit, Line, Memory, Range, Request, Stale, Steps, Stopping, Syntax}
use Rattle.shared_hub.specs.Books.{PassHeld}
use Rattle.shared_hub.specs.Guarded.{after_ticket}
use Rattle.session_threads.specs.HubServing.{refused_answer}
use Rattle.shared_hub.specs.Refusal.{number_of as number_of_shared, told_at}
use Rattle.shared_hub.specs.Shared.{asked_then, EntersAsked, EntersTo, IsWithoutMemory, MomentOf, RefusesAsked}
use Rattle.shared_hub.specs.declared.refusal.SharedRefusal.{SharedRefusal}
use Rattle.shared_hub.specs.declared.refusal.SharedRefusal.TheVariants as refused_as
use Rattle.shared_desk.specs.Serving.{IsRefusedEdit, ServesEdit, ServesPlaced}

-- its ticket was acknowledged
pub edit_acknowledged : (old mid new : PassHeld) (asks : LockedHeld → Asked) (t : Ticket) (rev : ℕ)
    → EntersAsked asks old (after_ticket t old) mid t → EntersTo mid mid new (ack t) (acknowledged true) → t.rev ≡ rev
    → ServesEdit old asks (Edited rev) new
edit_acknowledged old mid new asks t rev edited acked same =
    record { given = t; between = mid; edited = edited; acked = acked; same = same }

-- or at some moment it wasn't settled
pub edit_left_open : (old new : PassHeld) (asks : LockedHeld → Asked) (t : Ticket) → EntersAsked asks old (after_ticket t old) new t
    → MomentOf new (λ l. l.replica.settled < t.end) → ServesEdit old asks (Refused Failed) new
edit_left_open old new asks t edited unsettled = inr (refl, record { given = t; edited = edited; unsettled = unsettled })

-- or the hub refused it: a change is named only by what refuses one of several
refused_place : (r : SharedRefusal) (refusal : Refusal) (old new : PassHeld) (asks : LockedHeld → Asked)
    → ((refusal ≡ Stopping) ↔ (r ≡ refused_as.Stopping))
    → IsRefusedEdit old asks refusal (told_at r) new → ServesEdit old asks (refused_answer refusal (told_at r)) new
refused_place (refused_as.Locked l) refusal old new asks stopping it = inl it
refused_place (refused_as.Change l at) refusal old new asks stopping it = ((λ is. let never = stopping.0 is in absurd (cc)), it)
refused_place refused_as.Stopping refusal old new asks stopping it = inl it

-- only one refusal is told as out of memory
is_memory : (refusal : Refusal) → number_of refusal ≡ MEMORY → refusal ≡ Memory
is_memory Memory is = refl
is_memory Syntax is = absurd (cc)
is_memory Request is = absurd (cc)
is_memory Field is = absurd (cc)
is_memory Range is = absurd (cc)
is_memory Stale is = absurd (cc)
is_memory Limit is = absurd (cc)
is_memory Busy is = absurd (cc)
is_memory Failed is = absurd (cc)
is_memory Steps is = absurd (cc)
is_memory Line is = absurd (cc)
is_memory Stopping is = absurd (cc)

-- the token is the same by numbers
unknown_then : (old : PassHeld) (p : Placed) → MomentOf old (λ l. known_ticket l.replica p.asked ≡ None)
    → MomentOf old (λ l. known_ticket l.replica (asked_then p l) ≡ None)
unknown_then old p it = record {
  locked = it.locked;
  sound = it.sound;
  mine = it.mine;
  holds = same_token it.locked.replica p ∙ it.holds;
}

-- why it was refused, while the lock was held
refused_while : (r : SharedRefusal) (refusal : Refusal) (old new : PassHeld) (p : Placed) → number_of refusal ≡ number_of_shared r
    → ((refusal ≡ Stopping) ↔ (r ≡ refused_as.Stopping)) → new ≡ old
    → (r ≡ refused_as.Stopping → MomentOf old (λ l. known_ticket l.replica p.asked ≡ None))
    → (RefusesAsked (asked_then p) old (number_of_shared r) (told_at r) ⊎ IsWithoutMemory old p r)
    → ServesPlaced old p (refused_answer refusal (told_at r)) new
refused_while r refusal old new p number stopping same unknown (inl refuses) =
    inl (refused_place r refusal old new (asked_then p) stopping (record {
      same = same;
      cause = λ other. rw number refuses;
      stopped = λ is. unknown_then old p (unknown (stopping.0 is));
    }))
refused_while r refusal old new p number stopping same unknown (inr it) =
    inr (it.has_places, it.new, rw (it.whole, is_memory refusal (number ∙ it.number)) refl, same)

pub edit_refused_so : (r : SharedRefusal) (refusal : Refusal) (old new : PassHeld) (p : Placed) → number_of refusal ≡ number_of_shared r
    → ((refusal ≡ Stopping) ↔ (r ≡ refused_as.Stopping)) → new ≡ old
    → (r ≡ refused_as.Stopping → MomentOf old (λ l. known_ticket l.replica p.asked ≡ None))
    → (r ≢ refused_as.Stopping → RefusesAsked (asked_then p) old (number_of_shared r) (told_at r) ⊎ IsWithoutMemory old p r)
    → ServesPlaced old p (refused_answer refusal (told_at r)) new
edit_refused_so refused_as.Stopping refusal old new p number stopping same unknown refuses =
    inl (inl (record {
      same = same;
      cause = λ other. absurd (other (stopping.1 refl));
      stopped = λ is. unknown_then old p (unknown refl);
    }))
edit_refused_so (refused_as.Locked l) refusal old new p number stopping same unknown refuses =
    refused_while (refused_as.Locked l) refusal old new p number stopping same unknown (refuses (λ is. let never : ⊥ = cc in never))
edit_refused_so (refused_as.Change l at) refusal old new p number stopping same unknown refuses =
    refused_while (refused_as.Change l at) refusal old new p number stopping same unknown (refuses (λ is. let never : ⊥ = cc in never))
