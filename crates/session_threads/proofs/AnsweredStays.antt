-- An edit that was answered is in every file that a crash leaves from then on.
use Rattle.std.proofs.Common.{◌≡◌, ℕ, zero, ◌+◌, ◌≤◌, Bool, true, false, List, [], ◌∷◌, ◌++◌, take}
use Rattle.std.proofs.Common.{refl, sym, ap, ◌∙◌, subst, arith, append_assoc, append-nil}
use Rattle.byte_streams.specs.Fronts.{BeginsWith}
use Rattle.disk_trait.specs.Calls.{IsLawful}
use Rattle.disk_trait.specs.declared.facts.DiskFacts.{Ghosts}
use Rattle.op_model.specs.declared.op.Op.{Op}
use Rattle.op_model.specs.Actions.{Asked}
use Rattle.op_model.specs.Machine.{Event, Answer as Reply, edit, ticket}
use Rattle.locked_replica.specs.Hub.{Parts, state_of}
use Rattle.locked_replica.specs.Run.{Calls, calls_made}
use Rattle.locked_replica.proofs.MachineSteps.{step_goes}
use Rattle.locked_replica.proofs.RunLemmas.{ran_none}
use Rattle.session_lines.specs.declared.answer.Answer.TheVariants.{Edited, Refused}
use Rattle.session_lines.specs.declared.refusal.Refusal.TheVariants.{Stopping}
use Rattle.session_threads.specs.ActsOnce.{Survives}
use Rattle.session_threads.specs.Answered.{AnsweredStay}
use Rattle.session_threads.specs.HeldDesk.{HeldDesk}
use Rattle.session_threads.specs.HubServing.{comes_too_late, IsAcknowledged, ServesEdit}
use Rattle.session_threads.proofs.CallLemmas.{Calls-append}
use Rattle.session_threads.proofs.HeldTokens.{acks_settle, session_goes, stays_safe}
use Rattle.session_threads.proofs.RanLemmas.{ran_calls}

module _ {D : Type 0} (facts : Ghosts D) where
  -- calls only lengthen the list
  grows : (old new : Parts D) (events : List (Event × Reply)) → Calls facts old events new → BeginsWith new.replica.list old.replica.list
  grows old new [] same = ([], ap (λ (h : Parts D). h.replica.list) same ∙ sym (append-nil old.replica.list))
  grows old new (e ∷ es) (mid, one, more) =
      let went = step_goes (state_of old) e.0 e.1 (state_of mid) one.step in
      let (rest, is) = grows mid new es more in
      (went.more ++ rest, is ∙ ap (λ (ops : List Op). ops ++ rest) went.grows ∙ append_assoc old.replica.list went.more rest)

  -- an edit that comes too late isn't answered a rev
  acknowledged_unless : (late : Bool) (rev : ℕ) (old new : HeldDesk D) (e : Asked) → comes_too_late old e ≡ late
      → ServesEdit facts old e (Edited rev) new → IsAcknowledged facts old.session old.hub new.hub e rev
  acknowledged_unless true rev old new e is it =
      let served = rw (is, ServesEdit) at it in let other : Edited rev ≡ Refused Stopping = served.0 in absurd (cc)
  acknowledged_unless false rev old new e is it = (rw (is, ServesEdit) at it).0

module _ {D : Type 0} (facts : Ghosts D) (lawful : (disk : D) → facts.tells disk → IsLawful facts disk) where
  pub answered_stay : (old : HeldDesk D) → Survives facts old.hub → AnsweredStay facts old
  answered_stay old safe e rev before after last file lines served more tells left =
      let (events, calls) = session_goes facts old before lines in
      let it = acknowledged_unless facts (comes_too_late before e) rev before after e refl served in
      let (mid, one, acks) = it.calls in
      let own : List (Event × Reply) = (edit before.session e, ticket it.given) ∷ it.acks in
      let safe_then = stays_safe facts before.hub after.hub own it.calls (stays_safe facts old.hub before.hub events calls safe) in
      let first_none = ran_none facts old.hub (lawful old.hub.store.disk) safe.settled safe.image in
      let first = ran_calls facts lawful old.hub old.hub after.hub [] (events ++ own) first_none
      (Calls-append facts old.hub before.hub after.hub events own calls it.calls) in
      let (later, next) = session_goes facts after last more in
      let none = ran_none facts after.hub (lawful after.hub.store.disk) safe_then.settled safe_then.image in
      let ran = ran_calls facts lawful after.hub after.hub last.hub [] later none next in
      let now : facts.time after.hub.store.disk ≡ facts.time after.hub.store.disk + calls_made (take zero later) = omega arith in
      let has = ran.fronts (first.tells.1 tells) 0 file (omega arith) (subst (λ t. facts.left_since last.hub.store.disk t file) now left) in
      let settled = acks_settle facts mid after.hub it.given it.acks it.how acks in
      record {
        given = it.given;
        made = state_of mid;
        step = one.step;
        same = it.same;
        grown = grows facts mid last.hub (it.acks ++ later) (Calls-append facts mid after.hub last.hub it.acks later acks next);
        has = record {
          version = has.version;
          count = has.count;
          enough = omega (arith, settled, has.enough);
          within = has.within;
          whole = has.whole;
          image = has.image;
        };
      }
