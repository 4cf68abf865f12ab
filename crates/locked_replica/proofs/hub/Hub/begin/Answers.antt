use Rattle.std.proofs.Common.{◌≡◌, false, not, ◌&&◌, refl, sym, ◌∙◌, Result, Ok, Err}
use Rattle.group_commit.specs.declared.error.StoreError.{StoreError}
use Rattle.hub_parts.specs.Meeting.{Meets}
use Rattle.hub_parts.specs.declared.met.Met.{Met}
use Rattle.hub_parts.specs.declared.met.Met.TheVariants.{Begun, Nothing}
use Rattle.op_model.specs.Machine.{begin}
use Rattle.locked_replica.specs.Calls.{IsCall}
use Rattle.locked_replica.proofs.MetCalls.{as_begun, begin_has, begin_met}
use Rattle.locked_replica.proofs.PartsFit.{hub_of}
use Rattle.locked_replica.proofs.StateLemmas.{answer_due}
use Rattle.locked_replica.proofs.hub.Hub.begin.Goals.{else-not-has_failed-via-then-not-has_failed+else-is_due}
use Rattle.locked_replica.proofs.hub.Hub.begin.Goals.{else-not-has_failed-via-else-not-has_failed, in-Ok-Begun, in-Ok-Nothing, in-Err}
use Rattle.locked_replica.proofs.hub.Hub.begin.Goals as goal

pub returns-then-is_due : goal.returns-then-is_due
returns-then-is_due g c =
    record {
      call = rw (sym c.self.view_is) (begin_has g.D.DiskFacts c.self.inside.locked c.self.inside.flusher (λ disk told. g.met.D.Disk.lawful disk told) c.kept.ensures c.kept-2.ensures c.self.invariant
          (sym c.has_failed.ensures ∙ c.if-not-has_failed.true) (sym c.is_due.ensures ∙ c.if-is_due.true));
    }

pub returns : goal.returns
returns g c =
    let none : (not c.self.inside.flusher.store.failed && c.self.inside.flusher.due) ≡ false = elim c.else-not-has_failed.branch [
      | else-not-has_failed-via-then-not-has_failed+else-is_due w ↦ rw (sym c.has_failed.ensures ∙ w.if-not-has_failed.true, sym w.is_due.ensures ∙ w.if-is_due.false) refl
      | else-not-has_failed-via-else-not-has_failed w ↦ rw (sym c.has_failed.ensures ∙ w.if-not-has_failed.false) refl
    ] in
    let call : (answer : Result Met StoreError) → Meets g.D.DiskFacts c.self.inside.locked c.self.inside.flusher answer c.meet-answer.new.locked c.meet-answer.new.self
    → IsCall g.D.DiskFacts begin (answer_due (as_begun answer)) (hub_of c.self.inside.locked c.self.inside.flusher) (hub_of c.meet-answer.new.locked c.meet-answer.new.self) =
    λ answer met. (begin_met g.D.DiskFacts c.self.inside.locked c.self.inside.flusher (λ disk told. g.met.D.Disk.lawful disk told) c.kept.ensures c.kept-2.ensures c.self.invariant
    answer c.meet-answer.new.locked c.meet-answer.new.self none c.kept-3.ensures c.kept-4.ensures (c.meet-answer.ensures.fits c.self.invariant) met) in
    elim c.match-answer.branch [
      | in-Ok-Begun w ↦
          let same : w.in-Ok-Begun.field-0 ≡ Begun w.in-Ok-Begun.count = rw w.in-Ok-Begun.is at w.in-Ok-Begun.field-0-is in
          record { call = rw (w.result-is, sym c.self.view_is) (call (Ok (Begun w.in-Ok-Begun.count)) (rw (w.in-Ok-Begun.is, same) at c.meet-answer.ensures.met)) }
      | in-Ok-Nothing w ↦
          let same : w.in-Ok-Nothing.field-0 ≡ Nothing = rw w.in-Ok-Nothing.is at w.in-Ok-Nothing.field-0-is in
          record { call = rw (w.result-is, sym c.self.view_is) (call (Ok Nothing) (rw (w.in-Ok-Nothing.is, same) at c.meet-answer.ensures.met)) }
      | in-Err w ↦ record { call = rw (w.result-is, sym c.self.view_is) (call (Err w.in-Err.error) w.in-Err.ensures.met) }
    ]
