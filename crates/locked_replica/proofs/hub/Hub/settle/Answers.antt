use Rattle.std.proofs.Common.{◌≡◌, false, not, ◌&&◌, refl, sym, ap, ◌∙◌, Result, Ok, Err}
use Rattle.group_commit.specs.Begin.{is_idle}
use Rattle.group_commit.specs.declared.error.StoreError.{StoreError}
use Rattle.hub_parts.specs.Meeting.{Meets}
use Rattle.hub_parts.specs.declared.met.Met.{Met}
use Rattle.hub_parts.specs.declared.met.Met.TheVariants.{Begun, Settled, Nothing}
use Rattle.op_model.specs.Machine.{settle}
use Rattle.locked_replica.specs.Calls.{IsCall}
use Rattle.locked_replica.specs.Hub.{is_through}
use Rattle.locked_replica.proofs.MetCalls.{as_settled, never_begun, never_nothing, settle_met, settles_alone, through_is}
use Rattle.locked_replica.proofs.PartsFit.{hub_fits, hub_of}
use Rattle.locked_replica.proofs.Settling.{settle_busy}
use Rattle.locked_replica.proofs.hub.Hub.settle.Goals.{else-not-has_failed-via-then-not-has_failed+else-not-is_through}
use Rattle.locked_replica.proofs.hub.Hub.settle.Goals.{else-not-has_failed-via-else-not-has_failed, in-Ok-Settled, in-Err}
use Rattle.locked_replica.proofs.hub.Hub.settle.Goals as goal

pub returns-then-not-is_through : goal.returns-then-not-is_through
returns-then-not-is_through g c =
    let fits = hub_fits g.D.DiskFacts c.self.inside.locked c.self.inside.flusher c.kept.ensures c.kept-2.ensures c.self.invariant in
    let works = sym c.has_failed.ensures ∙ c.if-not-has_failed.true in
    let none = ap is_through c.self.view_is ∙ sym c.is_through.ensures ∙ c.if-not-is_through.true in
    rw (sym c.self.view_is) (record { call = settle_busy g.D.DiskFacts c.self.inside.locked.replica c.self.inside.flusher.store (λ told. g.met.D.Disk.lawful c.self.inside.flusher.store.disk told) fits works none })

pub unreachable-requires : goal.unreachable-requires
unreachable-requires g c =
    let through = through_is g.D.DiskFacts c.self.inside.locked c.self.inside.flusher (λ disk told. g.met.D.Disk.lawful disk told) c.kept.ensures c.kept-2.ensures c.self.invariant in
    let none : (not c.self.inside.flusher.store.failed && not (c.self.inside.flusher.due && is_idle c.self.inside.flusher.store.phase)) ≡ false = elim c.else-not-has_failed.branch [
      | else-not-has_failed-via-then-not-has_failed+else-not-is_through w ↦
          let is = through ∙ ap is_through c.self.view_is ∙ sym w.is_through.ensures ∙ w.if-not-is_through.false in
          rw (sym c.has_failed.ensures ∙ w.if-not-has_failed.true, is) refl
      | else-not-has_failed-via-else-not-has_failed w ↦ rw (sym c.has_failed.ensures ∙ w.if-not-has_failed.false) refl
    ] in
    let alone = settles_alone g.D.DiskFacts c.self.inside.locked c.self.inside.flusher (λ disk told. g.met.D.Disk.lawful disk told) c.kept.ensures c.kept-2.ensures c.self.invariant
    c.meet-answer.result none c.meet-answer.ensures.met.answer in
    let same : c.in-Ok-Begun.field-0 ≡ Begun c.in-Ok-Begun.field-0-0 = rw c.in-Ok-Begun.is at c.in-Ok-Begun.field-0-is in
    never_begun c.meet-answer.result c.in-Ok-Begun.field-0-0 c.self.inside.locked.begun (c.in-Ok-Begun.is ∙ ap Ok same) alone

pub unreachable-requires-in-Ok-Nothing : goal.unreachable-requires-in-Ok-Nothing
unreachable-requires-in-Ok-Nothing g c =
    let through = through_is g.D.DiskFacts c.self.inside.locked c.self.inside.flusher (λ disk told. g.met.D.Disk.lawful disk told) c.kept.ensures c.kept-2.ensures c.self.invariant in
    let none : (not c.self.inside.flusher.store.failed && not (c.self.inside.flusher.due && is_idle c.self.inside.flusher.store.phase)) ≡ false = elim c.else-not-has_failed.branch [
      | else-not-has_failed-via-then-not-has_failed+else-not-is_through w ↦
          let is = through ∙ ap is_through c.self.view_is ∙ sym w.is_through.ensures ∙ w.if-not-is_through.false in
          rw (sym c.has_failed.ensures ∙ w.if-not-has_failed.true, is) refl
      | else-not-has_failed-via-else-not-has_failed w ↦ rw (sym c.has_failed.ensures ∙ w.if-not-has_failed.false) refl
    ] in
    let alone = settles_alone g.D.DiskFacts c.self.inside.locked c.self.inside.flusher (λ disk told. g.met.D.Disk.lawful disk told) c.kept.ensures c.kept-2.ensures c.self.invariant
    c.meet-answer.result none c.meet-answer.ensures.met.answer in
    let same : c.in-Ok-Nothing.field-0 ≡ Nothing = rw c.in-Ok-Nothing.is at c.in-Ok-Nothing.field-0-is in
    never_nothing c.meet-answer.result c.self.inside.locked.begun (c.in-Ok-Nothing.is ∙ ap Ok same) alone

pub returns : goal.returns
returns g c =
    let through = through_is g.D.DiskFacts c.self.inside.locked c.self.inside.flusher (λ disk told. g.met.D.Disk.lawful disk told) c.kept.ensures c.kept-2.ensures c.self.invariant in
    let none : (not c.self.inside.flusher.store.failed && not (c.self.inside.flusher.due && is_idle c.self.inside.flusher.store.phase)) ≡ false = elim c.else-not-has_failed.branch [
      | else-not-has_failed-via-then-not-has_failed+else-not-is_through w ↦
          let is = through ∙ ap is_through c.self.view_is ∙ sym w.is_through.ensures ∙ w.if-not-is_through.false in
          rw (sym c.has_failed.ensures ∙ w.if-not-has_failed.true, is) refl
      | else-not-has_failed-via-else-not-has_failed w ↦ rw (sym c.has_failed.ensures ∙ w.if-not-has_failed.false) refl
    ] in
    let call : (answer : Result Met StoreError) → Meets g.D.DiskFacts c.self.inside.locked c.self.inside.flusher answer c.meet-answer.new.locked c.meet-answer.new.self
    → IsCall g.D.DiskFacts settle (as_settled answer) (hub_of c.self.inside.locked c.self.inside.flusher) (hub_of c.meet-answer.new.locked c.meet-answer.new.self) =
    λ answer met. settle_met g.D.DiskFacts c.self.inside.locked c.self.inside.flusher (λ disk told. g.met.D.Disk.lawful disk told) c.kept.ensures c.kept-2.ensures c.self.invariant
    answer c.meet-answer.new.locked c.meet-answer.new.self none c.kept-3.ensures c.kept-4.ensures (c.meet-answer.ensures.fits c.self.invariant) met in
    elim c.match-answer.branch [
      | in-Ok-Settled w ↦
          let same : w.in-Ok-Settled.field-0 ≡ Settled w.in-Ok-Settled.count = rw w.in-Ok-Settled.is at w.in-Ok-Settled.field-0-is in
          rw (w.result-is, sym c.self.view_is) (record { call = call (Ok (Settled w.in-Ok-Settled.count)) (rw (w.in-Ok-Settled.is, same) at c.meet-answer.ensures.met) })
      | in-Err w ↦ rw (w.result-is, sym c.self.view_is) (record { call = call (Err w.in-Err.error) w.in-Err.ensures.met })
    ]
