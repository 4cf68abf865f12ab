-- What is said of an edit that is refused.
use Rattle.std.proofs.Common.{◌≢◌, subst, Ok, Err}
use Rattle.std.specs.Prelude.{Result, IfErr}
use Rattle.op_model.specs.Actions.{Asked}
use Rattle.op_model.specs.Machine.{Ticket, edit}
use Rattle.shared_hub.specs.Books.{PassHeld}
use Rattle.shared_hub.specs.Guarded.{EntersEdit, GuardedHeld}
use Rattle.shared_hub.specs.Refusal.{edited, number_of, told_at}
use Rattle.shared_hub.specs.Shared.{MakesFor, RefusesEdit}
use Rattle.shared_hub.specs.declared.refusal.SharedRefusal.{SharedRefusal}
use Rattle.shared_hub.specs.declared.refusal.SharedRefusal.TheVariants.{Stopping}

-- the step that refused it, with the change that it is for, at the same moment
unfoldable pub refused_so : (result : Result Ticket SharedRefusal) (e : Asked) (before after : GuardedHeld) (old new : PassHeld)
    → (result ≢ Err Stopping → MakesFor before.locked after.locked old new (edit old.number e) (edited result))
    → EntersEdit result e before old after new → IfErr result (λ r. r ≢ Stopping → RefusesEdit old e (number_of r) (told_at r))
refused_so (Ok t) e before after old new call enters = tt
refused_so (Err r) e before after old new call enters = λ other. record {
  before = before.locked;
  after = after.locked;
  makes = subst (λ p. MakesFor before.locked after.locked old p (edit old.number e) (edited (Err r))) enters.pass (call (λ same. other (cc)));
  told = enters.place;
}
