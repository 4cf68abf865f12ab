-- Why a shared hub refuses an edit.
use Rattle.std.proofs.Common.{◌≡◌, ◌≢◌, Bool, true, false, IsTrue, ◌⊎◌, inl, inr, refl}
use Rattle.op_model.specs.Actions.{Asked}
use Rattle.fixed_numbers.specs.declared.refusals.TheConstants.{MEMORY}
use Rattle.op_model.specs.Machine.{edit, refused}
use Rattle.hub_parts.specs.Locked.{state_of, LockedHeld}
use Rattle.placed_edits.specs.Placed.{Placed}
use Rattle.session_threads.specs.HubCalls.{is_edit_refusal as is_hub_refusal}
use Rattle.session_threads.proofs.EditLemmas.{edit_refusals}
use Rattle.shared_hub.specs.Books.{PassHeld}
use Rattle.shared_hub.specs.Refusal.{number_of, told_at}
use Rattle.shared_hub.specs.Shared.{asked_then, IsWithoutMemory, Makes, RefusesAsked}
use Rattle.shared_hub.specs.declared.refusal.SharedRefusal.{SharedRefusal}
use Rattle.shared_hub.specs.declared.refusal.SharedRefusal.TheVariants as refusal
use Rattle.shared_desk.specs.Serving.{is_edit_refusal}

is_true : (b : Bool) → IsTrue b → b ≡ true
is_true true is = refl
is_true false is = absurd (cc)

by_number : (r : SharedRefusal) → number_of r ≡ MEMORY → is_edit_refusal r ≡ true
by_number (refusal.Locked l) is = rw is refl
by_number (refusal.Change l at) is = rw is refl
by_number refusal.Stopping is = refl

asked_refused : (r : SharedRefusal) (e : Asked) (before after : LockedHeld) (old : PassHeld)
    → Makes before after (edit old.number e) (refused (number_of r)) → IsTrue (is_hub_refusal (number_of r))
asked_refused r e before after old makes = edit_refusals (state_of before) (state_of after) old.number e (number_of r) makes.step

-- an edit is refused so
pub edit_refused : (r : SharedRefusal) (old : PassHeld) (p : Placed)
    → (r ≢ refusal.Stopping → RefusesAsked (asked_then p) old (number_of r) (told_at r) ⊎ IsWithoutMemory old p r) → is_edit_refusal r ≡ true
edit_refused refusal.Stopping old p refuses = refl
edit_refused (refusal.Locked l) old p refuses = elim (refuses (λ same. let never : ⊥ = cc in never)) [
  | inl it ↦ is_true _ (asked_refused (refusal.Locked l) it.asked it.refuses.before it.refuses.after old it.refuses.makes.makes)
  | inr it ↦ by_number (refusal.Locked l) it.number
]
edit_refused (refusal.Change l at) old p refuses = elim (refuses (λ same. let never : ⊥ = cc in never)) [
  | inl it ↦ is_true _ (asked_refused (refusal.Change l at) it.asked it.refuses.before it.refuses.after old it.refuses.makes.makes)
  | inr it ↦ by_number (refusal.Change l at) it.number
]
