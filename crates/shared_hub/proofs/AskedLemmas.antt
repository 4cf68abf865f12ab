-- What is said of an edit at places that last.
use Rattle.std.proofs.Common.{◌≡◌, ◌≢◌, ◌⊎◌, ◌∙◌, Bool, true, false, Ok, Err, ap, inl, is_some, sym}
use Rattle.std.specs.Prelude.{Result, IfOk, IfErr}
use Rattle.op_model.specs.Actions.{Asked}
use Rattle.op_model.specs.Held.{ReplicaHeld}
use Rattle.op_model.specs.Machine.{Ticket, edit, known_ticket}
use Rattle.hub_parts.specs.Locked.{LockedHeld}
use Rattle.hub_parts.specs.Asked.{asked_now}
use Rattle.hub_parts.proofs.AskedLemmas.{asked_again, asked_by_places, looked_up}
use Rattle.placed_edits.specs.Placed.{are_placed, asked_at, Placed}
use Rattle.shared_hub.specs.Books.{PassHeld}
use Rattle.shared_hub.specs.Guarded.{after_ticket, EntersEdit, GuardedHeld}
use Rattle.shared_hub.specs.Refusal.{edited, number_of, told_at}
use Rattle.shared_hub.specs.Shared.{EntersAsked, IsWithoutMemory, MakesFor, RefusesAsked}
use Rattle.shared_hub.specs.declared.refusal.SharedRefusal.{SharedRefusal}
use Rattle.shared_hub.specs.declared.refusal.SharedRefusal.TheVariants.{Stopping}
use Rattle.shared_hub.proofs.RefusedLemmas.{refused_so}

-- the action that the text of then gave was made
pub entered_asked : (result : Result Ticket SharedRefusal) (asks : LockedHeld → Asked) (e : Asked) (before after : GuardedHeld) (old new : PassHeld)
    → e ≡ asks before.locked
    → (result ≢ Err Stopping → MakesFor before.locked after.locked old new (edit old.number e) (edited result))
    → EntersEdit result e before old after new → IfOk result (λ t. EntersAsked asks old (after_ticket t old) new t)
entered_asked (Ok t) asks e before after old new of_then call enters = record {
  asked = e;
  entered = record {
    before = before.locked;
    after = after.locked;
    makes = call (λ same. let never : ⊥ = cc in never);
    entered = enters.pass;
  };
  of_then = of_then;
}
entered_asked (Err r) asks e before after old new of_then call enters = tt

-- or refused
pub refused_asked : (result : Result Ticket SharedRefusal) (p : Placed) (asks : LockedHeld → Asked) (e : Asked) (before after : GuardedHeld)
    (old new : PassHeld) → e ≡ asks before.locked
    → (result ≢ Err Stopping → MakesFor before.locked after.locked old new (edit old.number e) (edited result))
    → EntersEdit result e before old after new
    → IfErr result (λ r. r ≢ Stopping → RefusesAsked asks old (number_of r) (told_at r) ⊎ IsWithoutMemory old p r)
unfolding refused_so
refused_asked (Ok t) p asks e before after old new of_then call enters = tt
refused_asked (Err r) p asks e before after old new of_then call enters = λ other.
    inl (record { asked = e; refuses = refused_so (Err r) e before after old new call enters other; of_then = of_then })

-- an edit that is known asks for its own action
pub asks_again : (h : ReplicaHeld) (p : Placed) (e : Asked) (knows : Bool) → e ≡ p.asked → knows ≡ is_some (known_ticket h e) → knows ≡ true
    → p.asked ≡ asked_now h p
asks_again h p e knows is told known =
    sym (asked_again h p (ap (λ (x : Asked). is_some (known_ticket h x)) (sym is) ∙ (sym told ∙ known)))

-- another one for the numbers of its places
pub asks_by_places : (h : ReplicaHeld) (p : Placed) (e : Asked) (knows : Bool) → e ≡ p.asked → knows ≡ is_some (known_ticket h e) → knows ≡ false
    → are_placed p.spots ≡ true → asked_at h.list p ≡ asked_now h p
asks_by_places h p e knows is told new placed =
    sym (asked_by_places h p (looked_up h p placed (ap (λ (x : Asked). is_some (known_ticket h x)) (sym is) ∙ (sym told ∙ new))))
