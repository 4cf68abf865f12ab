-- What a meeting and a stop leave of the books.
use Rattle.std.proofs.Common.{◌≡◌, ◌≢◌, ℕ, Bool, true, false, refl, ap, ◌∙◌, Ok, Err}
use Rattle.std.specs.Prelude.{if◌then◌else◌, Result}
use Rattle.disk_trait.specs.declared.facts.DiskFacts.{Ghosts}
use Rattle.group_commit.specs.declared.error.StoreError.{StoreError}
use Rattle.hub_parts.specs.Flusher.{FlusherHeld}
use Rattle.hub_parts.specs.Locked.{LockedHeld}
use Rattle.hub_parts.specs.Meeting.{LeavesBoth}
use Rattle.hub_parts.specs.declared.met.Met.{Met}
use Rattle.hub_parts.specs.declared.met.Met.TheVariants.{Begun, Settled, Nothing}
use Rattle.shared_hub.specs.Books.{ends_of}

-- a failure that is told is no step
told_ends : (failed : Bool) (l : LockedHeld) (n : ℕ)
    → ends_of n (if failed then record l { failure_told = true } else l).replica.steps ≡ ends_of n l.replica.steps
told_ends true l n = refl
told_ends false l n = refl

-- a meeting makes no step of a number
pub meeting_ends : {D : Type 0} (facts : Ghosts D) (l : LockedHeld) (f : FlusherHeld D) (result : Result Met StoreError) (l' : LockedHeld)
    (f' : FlusherHeld D) → LeavesBoth facts l f result l' f' → (n : ℕ) → ends_of n l'.replica.steps ≡ ends_of n l.replica.steps
meeting_ends facts l f (Ok (Begun k)) l' f' leaves n = ap (λ held. ends_of n held.replica.steps) leaves.locked
meeting_ends facts l f (Ok (Settled k)) l' f' leaves n = ap (λ held. ends_of n held.replica.steps) leaves.locked
meeting_ends facts l f (Ok Nothing) l' f' leaves n = ap (λ held. ends_of n held.replica.steps) leaves.0
meeting_ends facts l f (Err e) l' f' leaves n =
    ap (λ held. ends_of n held.replica.steps) leaves.locked ∙ told_ends f.store.failed l n

-- what holds where nobody asked to stop holds of each other answer
pub unless_stopping : {A B : Type 0} (stopping : Bool) (answer refusal : A) → (stopping ≡ true → answer ≡ refusal) → (stopping ≡ false → B)
    → answer ≢ refusal → B
unless_stopping true answer refusal is holds other = absurd (other (is refl))
unless_stopping false answer refusal is holds other = holds refl
