-- What a document that is watched has come to.
use Rattle.std.proofs.Common.{◌≡◌, ℕ, Option, true, Ok, Err}
use Rattle.std.specs.Prelude.{Result, IfOk}
use Rattle.std.specs.declared.alloc.AllocError.{AllocError}
use Rattle.hub_parts.specs.Locked.{IsLocked, LockedHeld}
use Rattle.shared_hub.specs.Shared.{Moment}
use Rattle.shared_hub.specs.Watching.{HasSeen, IfRev, IsWatched, UnlessRev, settled_rev}
use Rattle.shared_hub.specs.WatchingSeveral.{IfRevOf, IsToldOf, LooksOn, WatchHeld, doc_told, is_watched, settled_list}
use Rattle.shared_hub.specs.declared.watched.Watched.{Watched}
use Rattle.shared_hub.specs.declared.watched.Watched.TheVariants as watched
use Rattle.shared_hub.specs.declared.watched_of.WatchedOf.{WatchedOf}
use Rattle.shared_hub.specs.declared.watched_of.WatchedOf.TheVariants as watched_of

-- a number that is given under the lock is so at that moment
pub rev_at : (result : Watched) (doc : ℕ) (seen : Option ℕ) (l : LockedHeld) → IsLocked l → IsWatched result doc seen l
    → IfRev result (λ n. Moment (λ m. n ≡ settled_rev m doc))
rev_at (watched.Rev n) doc seen l sound it = record { locked = l; sound = sound; holds = it.rev }
rev_at watched.Nothing doc seen l sound it = tt
rev_at watched.Failed doc seen l sound it = tt

-- and else all that is settled at that moment was seen
pub seen_at : (result : Watched) (doc : ℕ) (seen : Option ℕ) (l : LockedHeld) → IsLocked l → IsWatched result doc seen l
    → UnlessRev result (Moment (λ m. HasSeen seen (settled_rev m doc)))
seen_at (watched.Rev n) doc seen l sound it = tt
seen_at watched.Nothing doc seen l sound it = record { locked = l; sound = sound; holds = it.nothing }
seen_at watched.Failed doc seen l sound it = record { locked = l; sound = sound; holds = it.nothing }

-- what is told of several documents under the lock is so at that moment
pub several_at : (result : Result WatchedOf AllocError) (b : WatchHeld) (l : LockedHeld) → IsLocked l
    → IfOk result (λ w. IfRevOf w (IsToldOf b l))
    → IfOk result (λ w. IfRevOf w (λ doc n. Moment (λ m. n ≡ settled_rev m doc)))
several_at (Ok (watched_of.Rev doc n)) b l sound it = record { locked = l; sound = sound; holds = it.rev }
several_at (Ok watched_of.Nothing) b l sound it = tt
several_at (Ok watched_of.Failed) b l sound it = tt
several_at (Err e) b l sound it = tt

-- and it is told of a document that is watched
pub several_watched : (result : Result WatchedOf AllocError) (b : WatchHeld) (l : LockedHeld)
    → IfOk result (λ w. IfRevOf w (IsToldOf b l)) → IfOk result (λ w. IfRevOf w (λ doc n. is_watched b.docs doc ≡ true))
several_watched (Ok (watched_of.Rev doc n)) b l it = it.watched
several_watched (Ok watched_of.Nothing) b l it = tt
several_watched (Ok watched_of.Failed) b l it = tt
several_watched (Err e) b l it = tt

-- and no document is forgotten at that moment
pub several_look : (result : Result WatchedOf AllocError) (old new : WatchHeld) (l : LockedHeld) → IsLocked l
    → IfOk result (λ w. LooksOn (doc_told w) old new (settled_list l))
    → IfOk result (λ w. Moment (λ m. LooksOn (doc_told w) old new (settled_list m)))
several_look (Ok w) old new l sound it = record { locked = l; sound = sound; holds = it }
several_look (Err e) old new l sound it = tt
