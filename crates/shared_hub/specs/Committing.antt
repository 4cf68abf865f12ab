-- What commits for a shared hub, and its meetings with what stands under the lock.
use Rattle.std.specs.Prelude.{◌≡◌, List, [], ◌∷◌, All, map}
use Rattle.disk_trait.specs.declared.facts.DiskFacts.{Ghosts}
use Rattle.hub_parts.specs.Fitting.{FitTogether, Side, side_of}
use Rattle.hub_parts.specs.Flusher.{FlusherHeld, IsFlusher}
use Rattle.hub_parts.specs.Locked.{IsLocked, LockedHeld}
use Rattle.shared_hub.specs.Books.{PassHeld}
use Rattle.shared_hub.specs.Going.{Goes}
use Rattle.shared_hub.specs.Moments.{with_moment}

-- a meeting: what it left under the lock, and of the flusher
pub record Meeting (D : Type 0) : Type 0 where
  pub locked : LockedHeld
  pub flusher : FlusherHeld D

-- the meetings that left these moments, and these of the flusher
abbrev pub meetings_of : {D : Type 0} → List LockedHeld → List (FlusherHeld D) → List (Meeting D)
meetings_of (l ∷ ls) (f ∷ fs) = record { locked = l; flusher = f } ∷ meetings_of ls fs
meetings_of [] fs = []
meetings_of (l ∷ ls) [] = []

-- what commits for a shared hub: the flusher, its pass, and the meetings, newest first
pub record CommitterHeld (D : Type 0) : Type 0 where
  pub flusher : FlusherHeld D
  pub pass : PassHeld
  pub met : List (Meeting D)

-- what the newest meeting left under the lock is sound, and fits this side of a flusher
abbrev pub FitsNewest : {D : Type 0} → List (Meeting D) → Side → Type 0
FitsNewest [] side = ⊥
FitsNewest (newest ∷ older) side = IsLocked newest.locked × FitTogether newest.locked side

-- a meeting left parts that were sound and fitted together, and the flusher has gone on to the one of now since
pub record WasMeeting {D : Type 0} (facts : Ghosts D) (now : FlusherHeld D) (m : Meeting D) : Type 0 where
  pub sound : IsLocked m.locked
  pub fits : FitTogether m.locked (side_of m.flusher)
  pub goes : Goes facts m.flusher now

-- What commits has the pass with number 0, and the moments of that are those of its meetings. The flusher fits what the newest one left
-- under the lock, and has gone on from each of them.
pub record IsCommitter {D : Type 0} (facts : Ghosts D) (c : CommitterHeld D) : Type 0 where
  pub number : c.pass.number ≡ 0
  pub moments : c.pass.moments ≡ map (λ m. m.locked) c.met
  pub newest : FitsNewest c.met (side_of c.flusher)
  pub each : All (WasMeeting facts c.flusher) c.met

-- with these parts
abbrev pub with_met : {D : Type 0} → FlusherHeld D → PassHeld → List (FlusherHeld D) → CommitterHeld D
with_met f p met = record { flusher = f; pass = p; met = meetings_of p.moments met }

-- with a meeting more, which left this under the lock and of the flusher
abbrev pub with_meeting : {D : Type 0} → CommitterHeld D → LockedHeld → FlusherHeld D → CommitterHeld D
with_meeting c l f = record {
  flusher = f;
  pass = with_moment c.pass l;
  met = record { locked = l; flusher = f } ∷ c.met;
}

-- What stands under the lock of a shared hub, and what commits for it, at a moment of a turn: both are sound and fit together.
pub record IsTurn {D : Type 0} (facts : Ghosts D) (l : LockedHeld) (c : CommitterHeld D) : Type 0 where
  pub locked : IsLocked l
  pub flusher : IsFlusher facts c.flusher
  pub committer : IsCommitter facts c
  pub fits : FitTogether l (side_of c.flusher)
