-- The steps that a replica keeps, as the model has them.
use Rattle.std.specs.Prelude.{ℕ, ◌-◌, List, [], ◌∷◌, map, reverse}
use Rattle.op_model.specs.Replay.{Kept, edited, merged, settlement}
use Rattle.replica_core.specs.declared.step.Step.{Step}
use Rattle.replica_core.specs.declared.step.Step.TheVariants as step

-- a step
abbrev pub kept_of : Step → Kept
kept_of (step.Edit session edit first count) = edited session edit.value first count
kept_of (step.Merge peer index) = merged peer index
kept_of (step.Settlement settled) = settlement settled

-- the steps, newest first
abbrev pub kept : List Step → List Kept
kept steps = reverse (map kept_of steps)

-- how many settlements have their places: two behind each edit and merge, for the commit under way and the one after it; none
-- at opening
abbrev pub places_left : List Kept → ℕ
places_left [] = 0
places_left (edited session edit first count ∷ steps) = 2
places_left (merged peer index ∷ steps) = 2
places_left (settlement n ∷ steps) = places_left steps - 1
