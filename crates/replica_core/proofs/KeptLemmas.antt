-- The steps that a replica keeps.
use Rattle.std.proofs.Common.{◌≡◌, List, [], ◌∷◌, ◌++◌, length, map, refl}
use Rattle.std.proofs.lemmas.List.{length-map, length-reverse, map-append, reverse-append}
use Rattle.replica_core.specs.declared.step.Step.{Step}
use Rattle.replica_core.specs.Steps.{kept, kept_of}

-- one step more comes first
pub kept-push : (steps : List Step) (step : Step) → kept (steps ++ step ∷ []) ≡ kept_of step ∷ kept steps
kept-push steps step = rw (map-append kept_of steps (step ∷ []), reverse-append (map kept_of steps) (kept_of step ∷ [])) refl

-- they are as many
pub length-kept : (steps : List Step) → length (kept steps) ≡ length steps
length-kept steps = simp (length-reverse, length-map)
