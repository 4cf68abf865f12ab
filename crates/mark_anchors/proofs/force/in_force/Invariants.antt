use Rattle.std.proofs.Common.{◌≡◌, ℕ, List, ◌++◌, map, drop}
use Rattle.char_sequence.specs.Content.{Holds}
use Rattle.mark_anchors.specs.Force.{in_force, number}
use Rattle.op_model.specs.declared.op.Op.{Op}
use Rattle.op_model.specs.Walk.{walk}
use Rattle.mark_anchors.proofs.force.in_force.Given as goal

-- those found, with those to be found among the rest, are all
abbrev pub invariant-loop-marking : goal.invariant-loop-marking
invariant-loop-marking l = (ops : List Op) (doc : ℕ) → Holds l.sequence ops doc
    → map (λ m. m.now) l.found.items ++ in_force (walk ops doc) (number l.place) (drop l.marking-index l.markings)
    ≡ in_force (walk ops doc) (number l.place) l.markings
