use Rattle.std.proofs.Common.{◌∙◌, ◌≤◌, ap, sym}
use Rattle.std.proofs.lemmas.Bool.{leb-true}
use Rattle.op_ids.specs.Clock.{count_of}
use Rattle.op_model.specs.Causality.{clock_of}
use Rattle.op_model.specs.Characters.{characters}
use Rattle.op_model.specs.Placing.{has_id}
use Rattle.replica_core.proofs.CoveredLemmas.{covered_there}
use Rattle.replica_core.proofs.opening.Passed.is_covered_in.Goals as goal

pub returns-then-covers : goal.returns-then-covers
returns-then-covers c =
    let covers = leb-true _ _ (sym c.if-covers.ensures) in
    let all : count_of (clock_of c.args.others.now) c.args.id.now.replica ≤ count_of c.args.op.now.deps c.args.id.now.replica =
    rw (c.get.ensures.value, c.replica.ensures, c.replica-2.ensures, c.requires.counted.clock) at covers in
    c.has.ensures c.args.others.now c.requires.draft
    ∙ (ap (λ n. has_id (characters c.args.others.now n) c.args.id.now) c.requires.number
    ∙ sym (covered_there c.args.others.now c.args.op.now.deps c.args.op.now.doc c.args.id.now all))
