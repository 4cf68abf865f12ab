use Rattle.std.proofs.Common.{rules}
use Rattle.root_slots.specs.Body.{Spells}
use Rattle.root_slots.proofs.HeadLemmas.{root_rules}
use Rattle.root_slots.proofs.slots.root_of.Goals as goal

pub returns-in-Ok-Some-clause-valid : goal.returns-in-Ok-Some-clause-valid
returns-in-Ok-Some-clause-valid c =
    let spells : Spells c.args.body.now c.in-Ok-Some.root = search rules in
    root_rules c.args.body.now c.in-Ok-Some.root spells
