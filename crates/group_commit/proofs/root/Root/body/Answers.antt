use Rattle.std.proofs.Common.{ap, ◌∙◌, length}
use Rattle.group_commit.proofs.Roots.{root_size}
use Rattle.group_commit.proofs.root.Root.body.Goals as goal

pub returns-clause-whole : goal.returns-clause-whole
returns-clause-whole c = ap length c.deref.ensures.value ∙ root_size c.self.inside.body.items c.self.invariant.spells.valid
