use Rattle.std.proofs.Common.{ap, ◌∙◌}
use Rattle.root_slots.specs.Body.{root_of}
use Rattle.group_commit.specs.NewFile.{new_file}
use Rattle.group_commit.proofs.init.format.Goals as goal

pub returns-in-Ok-clause-left : goal.returns-in-Ok-clause-left
returns-in-Ok-clause-left g c = λ told file left.
    c.in-Ok.ensures.only told file left ∙ (c.in-Ok.ensures.made told).made ∙ ap new_file c.body.ensures.bytes

pub returns-in-Ok-clause-made : goal.returns-in-Ok-clause-made
returns-in-Ok-clause-made g c = λ told.
    let file = c.in-Ok.ensures.made told in
    record { made = file.made ∙ ap new_file c.body.ensures.bytes; counts = file.counts }

pub returns-in-Err-clause-refused : goal.returns-in-Err-clause-refused
returns-in-Err-clause-refused g c = λ told.
    c.in-Err.ensures.refused told c.args.replica (ap root_of c.body.ensures.bytes ∙ c.in_ok-roots.ensures.roots.root)
