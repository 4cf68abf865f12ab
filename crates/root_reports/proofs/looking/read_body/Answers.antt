use Rattle.std.proofs.Common.{◌*◌, ◌+◌, ap, ◌∙◌}
use Rattle.disk_trait.specs.File.{part}
use Rattle.root_reports.proofs.looking.read_body.Goals as goal

pub returns-in-Ok-clause-read : goal.returns-in-Ok-clause-read
returns-in-Ok-clause-read g c = λ told.
    c.in-Ok.ensures.read told ∙ ap (part (g.D.DiskFacts.content c.args.disk.now) (4096 * c.args.page + 8)) c.requires.long
