use Rattle.std.proofs.Common.{◌∙◌}
use Rattle.span_flatten.specs.Since.{has_inserted}
use Rattle.span_flatten.proofs.SinceLemmas.{one_of}
use Rattle.span_flatten.proofs.since.Since.insert.Goals as goal

pub returns-clause-inserted : goal.returns-clause-inserted
returns-clause-inserted c = λ other. c.in_ok-insert.ensures.updates.0 other ∙ one_of c.args.id other (has_inserted c.args.self.now other)
