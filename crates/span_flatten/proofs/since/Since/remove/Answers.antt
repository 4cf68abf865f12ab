use Rattle.std.proofs.Common.{not, ◌&&◌, ◌||◌, sym, ap, ◌∙◌}
use Rattle.op_ids.specs.Id.{is_same}
use Rattle.span_flatten.specs.Since.{has_removed}
use Rattle.span_flatten.proofs.SinceLemmas.{one_of}
use Rattle.span_flatten.proofs.since.Since.remove.Goals as goal

pub returns-in_ok-insert-clause-removed : goal.returns-in_ok-insert-clause-removed
returns-in_ok-insert-clause-removed c = λ other.
    c.in_ok-insert.ensures.updates.0 other ∙ one_of c.args.id other (has_removed c.args.self.now other)
    ∙ ap (λ t. (not t && is_same c.args.id other) || has_removed c.args.self.now other) (sym c.if-not-is_repeat.true)
