use Rattle.std.proofs.Common.{true, cond, ap, ◌∙◌}
use Rattle.std.specs.BTreeMap.{get, is_at}
use Rattle.std.specs.Ordering.{nat_cmp}
use Rattle.span_flatten.specs.Ranking.{rank_cmp}
use Rattle.span_flatten.proofs.DecidingLemmas.{first_kept}
use Rattle.span_flatten.proofs.discussed.insert_first.Goals as goal

pub returns : goal.returns
returns c = λ none.
    first_kept (λ other. get nat_cmp c.args.ranks.now other) (λ other. get nat_cmp c.insert-2.new.self other) c.args.id c.insert.new.self c.args.rank
    (λ other. c.in_ok-insert-2.ensures.updates.0 other)
    (λ q. c.in_ok-insert.ensures q ∙ ap (cond (is_at (rank_cmp c.args.rank) q) true) (c.new-about.ensures q)) none
