use Rattle.std.proofs.Common.{ap, sym}
use Rattle.std.specs.Prelude.{is_some}
use Rattle.std.specs.BTreeMap.{get}
use Rattle.std.specs.Ordering.{nat_cmp}
use Rattle.op_model.specs.declared.mark.MarkKey.TheVariants as key
use Rattle.span_flatten.specs.Deciding.{is_kept}
use Rattle.span_flatten.proofs.RankLemmas.{decided_by_none}
use Rattle.span_flatten.proofs.discussed.stands.Goals as goal

pub returns-in-None : goal.returns-in-None
returns-in-None c = λ set up are.
    ap is_some (decided_by_none c.args.markings.now set (key.Comment c.args.id) (is_kept (get nat_cmp c.args.ranks.now c.args.id)) are
    (λ q. ap (λ o. is_kept o q) (sym c.in-None.ensures.value)))
