use Rattle.std.proofs.Common.{◌==◌, length, get_or, true, false, ap, ◌∙◌}
use Rattle.std.proofs.lemmas.List.{get_or-replicate, length-replicate}
use Rattle.std.specs.List.{list_any}
use Rattle.span_flatten.specs.Sweeping.{flagged}
use Rattle.span_flatten.proofs.KeptLemmas.{none_flagged, none_has}
use Rattle.span_flatten.proofs.active.Active.none.Goals as goal

pub returns-clause-active : goal.returns-clause-active
returns-clause-active c = record {
  long = ap length c.in_ok-no_flags.ensures ∙ length-replicate c.args.count false;
  wide = ap length c.in_ok-no_flags-2.ensures ∙ length-replicate c.args.count false;
  flags = λ i within. ap (λ flags. get_or flags i true) c.in_ok-no_flags.ensures ∙ get_or-replicate c.args.count i false true within;
  members = λ i. ap (λ set. list_any (λ m. m == i) set) (ap flagged c.in_ok-no_flags-2.ensures ∙ none_flagged c.args.count) ∙ none_has i c.args.count;
}

pub returns-clause-deciding : goal.returns-clause-deciding
returns-clause-deciding c = λ ms. rw (ap flagged c.in_ok-no_flags-2.ensures ∙ none_flagged c.args.count) (c.new.ensures.none ms)
