use Rattle.std.proofs.Common.{sym, ◌∙◌, ap}
use Rattle.std.specs.List.{list_any}
use Rattle.op_ids.specs.Id.{is_same}
use Rattle.mark_anchors.specs.Keeping.{kept_end_after}
use Rattle.mark_anchors.proofs.EndedLemmas.{says_ended}
use Rattle.mark_anchors.proofs.anchors.AnchorsEndsAfter.ended.Goals as goal

pub returns : goal.returns
returns c = λ id.
    ap (λ kept. kept_end_after kept id) (sym c.self.view_is)
    ∙ (says_ended c.self.inside.markings.items id
    ∙ ap (λ ids. list_any (λ e. is_same e id) ids) (sym (c.deref.ensures.value ∙ c.self.invariant.ended)))
