use Rattle.std.proofs.Common.{[], ◌∷◌, ◌++◌, ap, ◌∙◌}
use Rattle.op_model.specs.Marks.{markings}
use Rattle.mark_anchors.proofs.KeepLemmas.{kept_more}
use Rattle.mark_anchors.proofs.gathering.Gathering.apply_mark.Goals as goal

pub returns-clause-taken : goal.returns-clause-taken
returns-clause-taken c = λ ops doc are fits. record {
  all = kept_more c.args.self.now c.keep.new.markings.items ops doc c.args.op.now
      (c.in_ok-keep.ensures.taken ∙ ap (λ kept. kept ++ markings (c.args.op.now ∷ []) c.args.op.now.doc) c.self.view_is) are.all fits;
}
