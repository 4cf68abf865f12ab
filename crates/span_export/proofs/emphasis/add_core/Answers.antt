use Rattle.std.proofs.Common.{◌≡◌, ◌-◌, ◌<◌, length, get_or, arith, ◌∙◌}
use Rattle.std.proofs.lemmas.List.{get_or_default}
use Rattle.span_export.proofs.SpaceLemmas.{core_steps}
use Rattle.span_export.proofs.emphasis.add_core.Goals as goal

pub returns : goal.returns
returns c =
    let core = c.args.core.now in
    let some : 0 < length core = grind arith in
    let n = length core - 1 in
    let first : c.index-core-0.result ≡ get_or core 0 0 = c.index-core-0.is ∙ get_or_default core 0 _ 0 some in
    let last : c.index-core-core.result ≡ get_or core n 0 = c.index-core-core.is ∙ get_or_default core n _ 0 (omega arith) in
    core_steps _ c.args.marks.now core _ _ n c.args.draft.now _ _ _ (omega arith) first last c.in_ok-add_open.ensures c.in_ok-add_characters.ensures c.add_close.ensures
