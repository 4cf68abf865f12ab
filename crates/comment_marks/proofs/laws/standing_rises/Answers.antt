use Rattle.std.proofs.lemmas.List.Kept.{IsStrictlyIncreasing-filter}
use Rattle.op_model.specs.Spans.{comment_ids, comment_of}
use Rattle.op_model.specs.declared.mark.MarkKey.TheVariants as key
use Rattle.std.specs.Prelude.{filter_map, is_some}
use Rattle.comment_marks.specs.Standing.{decided}
use Rattle.comment_marks.proofs.Rising.{rising_increases}
use Rattle.comment_marks.proofs.laws.standing_rises.Goals as goal

pub returns : goal.returns
returns c = λ set.
    IsStrictlyIncreasing-filter (λ id. is_some (decided set (key.Comment id))) (comment_ids set)
    (rising_increases (filter_map (λ m. comment_of m.key) set))
