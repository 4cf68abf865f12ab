-- Which marks a set of mark operations decides, and the comments that stand in it.
use Rattle.std.specs.Prelude.{ℕ, List, filter, is_some, Option, option_and_then}
use Rattle.op_model.specs.declared.mark.Mark.{Mark}
use Rattle.op_model.specs.declared.mark.MarkKey.{MarkKey}
use Rattle.op_model.specs.declared.mark.MarkKey.TheVariants as key
use Rattle.op_model.specs.declared.marking.Marking.{Marking}
use Rattle.op_model.specs.Marks.{is_key, greatest}
use Rattle.op_model.specs.Spans.{comment_ids}

-- the one that decides for a key: of those of the key the one with the greatest id
abbrev pub deciding : List Marking → MarkKey → Option Marking
deciding set key = greatest (filter (λ m. is_key m.key key) set)

-- the mark for a key: the deciding operation has to add it
abbrev pub decided : List Marking → MarkKey → Option Mark
decided set key = option_and_then (λ m. m.mark) (deciding set key)

-- the comments whose deciding mark operation adds them, in rising order
abbrev pub standing : List Marking → List ℕ
standing set = filter (λ id. is_some (decided set (key.Comment id))) (comment_ids set)
