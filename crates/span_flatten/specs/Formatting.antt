-- Used by private functions and proofs alone.
--
-- The marks of a character, from the mark operations that cover it.
use Rattle.std.specs.Prelude.{List, is_some, option_and_then}
use Rattle.op_model.specs.declared.mark.MarkKey.TheVariants as key
use Rattle.op_model.specs.declared.mark.Marks.{Marks}
use Rattle.op_model.specs.declared.marking.Marking.{Marking}
use Rattle.op_model.specs.Spans.{url_of}
use Rattle.comment_marks.specs.Standing.{decided, standing}

-- all marks of a character that just these mark operations cover
abbrev pub marks_in : List Marking → Marks
marks_in set = record {
  strong = is_some (decided set key.Strong);
  em = is_some (decided set key.Em);
  link = option_and_then url_of (decided set key.Link);
  comments = standing set;
}
