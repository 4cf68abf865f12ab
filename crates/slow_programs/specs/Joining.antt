-- Where a character joins a span.
use Rattle.std.specs.Prelude.{Bool, false, List, [], ◌∷◌}
use Rattle.op_model.specs.declared.mark.Marks.{Marks}
use Rattle.op_model.specs.declared.span.Span.{Span}
use Rattle.op_model.specs.Spans.{is_same_marks}

-- there is a first span, and it has these marks
abbrev pub joins_first_of : Marks → List Span → Bool
joins_first_of marks [] = false
joins_first_of marks (s ∷ ss) = is_same_marks marks s.marks
