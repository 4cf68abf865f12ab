-- What the spans of a document are like.
use Rattle.std.specs.Prelude.{◌≡◌, ◌<◌, false, List, [], ◌∷◌, length}
use Rattle.op_model.specs.declared.span.Span.{Span}
use Rattle.op_model.specs.Spans.{is_same_marks}

-- each of these has other marks than the one behind it
abbrev pub AreApart : List Span → Type 0
AreApart [] = Unit {0}
AreApart (s ∷ []) = Unit {0}
AreApart (s ∷ t ∷ ss) = (is_same_marks s.marks t.marks ≡ false) × AreApart (t ∷ ss)

-- none of these is empty
abbrev pub AreFull : List Span → Type 0
AreFull [] = Unit {0}
AreFull (s ∷ ss) = (0 < length s.text) × AreFull ss
