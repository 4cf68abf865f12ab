-- What is read of a page.
use Rattle.std.specs.Prelude.{◌<◌, List, length, false, [], None}
use Rattle.std.specs.List.{All}
use Rattle.op_model.specs.declared.span.Span.{Span}
use Rattle.markdown_reading.specs.declared.dropped.Dropped.{Dropped}
use Rattle.op_model.specs.declared.mark.Marks.{Marks}

-- no marks
abbrev pub no_marks : Marks
no_marks = record { strong = false; em = false; link = None; comments = [] }

-- a span with some characters
abbrev pub HasText : Span → Type 0
HasText span = 0 < length span.text

-- spans with some characters each
abbrev pub HaveText : List Span → Type 0
HaveText spans = All HasText spans

-- nothing is dropped
abbrev pub nothing : Dropped
nothing = record {
  breaks = 0;
  code = 0;
  comments = 0;
  headings = 0;
  html = 0;
  images = 0;
  links = 0;
  items = 0;
  quotes = 0;
  references = 0;
  rules = 0;
}
