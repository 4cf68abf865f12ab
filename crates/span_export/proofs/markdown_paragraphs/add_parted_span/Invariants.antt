use Rattle.std.proofs.Common.{◌≡◌, ◌≤◌, [], false, take, drop}
use Rattle.span_export.specs.MarkdownParagraphs.{add_parts}
use Rattle.span_export.specs.Paragraphs.{is_break, parted_from}
use Rattle.span_export.proofs.markdown_paragraphs.add_parted_span.Given as goal

-- what is still to be written follows what is written, and no line feed stands in the paragraph so far
abbrev pub invariant-loop-i : goal.invariant-loop-i
invariant-loop-i l = record {
  within : l.start ≤ l.i;
  unbroken : is_break (drop l.start (take l.i l.text)) ≡ false;
  rest : add_parts (parted_from (drop l.start (take l.i l.text)) (drop l.i l.text) l.marks) l.draft
      ≡ add_parts (parted_from [] l.text l.marks) l.initial.draft;
}
