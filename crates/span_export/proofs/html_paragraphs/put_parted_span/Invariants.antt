use Rattle.std.proofs.Common.{◌≡◌, ◌≤◌, ◌++◌, [], false, take, drop, flat_map}
use Rattle.span_export.specs.HtmlParagraphs.{html_part}
use Rattle.span_export.specs.Paragraphs.{is_break, parted_from}
use Rattle.span_export.proofs.html_paragraphs.put_parted_span.Given as goal

-- what is still to be put follows what is put, and no line feed stands in the paragraph so far
abbrev pub invariant-loop-i : goal.invariant-loop-i
invariant-loop-i l = record {
  within : l.start ≤ l.i;
  unbroken : is_break (drop l.start (take l.i l.text)) ≡ false;
  rest : l.out.items ++ flat_map html_part (parted_from (drop l.start (take l.i l.text)) (drop l.i l.text) l.marks)
      ≡ l.initial.out.items ++ flat_map html_part (parted_from [] l.text l.marks);
}
