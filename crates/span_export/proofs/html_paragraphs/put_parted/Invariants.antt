use Rattle.std.proofs.Common.{◌≡◌, ◌++◌, take, flat_map}
use Rattle.span_export.specs.HtmlParagraphs.{html_part}
use Rattle.span_export.specs.Paragraphs.{parted}
use Rattle.span_export.proofs.html_paragraphs.put_parted.Given as goal

-- the spans so far are put
abbrev pub invariant-loop-span : goal.invariant-loop-span
invariant-loop-span l = l.out.items ≡ l.initial.out.items ++ flat_map html_part (parted (take l.span-index l.spans))
