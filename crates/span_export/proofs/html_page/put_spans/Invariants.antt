use Rattle.std.proofs.Common.{◌≡◌, ◌++◌, take, flat_map}
use Rattle.span_export.specs.Html.{html_span}
use Rattle.span_export.proofs.html_page.put_spans.Given as goal

-- the spans so far are put
abbrev pub invariant-loop-span : goal.invariant-loop-span
invariant-loop-span l = l.out.items ≡ l.initial.out.items ++ flat_map html_span (take l.span-index l.spans)
