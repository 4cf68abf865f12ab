use Rattle.std.proofs.Common.{◌≡◌, take}
use Rattle.span_export.specs.Markdown.{add_spans}
use Rattle.span_export.proofs.markdown_page.add_spans.Given as goal

-- the spans so far are written
abbrev pub invariant-loop-span : goal.invariant-loop-span
invariant-loop-span l = l.draft ≡ add_spans (take l.span-index l.spans) l.initial.draft
