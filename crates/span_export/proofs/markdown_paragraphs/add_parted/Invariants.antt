use Rattle.std.proofs.Common.{◌≡◌, take}
use Rattle.span_export.specs.MarkdownParagraphs.{add_parts}
use Rattle.span_export.specs.Paragraphs.{parted}
use Rattle.span_export.proofs.markdown_paragraphs.add_parted.Given as goal

-- the spans so far are written
abbrev pub invariant-loop-span : goal.invariant-loop-span
invariant-loop-span l = l.draft ≡ add_parts (parted (take l.span-index l.spans)) l.initial.draft
