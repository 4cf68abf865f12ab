use Rattle.std.proofs.Common.{◌≡◌, take}
use Rattle.span_export.specs.MarkdownText.{add_bytes}
use Rattle.span_export.proofs.markdown_text.add_bytes.Given as goal

-- the bytes so far are written
abbrev pub invariant-loop-byte : goal.invariant-loop-byte
invariant-loop-byte l = l.draft ≡ add_bytes (take l.byte-index l.bytes) l.initial.draft
