use Rattle.std.proofs.Common.{◌≡◌, ◌++◌, take}
use Rattle.span_export.specs.HtmlText.{html_text}
use Rattle.span_export.proofs.html_text.put_html_text.Given as goal

-- the bytes so far are put
abbrev pub invariant-loop-byte : goal.invariant-loop-byte
invariant-loop-byte l = l.out.items ≡ l.initial.out.items ++ html_text (take l.byte-index l.bytes)
