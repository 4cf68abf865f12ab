use Rattle.std.proofs.Common.{◌≡◌, ◌++◌, take, flat_map}
use Rattle.span_export.specs.Markdown.{address_byte}
use Rattle.span_export.proofs.markdown_span.put_address.Given as goal

-- the bytes so far are put
abbrev pub invariant-loop-byte : goal.invariant-loop-byte
invariant-loop-byte l = l.out.items ≡ l.initial.out.items ++ flat_map address_byte (take l.byte-index l.bytes)
