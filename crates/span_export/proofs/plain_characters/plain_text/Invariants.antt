use Rattle.std.proofs.Common.{◌≡◌, take}
use Rattle.span_export.specs.Reading.{text_of}
use Rattle.span_export.proofs.plain_characters.plain_text.Given as goal

-- the spans so far are put
abbrev pub invariant-loop-span : goal.invariant-loop-span
invariant-loop-span l = l.out.items ≡ text_of (take l.span-index l.spans)
