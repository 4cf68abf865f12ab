use Rattle.std.proofs.Common.{◌≡◌, drop}
use Rattle.session_lines.specs.Anchors.{counted}
use Rattle.session_lines.proofs.anchor_text.digits.Given as goal

-- the digits so far, and what is left, are all
abbrev pub invariant-loop-byte : goal.invariant-loop-byte
invariant-loop-byte l = counted l.number (drop l.byte-index l.bytes) ≡ counted 0 l.bytes
