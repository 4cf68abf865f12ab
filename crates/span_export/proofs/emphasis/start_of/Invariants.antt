use Rattle.std.proofs.Common.{◌≡◌, ◌+◌, drop}
use Rattle.span_export.specs.Markdown.{start_of}
use Rattle.span_export.proofs.emphasis.start_of.Given as goal

-- the characters so far are white space
abbrev pub invariant-loop-i : goal.invariant-loop-i
invariant-loop-i l = start_of l.characters ≡ l.i + start_of (drop l.i l.characters)
