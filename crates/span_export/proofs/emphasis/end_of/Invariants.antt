use Rattle.std.proofs.Common.{◌≡◌, ◌≤◌, take}
use Rattle.span_export.specs.Markdown.{end_of}
use Rattle.span_export.proofs.emphasis.end_of.Given as goal

-- the end of the characters so far
abbrev pub invariant-loop-i : goal.invariant-loop-i
invariant-loop-i l = record { value : l.end ≡ end_of (take l.i l.characters); within : l.end ≤ l.i }
