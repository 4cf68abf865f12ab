-- All that the source gave was told, and none of it was an end.
use Rattle.std.proofs.Common.{List}
use Rattle.std.specs.Io.KnownBytes.{Appends}
use Rattle.watch_lines.specs.declared.source.Next.{Next}
use Rattle.watch_lines.specs.Telling.{told}
use Rattle.watch_lines.proofs.TellingLemmas.{Going}
use Rattle.watch_lines.proofs.watching.serve_watch.Given as goal

abbrev pub invariant-loop : goal.invariant-loop
invariant-loop g l =
    (given : List Next) × Going g.S.Source.gives l.initial.source given l.last l.source
    × Appends (g.W.Write.contents l.initial.writer) (g.W.Write.contents l.writer) (told given)
