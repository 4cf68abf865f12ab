-- All that the source gave was told, none of it was an end, and of each document the number that was told last is kept.
use Rattle.std.proofs.Common.{List}
use Rattle.std.specs.BTreeMap.{get}
use Rattle.std.specs.Io.KnownBytes.{Appends}
use Rattle.std.specs.Ordering.{nat_cmp}
use Rattle.watch_lines.specs.TellingSeveral.{told_of}
use Rattle.watch_lines.specs.declared.several_source.NextOf.{NextOf}
use Rattle.watch_lines.proofs.SeveralLemmas.{GoingOf}
use Rattle.watch_lines.proofs.watching_several.serve_several.Given as goal

abbrev pub invariant-loop : goal.invariant-loop
invariant-loop g l =
    (given : List NextOf) × GoingOf g.S.SeveralSource.gives l.initial.source given (get nat_cmp l.last) l.source
    × Appends (g.W.Write.contents l.initial.writer) (g.W.Write.contents l.writer) (told_of given)
