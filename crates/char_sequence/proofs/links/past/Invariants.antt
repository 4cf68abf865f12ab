use Rattle.std.proofs.Common.{ℕ, List}
use Rattle.char_sequence.specs.declared.cell.Cell.{Cell}
use Rattle.char_sequence.specs.Links.{Leads}
use Rattle.char_sequence.proofs.LinkLemmas.{Passed}
use Rattle.char_sequence.proofs.links.past.Given as goal

-- those that were passed have greater ids
abbrev pub invariant-loop : goal.invariant-loop
invariant-loop l = (order : List ℕ) (cs : List Cell) → Leads l.cells l.next l.from order cs → Passed l.cell l.from order cs l.counter l.at
