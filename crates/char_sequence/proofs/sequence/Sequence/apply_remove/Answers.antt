use Rattle.std.proofs.Common.{Some, refl}
use Rattle.char_sequence.specs.Cells.{has_cell}
use Rattle.char_sequence.specs.Chunks.{cells_of}
use Rattle.char_sequence.proofs.ApplyLemmas.{takes_removed}
use Rattle.char_sequence.proofs.FindLemmas.{has_there}
use Rattle.char_sequence.proofs.KnownLemmas.{none_refused, unknown_there}
use Rattle.char_sequence.proofs.sequence.Sequence.apply_remove.Goals as goal

pub returns-in-None-clause-unknown : goal.returns-in-None-clause-unknown
returns-in-None-clause-unknown c = λ ops doc holds.
    let gone = rw c.self.view_is at c.in-None.ensures in
    unknown_there (cells_of c.args.self.now) ops doc (Some c.args.id) _ holds (λ _. gone, λ _. refl)

pub returns-in-Some-clause-taken : goal.returns-in-Some-clause-taken
returns-in-Some-clause-taken c =
    takes_removed c.args.id c.args.self.now c.remove.new.self c.in-Some.at.chunk c.in-Some.at.at (rw c.self.view_is at c.in-Some.ensures)
    (rw c.self.view_is at c.remove.ensures)

pub returns-in-Some-clause-unknown : goal.returns-in-Some-clause-unknown
returns-in-Some-clause-unknown c = λ ops doc holds.
    let there = rw c.self.view_is at c.in-Some.ensures in
    let known = has_there c.args.self.now c.args.id c.in-Some.at.chunk c.in-Some.at.at there in
    unknown_there (cells_of c.args.self.now) ops doc (Some c.args.id) _ holds
    (none_refused (has_cell (cells_of c.args.self.now) c.args.id) _ (λ never. cc) known)
