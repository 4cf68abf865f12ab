use Rattle.std.proofs.Common.{refl}
use Rattle.std.proofs.lemmas.Result.{err_from_is_err_and}
use Rattle.char_sequence.specs.Cells.{is_known}
use Rattle.char_sequence.specs.Chunks.{cells_of}
use Rattle.char_sequence.proofs.ApplyLemmas.{takes_landed}
use Rattle.char_sequence.proofs.KnownLemmas.{none_refused, unknown_there}
use Rattle.char_sequence.proofs.sequence.Sequence.apply_insert.Goals as goal

pub returns-in-None-clause-unknown : goal.returns-in-None-clause-unknown
returns-in-None-clause-unknown c = λ ops doc holds.
    let gone = rw c.self.view_is at c.in-None.ensures in
    unknown_there (cells_of c.args.self.now) ops doc c.args.origin _ holds (λ _. gone, λ _. refl)

pub returns-in_err-more-clause-unknown : goal.returns-in_err-more-clause-unknown
returns-in_err-more-clause-unknown c = λ ops doc holds.
    let p = err_from_is_err_and c.from_residual.result c.from_residual.ensures.1 in
    let lands = rw c.self.view_is at c.in-Some.ensures in
    unknown_there (cells_of c.args.self.now) ops doc c.args.origin _ holds
    (none_refused (is_known (cells_of c.args.self.now) c.args.origin) _ (rw (p.1, p.2) (λ never. cc)) lands.known)

pub returns-clause-taken : goal.returns-clause-taken
returns-clause-taken c =
    takes_landed c.args.id c.args.origin c.args.value c.args.self.now c.insert.new.self c.in-Some.at (rw c.self.view_is at c.in-Some.ensures)
    (rw c.self.view_is at c.in_ok-more.ensures.put)

pub returns-clause-unknown : goal.returns-clause-unknown
returns-clause-unknown c = λ ops doc holds.
    let lands = rw c.self.view_is at c.in-Some.ensures in
    unknown_there (cells_of c.args.self.now) ops doc c.args.origin _ holds
    (none_refused (is_known (cells_of c.args.self.now) c.args.origin) _ (λ never. cc) lands.known)
