use Rattle.std.proofs.Common.{refl, sym, ◌∙◌}
use Rattle.std.proofs.lemmas.Result.{err_from_is_err_and}
use Rattle.char_sequence.specs.Cells.{is_known}
use Rattle.char_sequence.specs.Chunks.{cells_of}
use Rattle.char_sequence.proofs.ApplyLemmas.{takes_run}
use Rattle.char_sequence.proofs.KnownLemmas.{none_refused, unknown_there}
use Rattle.char_sequence.proofs.sequence.Sequence.apply_run.Goals as goal

pub returns-then-not-knows-clause-unknown : goal.returns-then-not-knows-clause-unknown
returns-then-not-knows-clause-unknown c = λ ops doc holds.
    let gone = rw c.self.view_is at (sym c.knows.ensures ∙ c.if-not-knows.true) in
    unknown_there (cells_of c.args.self.now) ops doc c.args.origin _ holds (λ _. gone, λ _. refl)

pub returns-in-None-clause-unknown : goal.returns-in-None-clause-unknown
returns-in-None-clause-unknown c = λ ops doc holds.
    let known = rw c.self.view_is at (sym c.knows.ensures ∙ c.if-not-knows.false) in
    unknown_there (cells_of c.args.self.now) ops doc c.args.origin _ holds
    (none_refused (is_known (cells_of c.args.self.now) c.args.origin) _ (λ never. cc) known)

pub returns-in-None-landing-clause-unknown : goal.returns-in-None-landing-clause-unknown
returns-in-None-landing-clause-unknown c = λ ops doc holds.
    let gone = rw c.self.view_is at c.in-None-landing.ensures in
    unknown_there (cells_of c.args.self.now) ops doc c.args.origin _ holds (λ _. gone, λ _. refl)

pub returns-in_err-cells-clause-unknown : goal.returns-in_err-cells-clause-unknown
returns-in_err-cells-clause-unknown c = λ ops doc holds.
    let p = err_from_is_err_and c.from_residual.result c.from_residual.ensures.1 in
    let lands = rw c.self.view_is at c.in-Some-landing.ensures in
    unknown_there (cells_of c.args.self.now) ops doc c.args.origin _ holds
    (none_refused (is_known (cells_of c.args.self.now) c.args.origin) _ (rw (p.1, p.2) (λ never. cc)) lands.known)

pub returns-in_err-more-clause-unknown : goal.returns-in_err-more-clause-unknown
returns-in_err-more-clause-unknown c = λ ops doc holds.
    let p = err_from_is_err_and c.from_residual-in_err-more.result c.from_residual-in_err-more.ensures.1 in
    let lands = rw c.self.view_is at c.in-Some-landing.ensures in
    unknown_there (cells_of c.args.self.now) ops doc c.args.origin _ holds
    (none_refused (is_known (cells_of c.args.self.now) c.args.origin) _ (rw (p.1, p.2) (λ never. cc)) lands.known)

pub returns-clause-taken : goal.returns-clause-taken
returns-clause-taken c =
    takes_run c.args.origin c.in-Some.first.now c.args.run.now c.args.self.now c.insert.new.self c.cell_of-first.result c.deref.result.now
    c.in-Some-landing.at (sym c.in-Some.ensures.value) c.cell_of-first.ensures (rw c.self.view_is at c.in-Some-landing.ensures)
    (c.deref.ensures.value ∙ c.in_ok-cells.ensures) (rw c.self.view_is at c.in_ok-more.ensures.put)

pub returns-clause-unknown : goal.returns-clause-unknown
returns-clause-unknown c = λ ops doc holds.
    let lands = rw c.self.view_is at c.in-Some-landing.ensures in
    unknown_there (cells_of c.args.self.now) ops doc c.args.origin _ holds
    (none_refused (is_known (cells_of c.args.self.now) c.args.origin) _ (λ never. cc) lands.known)
