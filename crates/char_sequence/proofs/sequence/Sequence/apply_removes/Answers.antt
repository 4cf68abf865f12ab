use Rattle.std.proofs.Common.{refl, sym, ◌∙◌}
use Rattle.std.specs.List.{list_all}
use Rattle.char_sequence.specs.Cells.{has_cell}
use Rattle.char_sequence.specs.Chunks.{cells_of}
use Rattle.char_sequence.proofs.ApplyLemmas.{takes_all_removed}
use Rattle.char_sequence.proofs.KnownLemmas.{all_unknown_there, none_refused}
use Rattle.char_sequence.proofs.sequence.Sequence.apply_removes.Goals as goal

pub returns-then-not-knows_all-clause-unknown : goal.returns-then-not-knows_all-clause-unknown
returns-then-not-knows_all-clause-unknown c = λ ops doc holds.
    let gone = rw c.self.view_is at (sym c.knows_all.ensures ∙ c.if-not-knows_all.true) in
    all_unknown_there (cells_of c.args.self.now) ops doc c.args.ids.now _ holds (λ _. gone, λ _. refl)

pub returns-clause-taken : goal.returns-clause-taken
returns-clause-taken c =
    takes_all_removed c.args.ids.now c.args.self.now c.remove_all.new.chunks
    (rw c.self.view_is at (sym c.knows_all.ensures ∙ c.if-not-knows_all.false)) (rw c.self.view_is at c.remove_all.ensures)

pub returns-clause-unknown : goal.returns-clause-unknown
returns-clause-unknown c = λ ops doc holds.
    let known = rw c.self.view_is at (sym c.knows_all.ensures ∙ c.if-not-knows_all.false) in
    all_unknown_there (cells_of c.args.self.now) ops doc c.args.ids.now _ holds
    (none_refused (list_all (λ id. has_cell (cells_of c.args.self.now) id) c.args.ids.now) _ (λ never. cc) known)
