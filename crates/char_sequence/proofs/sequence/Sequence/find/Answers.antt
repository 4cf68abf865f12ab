use Rattle.std.proofs.Common.{Some, sym, ◌∙◌, ap}
use Rattle.char_sequence.specs.Cells.{has_cell}
use Rattle.char_sequence.specs.Chunks.{cells_of}
use Rattle.char_sequence.specs.Content.{AreContent}
use Rattle.char_sequence.proofs.IndexLemmas.{index_there, place_of_cell}
use Rattle.char_sequence.proofs.KnownLemmas.{has_cell-content, place_of-content}
use Rattle.char_sequence.proofs.OnceLemmas.{once_content}
use Rattle.char_sequence.proofs.sequence.Sequence.find.Goals as goal

pub index-requires : goal.index-requires
index-requires c = place_of_cell c.self.inside.chunks c.args.id c.in_ok-found.found.chunk c.in_ok-found.found.at c.in_ok-found.ensures

pub returns-in_err-found : goal.returns-in_err-found
returns-in_err-found c = λ ops doc holds.
    rw c.from_residual.ensures
    (sym (has_cell-content (cells_of c.args.self.now) ops doc c.args.id holds)
    ∙ (ap (λ held. has_cell (cells_of held) c.args.id) (sym c.self.view_is) ∙ c.in_err-found.ensures))

pub returns : goal.returns
returns c = λ ops doc holds.
    let held = c.self.inside.chunks in
    let mine : AreContent (cells_of held) ops doc = rw (sym c.self.view_is) at holds in
    let there = index_there held c.args.id c.in_ok-found.found.chunk c.in_ok-found.found.at c.in_ok-found.ensures
    (once_content (cells_of held) ops doc mine) in
    place_of-content (cells_of held) ops doc c.args.id (Some c.index.result) mine (ap Some c.index.ensures ∙ sym there)
