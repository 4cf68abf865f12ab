use Rattle.std.proofs.Common.{◌≡◌, Some, true, sym, ◌∙◌, ap}
use Rattle.std.specs.Prelude.{slice_get, slice_set}
use Rattle.std.proofs.lemmas.Bool.{not-false, not-true}
use Rattle.std.proofs.lemmas.Option.{get_or_from_slice_get}
use Rattle.char_sequence.specs.declared.cell.Cell.{Cell}
use Rattle.char_sequence.proofs.ChunkLemmas.{hidden_same, removed_one, same_set, some_shown}
use Rattle.char_sequence.proofs.chunk.Chunk.remove.Goals as goal

pub overflow_sub-self : goal.overflow_sub-self
overflow_sub-self c =
    let inside = rw (← c.self.view_is) at c.requires in
    let there : slice_get c.self.inside.cells c.args.j ≡ Some c.in-Some.cell = sym c.get.ensures ∙ c.in-Some.is in
    some_shown _ c.args.j _ c.in-Some.cell c.self.invariant inside (sym (get_or_from_slice_get c.self.inside.cells c.args.j c.in-Some.cell c.in-Some.cell there)) (not-true _ c.if-not-cell.true)

pub invariant_of-self : goal.invariant_of-self
invariant_of-self c =
    let inside = rw (← c.self.view_is) at c.requires in
    let there : slice_get c.self.inside.cells c.args.j ≡ Some c.in-Some.cell = sym c.get.ensures ∙ c.in-Some.is in
    rw (c.remove.ensures.removed c.in-Some.cell there)
    (removed_one _ c.args.j _ c.in-Some.cell c.self.invariant inside (sym (get_or_from_slice_get c.self.inside.cells c.args.j c.in-Some.cell c.in-Some.cell there)) (not-true _ c.if-not-cell.true))

pub returns-else-not-cell-clause-removed : goal.returns-else-not-cell-clause-removed
returns-else-not-cell-clause-removed c = λ d there.
    let here : slice_get c.args.self.now c.args.j ≡ Some c.in-Some.cell = rw c.self.view_is at (sym c.get.ensures ∙ c.in-Some.is) in
    let same : c.in-Some.cell ≡ d = let both : Some c.in-Some.cell ≡ Some d = sym here ∙ there in cc in
    sym (same_set c.args.self.now c.args.j c.in-Some.cell here)
    ∙ ap (slice_set c.args.self.now c.args.j) (hidden_same c.in-Some.cell (not-false _ c.if-not-cell.false) ∙ ap (λ (x : Cell). record x { is_removed = true }) same)
