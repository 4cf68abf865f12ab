use Rattle.std.proofs.Common.{refl, sym, arith}
use Rattle.std.proofs.lemmas.Bool.{true≢false}
use Rattle.char_sequence.proofs.EndedLemmas.{not_there, stands_before, stands_behind, stands_between}
use Rattle.char_sequence.proofs.IndexLemmas.{place_of_cell}
use Rattle.char_sequence.proofs.PlaceLemmas.{fits_behind}
use Rattle.char_sequence.proofs.ended.behind_id.Goals as goal
use Rattle.char_sequence.proofs.ended.behind_id.Goals.{then-is_ahead_of-via-then-is_ahead_of, then-is_ahead_of-via-else-is_ahead_of+then-not-is_ahead_of}

pub returns-in-None : goal.returns-in-None
returns-in-None c = λ once. not_there c.args.chunks.now c.args.from.now c.args.id.now c.in-None.ensures

pub returns-then-is_ahead_of : goal.returns-then-is_ahead_of
returns-then-is_ahead_of c = λ once.
    let held = c.args.chunks.now in
    let found = c.in-Some.found in
    elim c.then-is_ahead_of.branch [
      | then-is_ahead_of-via-then-is_ahead_of w ↦
          stands_before held c.args.from.now c.args.to.now found c.args.id.now c.requires c.in-Some.ensures (w.if-is_ahead_of.ensures.0 refl) once
      | then-is_ahead_of-via-else-is_ahead_of+then-not-is_ahead_of w ↦
          stands_behind held c.args.from.now c.args.to.now found c.args.id.now c.requires c.in-Some.ensures
          (place_of_cell held c.args.id.now found.chunk found.at c.in-Some.ensures)
          (λ ahead. true≢false (sym (w.if-not-is_ahead_of.ensures.1 ahead))) once
    ]

pub overflow_add-result : goal.overflow_add-result
overflow_add-result c =
    let there = c.in-Some.ensures in
    let few = fits_behind c.args.chunks.now c.in-Some.found.chunk c.in-Some.found.at there.c c.are_sized.ensures.chunks.sized there.cell in
    omega arith

pub returns : goal.returns
returns c =
    let held = c.args.chunks.now in
    let found = c.in-Some.found in
    stands_between held c.args.from.now c.args.to.now found _ c.args.id.now c.requires c.in-Some.ensures
    (place_of_cell held c.args.id.now found.chunk found.at c.in-Some.ensures)
    (λ ahead. true≢false (sym (c.if-is_ahead_of.ensures.1 ahead))) (c.if-not-is_ahead_of.ensures.0 refl) refl
