use Rattle.std.proofs.Common.{◌+◌, ◌≤◌, [], get_or, length, refl, sym, ◌∙◌, subst, arith}
use Rattle.char_sequence.proofs.PlaceLemmas.{ends_chunk, fits_behind}
use Rattle.char_sequence.proofs.ShownLemmas.{SoFar, found_here, found_next, found_past, found_skip}
use Rattle.char_sequence.proofs.shown.shown_in.Goals as goal
use Rattle.char_sequence.proofs.shown.shown_in.Goals.{in-Some+then-not-cell+else-left-eq0, in-Some+else-not-cell, in_default}

pub loop-j-init : goal.loop-j-init
loop-j-init c = record {
  so_far = record { found = refl; rest = refl; few = c.requires.here };
  ticks = omega arith;
  rising = omega arith;
}

pub overflow_add-result : goal.overflow_add-result
overflow_add-result c =
    let few = fits_behind c.args.chunks.now c.args.i c.loop-j.j c.in-Some.cell c.are_sized.ensures.chunks.sized (sym c.cell.ensures.cell ∙ c.in-Some.is) in
    omega arith

pub returns-then-left-eq0-clause-found : goal.returns-then-left-eq0-clause-found
returns-then-left-eq0-clause-found c =
    found_here c.args.chunks.now c.args.i c.loop-j.j c.args.k c.loop-j.left c.in-Some.cell _ c.loop-j.invariant.so_far
    (sym c.cell.ensures.cell ∙ c.in-Some.is) c.if-not-cell.true c.if-left-eq0.true refl

pub loop-j-preserved : goal.loop-j-preserved
loop-j-preserved c = record {
  so_far = elim c.match-cell.branch [
    | in-Some+then-not-cell+else-left-eq0 w ↦ subst (SoFar c.args.chunks.now c.args.i (c.loop-j.j + 1) c.args.k) (sym w.left-is)
        (found_next c.args.chunks.now c.args.i c.loop-j.j c.args.k c.loop-j.left w.in-Some.cell c.loop-j.invariant.so_far
        (sym c.cell.ensures.cell ∙ w.in-Some.is) w.if-not-cell.true w.if-left-eq0.false)
    | in-Some+else-not-cell w ↦ subst (SoFar c.args.chunks.now c.args.i (c.loop-j.j + 1) c.args.k) (sym w.left-is)
        (found_skip c.args.chunks.now c.args.i c.loop-j.j c.args.k c.loop-j.left w.in-Some.cell c.loop-j.invariant.so_far
        (sym c.cell.ensures.cell ∙ w.in-Some.is) w.if-not-cell.false)
    | in_default w ↦ absurd (found_past c.args.chunks.now c.args.i c.loop-j.j c.args.k c.loop-j.left c.loop-j.invariant.so_far
        (ends_chunk c.args.chunks.now c.args.i c.loop-j.j (sym c.cell.ensures.cell ∙ w.in_default.is)))
  ];
  ticks = let tick = c.cell.ensures.tick in let so_far = c.loop-j.invariant.ticks in omega arith;
  rising = let tick = c.cell.ensures.tick in let so_far = c.loop-j.invariant.rising in omega arith;
}

pub returns-clause-found : goal.returns-clause-found
returns-clause-found c =
    let end : length (get_or c.args.chunks.now c.args.i []) ≤ c.loop-j.j = (let out = c.loop-j-test.false in let all = c.requires.cells in omega arith) in
    found_past c.args.chunks.now c.args.i c.loop-j.j c.args.k c.loop-j.left c.loop-j.invariant.so_far end
