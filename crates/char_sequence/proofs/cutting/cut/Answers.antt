use Rattle.std.proofs.Common.{◌≡◌, ◌≤◌, ◌+◌, ◌-◌, length, ◌∙◌, ap, arith}
use Rattle.std.proofs.lemmas.List.{length_push}
use Rattle.char_sequence.proofs.CuttingLemmas.{large_left, last_are, last_cells, last_sized, length_part, more_cells, more_sized}
use Rattle.char_sequence.proofs.cutting.cut.Goals as goal

pub loop-from-preserved : goal.loop-from-preserved
loop-from-preserved c =
    let from = c.loop-from.from in
    let held = c.loop-from.chunks.items in
    let more = c.in_ok-push.ensures.items in
    let long = ap length more ∙ length_push held c.in_ok-of.field-0 in
    let inside : from + 256 ≤ length c.args.cells.now = omega arith in
    record {
      within = inside;
      count = omega arith;
      left = λ some. omega arith;
      cut = more_cells c.args.cells.now held _ from (from + 256) c.in_ok-of.field-0 more c.in_ok-of.ensures (omega arith) c.loop-from.invariant.cut;
      sized = more_sized c.args.cells.now held _ from (from + 256) c.in_ok-of.field-0 more c.in_ok-of.ensures (omega arith) inside
          c.loop-from.invariant.sized;
    }

pub returns-clause-cells : goal.returns-clause-cells
returns-clause-cells c =
    last_cells c.args.cells.now c.loop-from.chunks.items _ c.loop-from.from c.in_ok-of-2.field-0 c.in_ok-push-2.ensures.items c.in_ok-of-2.ensures
    c.loop-from.invariant.within c.loop-from.invariant.cut

-- how many cells the last chunk has
last_long : (c : goal.In_ok-push-2) → length c.in_ok-of-2.field-0 ≡ length c.args.cells.now - c.loop-from.from
last_long c =
    ap length c.in_ok-of-2.ensures ∙ length_part c.args.cells.now c.loop-from.from (length c.args.cells.now) c.loop-from.invariant.within (omega arith)

pub returns-clause-chunks : goal.returns-clause-chunks
returns-clause-chunks c =
    let long = last_long c in
    last_are c.loop-from.chunks.items _ c.in_ok-of-2.field-0 c.loop-from.from c.in_ok-push-2.ensures.items c.loop-from.invariant.sized
    c.loop-from.invariant.count (λ some. let left = c.loop-from.invariant.left some in omega arith) (omega arith) (omega arith)

pub returns-clause-halved : goal.returns-clause-halved
returns-clause-halved c = λ many.
    let long = last_long c in
    let left = large_left c.loop-from.from (length c.args.cells.now) many c.loop-from.invariant.left in
    last_sized c.loop-from.chunks.items _ c.in_ok-of-2.field-0 c.in_ok-push-2.ensures.items c.loop-from.invariant.sized (omega arith) (omega arith)
