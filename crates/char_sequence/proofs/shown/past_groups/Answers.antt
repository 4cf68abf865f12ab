use Rattle.std.proofs.Common.{◌≡◌, ◌≤◌, ◌+◌, ◌-◌, ◌*◌, drop, sym, ◌∙◌, ap, arith}
use Rattle.char_sequence.specs.Cells.{behind_shown, shown_at}
use Rattle.char_sequence.specs.Chunks.{cells_of}
use Rattle.char_sequence.specs.Sums.{seen_in_group}
use Rattle.char_sequence.proofs.GroupSearchLemmas.{behind_group, past_group}
use Rattle.char_sequence.proofs.shown.past_groups.Goals as goal

pub returns-then-left-seen-clause-start : goal.returns-then-left-seen-clause-start
returns-then-left-seen-clause-start c = record {
  found = c.loop-g.invariant.found;
  rest = c.loop-g.invariant.rest;
  here = omega arith;
  near = λ whole. let own = c.group-seen.ensures.seen in let less = c.if-left-seen.true in omega arith;
}

pub loop-g-preserved : goal.loop-g-preserved
loop-g-preserved c =
    let held = c.args.chunks.now in
    let own = c.group-seen.ensures.seen in
    let past : seen_in_group held c.loop-g.g ≤ c.loop-g.left = (let out = c.if-left-seen.false in omega arith) in
    record {
      found = c.loop-g.invariant.found ∙ (past_group held c.loop-g.g c.loop-g.left past
          ∙ ap (λ n. shown_at (cells_of (drop (64 * (c.loop-g.g + 1)) held)) (c.loop-g.left - n)) (sym own));
      rest = c.loop-g.invariant.rest ∙ (behind_group held c.loop-g.g (c.loop-g.left + 1) (omega arith)
          ∙ ap (behind_shown (cells_of (drop (64 * (c.loop-g.g + 1)) held))) (omega arith));
      ticks = let tick = c.group-seen.ensures.tick in let so_far = c.loop-g.invariant.ticks in omega arith;
    }

pub returns-clause-start : goal.returns-clause-start
returns-clause-start c =
    let held = c.args.chunks.now in
    let same : c.loop-g.g ≡ c.groups-groups.result = omega arith in
    record {
      found = c.loop-g.invariant.found ∙ ap (λ n. shown_at (cells_of (drop (64 * n) held)) c.loop-g.left) same;
      rest = c.loop-g.invariant.rest ∙ ap (λ n. behind_shown (cells_of (drop (64 * n) held)) (c.loop-g.left + 1)) same;
      here = let whole = c.groups-groups.ensures.whole in omega arith;
      near = λ whole. let few = c.groups-groups.ensures.rest in absurd (omega arith);
    }

pub overflow_mul-result : goal.overflow_mul-result
overflow_mul-result c = let many = c.are_sized.ensures.many in let whole = c.groups-groups.ensures.whole in omega arith

pub overflow_mul-result-2 : goal.overflow_mul-result-2
overflow_mul-result-2 c = let many = c.are_sized.ensures.many in let whole = c.groups-groups.ensures.whole in omega arith
