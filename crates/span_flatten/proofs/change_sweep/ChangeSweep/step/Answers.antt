use Rattle.std.proofs.Common.{◌≡◌, ◌+◌, ◌-◌, ◌≤◌, true, List, length, ap, sym, ◌∙◌, arith}
use Rattle.std.proofs.lemmas.Bool.{both_ways}
use Rattle.std.proofs.lemmas.List.{length-take-le}
use Rattle.op_model.specs.declared.marking.Marking.{Marking}
use Rattle.mark_anchors.specs.Keeping.{in_order}
use Rattle.span_flatten.specs.Listing.{listed_steps}
use Rattle.span_flatten.specs.Passing.{is_quiet}
use Rattle.span_flatten.specs.Since.{older}
use Rattle.span_flatten.specs.Telling.{keeping}
use Rattle.span_flatten.specs.declared.since.Since.{Since}
use Rattle.span_flatten.proofs.HeldLemmas.{chunk_within}
use Rattle.span_flatten.proofs.QuietLemmas.{quiet_told}
use Rattle.span_flatten.proofs.SpotLemmas.{spots_long}
use Rattle.span_flatten.proofs.TellingLemmas.{keeping_lists}
use Rattle.span_flatten.proofs.change_sweep.ChangeSweep.step.Goals as goal

-- those of before are as many as all or fewer
fewer : (since : Since) (ms olds : List Marking) → olds ≡ older since ms → length olds ≤ length ms
fewer since ms olds are =
    let long = length-take-le (length ms - since.marked) ms (omega arith) in
    let same = ap length are in
    omega (arith, long, same)

pub is_quiet-requires : goal.is_quiet-requires
is_quiet-requires c =
    let less = fewer c.args.since.now c.in_order-markings.result.now c.older-past.result.now c.older-past.ensures in
    let same = ap length c.in_order-markings.ensures in
    let long = spots_long c.args.sequence.now c.args.plan.now.spots.items (in_order c.args.anchors.now) c.requires.plan.spots in
    omega (arith, less, same, long)

pub enter-requires : goal.enter-requires
enter-requires c =
    let less = fewer c.args.since.now c.in_order-markings.result.now c.older-past.result.now c.older-past.ensures in
    let same = ap length c.in_order-markings.ensures in
    let long = spots_long c.args.sequence.now c.args.plan.now.spots.items (in_order c.args.anchors.now) c.requires.plan.spots in
    omega (arith, less, same, long)

pub pass_chunk-requires-clause-before : goal.pass_chunk-requires-clause-before
pass_chunk-requires-clause-before c =
    let there = chunk_within c.args.sequence.now c.args.chunk.index c.args.chunk.size c.requires.there in
    rw c.in_order-markings.ensures at (c.in_ok-enter.ensures c.args.sequence.now c.args.since.now c.older-past.ensures
    (rw c.in_order-markings.ensures c.requires.plan) (omega arith) (rw c.in_order-markings.ensures c.requires.before))

pub returns-then-is_quiet : goal.returns-then-is_quiet
returns-then-is_quiet c =
    let ms = in_order c.args.anchors.now in
    let since = c.args.since.now in
    let are_old : c.older-past.result.now ≡ older since ms = c.older-past.ensures ∙ ap (older since) c.in_order-markings.ensures in
    let quiet : is_quiet c.args.plan.now (length (older since ms)) c.args.chunk.index ≡ true =
    ap (λ (olds : List Marking). is_quiet c.args.plan.now (length olds) c.args.chunk.index) (sym are_old) ∙ sym c.is_quiet.ensures ∙ c.if-is_quiet.true in
    record {
      told = let is = c.in_ok-skip.ensures.told in record {
        here = λ e. absurd (both_ways c.skip.new.self.is_here c.skip.ensures.here e);
        told = λ before more doc are all noted.
            is
            ∙ ap (λ ss. keeping ss c.args.chunk.size.shown) (c.requires.before.told before more doc are all noted)
            ∙ sym (quiet_told before more doc c.args.sequence.now since ms c.args.plan.now c.args.chunk.index c.args.chunk.size are all noted
            c.requires.plan c.requires.there quiet);
        few = ap (λ ss. listed_steps ss + c.skip.new.self.left) is
            ∙ ap (λ n. n + c.skip.new.self.left) (keeping_lists c.args.self.now.steps.items c.args.chunk.size.shown)
            ∙ ap (λ n. listed_steps c.args.self.now.steps.items + n) c.skip.ensures.left
            ∙ c.requires.before.few;
      };
    }
