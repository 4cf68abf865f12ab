use Rattle.std.proofs.Common.{◌∙◌, ◌+◌, ◌≤◌, length, take, take_all, nat_lt, arith}
use Rattle.std.specs.Prelude.{◌==◌}
use Rattle.op_ids.specs.Clock.{count_of}
use Rattle.replica_core.proofs.NextLemmas.{next_at_first, next_of_both, next_of_all, asked_more}
use Rattle.replica_core.proofs.telling.next_untold.Goals as goal

pub loop-entry-init : goal.loop-entry-init
loop-entry-init c = rw c.len-next.ensures (next_at_first c.args.peer.now c.args.ops.now c.args.from)

pub loop-entry-preserved : goal.loop-entry-preserved
loop-entry-preserved c =
    next_of_both c.args.peer.now (λ op. nat_lt 0 (count_of (take c.loop-entry.entry-index c.entries-entry-items.result.now) op.id.replica))
    (λ op. op.id.replica == c.entry-item.result.0)
    (λ op. nat_lt 0 (count_of (take (c.loop-entry.entry-index + 1) c.entries-entry-items.result.now) op.id.replica))
    c.args.ops.now c.args.from c.loop-entry.next c.next_of.result c.min-next.result c.loop-entry.invariant c.next_of.ensures c.min-next.ensures
    (λ op asked. asked_more c.entries-entry-items.result.now c.loop-entry.entry-index c.entry-item.result op c.loop-entry-test.true c.entry-item.is asked)

pub returns : goal.returns
returns c =
    let end : length c.entries-entry-items.result.now ≤ c.loop-entry.entry-index = omega arith in
    let all = take_all c.loop-entry.entry-index c.entries-entry-items.result.now end ∙ c.entries-entry-items.ensures.same in
    next_of_all c.args.peer.now c.args.ops.now c.args.clock.now c.args.from c.loop-entry.next c.requires.clock (rw all at c.loop-entry.invariant)
