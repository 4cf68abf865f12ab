use Rattle.std.proofs.Common.{◌+◌, ap, ◌∙◌, sym, arith}
use Rattle.op_ids.specs.Clock.{with_count}
use Rattle.op_ids.proofs.ClockLemmas.{advanced_as_set, count_limit}
use Rattle.op_ids.proofs.clock.Clock.advance.Goals as goal

pub overflow_add-count : goal.overflow_add-count
overflow_add-count c =
    let limit = count_limit c.args.self.now c.args.replica c.get-count.ensures.rising in
    omega arith

pub put-requires : goal.put-requires
put-requires c =
    let as_set = advanced_as_set c.args.self.now c.args.replica c.get-count.ensures.rising in
    cc

pub returns-clause-ok : goal.returns-clause-ok
returns-clause-ok c =
    let one_more = ap (λ n. with_count c.args.self.now c.args.replica (n + 1)) c.get-count.ensures.value in
    c.in_ok-put.ensures.ok ∙ one_more ∙ sym (advanced_as_set c.args.self.now c.args.replica c.get-count.ensures.rising)
