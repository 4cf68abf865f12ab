use Rattle.std.proofs.Common.{None, ◌∙◌, sym, arith}
use Rattle.root_slots.proofs.HeadLemmas.{none_by_head, head_says, tables_within, found_valid, found_says}
use Rattle.root_slots.proofs.WrittenLemmas.{found_written}
use Rattle.root_slots.proofs.root_body.RootBody.read.Goals as goal

pub returns-then-not-is_head-clause-valid : goal.returns-then-not-is_head-clause-valid
returns-then-not-is_head-clause-valid c =
    found_valid c.args.body.now None (sym (none_by_head c.args.body.now (sym c.is_head.ensures ∙ c.if-not-is_head.true)))

pub split_at-requires : goal.split_at-requires
split_at-requires c =
    let head = sym c.is_head.ensures ∙ c.if-not-is_head.false in
    omega (arith, (head_says c.args.body.now head).size)

pub take_numbers-requires : goal.take_numbers-requires
take_numbers-requires c =
    let head = sym c.is_head.ensures ∙ c.if-not-is_head.false in
    omega (arith, tables_within c.args.body.now head, c.split_at.ensures.back_len, c.u32_at.ensures)

pub returns-clause-valid : goal.returns-clause-valid
returns-clause-valid c = found_valid c.args.body.now c.with_tables.result c.with_tables.ensures

pub returns-clause-says : goal.returns-clause-says
returns-clause-says c = found_says c.args.body.now c.with_tables.result c.with_tables.ensures

pub returns-clause-written : goal.returns-clause-written
returns-clause-written c = found_written c.args.body.now c.with_tables.result (λ i. omega (arith, c.type_inv.body i)) c.with_tables.ensures
