use Rattle.std.proofs.Common.{◌∙◌, length, sym, ap, arith}
use Rattle.root_slots.proofs.HeadLemmas.{none_by_rest, head_says, tables_within, length-tables, rest_is, root_from, some_root}
use Rattle.root_slots.proofs.root_body.RootBody.with_tables.Goals as goal

pub split_at-requires : goal.split_at-requires
split_at-requires c =
    let body = c.args.body.now in
    omega (arith, tables_within body c.requires.head, length-tables body, ap length c.requires.tables, c.len.ensures)

pub replica_at-requires-clause-not_nil : goal.replica_at-requires-clause-not_nil
replica_at-requires-clause-not_nil c = (head_says c.args.body.now c.requires.head).replica

pub returns-then-not-is_rest : goal.returns-then-not-is_rest
returns-then-not-is_rest c =
    let rest = c.is_rest.ensures ∙ rest_is c.args.body.now c.deref.result.now c.split_at.result.1.now c.len.result (c.deref.ensures.value ∙ c.requires.tables) c.split_at.ensures.back (omega (arith, c.len.ensures, c.deref.ensures.len)) in
    sym (none_by_rest c.args.body.now c.requires.head (sym rest ∙ c.if-not-is_rest.true))

pub invariant_of-result : goal.invariant_of-result
invariant_of-result c =
    let rest = c.is_rest.ensures ∙ rest_is c.args.body.now c.deref.result.now c.split_at.result.1.now c.len.result (c.deref.ensures.value ∙ c.requires.tables) c.split_at.ensures.back (omega (arith, c.len.ensures, c.deref.ensures.len)) in
    root_from c.args.body.now c.format_at.result c.u64_at.result c.replica_at.result c.u64_at-2.result c.u64_at-3.result c.args.tables.items
    c.format_at.ensures c.u64_at.ensures c.replica_at.ensures c.u64_at-2.ensures c.u64_at-3.ensures c.requires.tables c.requires.head (sym rest ∙ c.if-not-is_rest.false)

pub returns : goal.returns
returns c =
    let rest = c.is_rest.ensures ∙ rest_is c.args.body.now c.deref.result.now c.split_at.result.1.now c.len.result (c.deref.ensures.value ∙ c.requires.tables) c.split_at.ensures.back (omega (arith, c.len.ensures, c.deref.ensures.len)) in
    some_root c.args.body.now c.format_at.result c.u64_at.result c.replica_at.result c.u64_at-2.result c.u64_at-3.result c.args.tables.items
    c.format_at.ensures c.u64_at.ensures c.replica_at.ensures c.u64_at-2.ensures c.u64_at-3.ensures c.requires.tables c.requires.head (sym rest ∙ c.if-not-is_rest.false)
