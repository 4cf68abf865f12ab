use Rattle.std.proofs.Common.{◌≤◌, ap, length, rules, arith}
use Rattle.std.proofs.lemmas.List.{length-map}
use Rattle.replica_core.specs.Docs.{draft_number}
use Rattle.replica_core.proofs.DraftLemmas.{drafts_new, number_put}
use Rattle.replica_core.proofs.drafts.open.Goals as goal

pub insert-requires-in-Err : goal.insert-requires-in-Err
insert-requires-in-Err c =
    let many = length-map c.args.drafts.now.items draft_number in
    let same = ap length c.requires.drafts in
    let place = rw c.deref.ensures.value at c.in-Err.ensures in
    let within : c.in-Err.at ≤ length c.args.drafts.now.items = omega (arith, place.0) in
    search rules

pub returns-in_ok-map_err-in-Err-2-clause-drafts : goal.returns-in_ok-map_err-in-Err-2-clause-drafts
returns-in_ok-map_err-in-Err-2-clause-drafts c = λ ops are drafts.
    let place = rw c.deref.ensures.value at c.in-Err.ensures in
    drafts_new c.args.drafts.now.items c.insert-in-Err.new.self.items c.args.numbers.now.items c.insert.new.self.items c.in-Err.at c.in_ok-draft-in-Err.draft c.args.doc
    ops drafts c.requires.rising are place.1 c.in_ok-draft-in-Err.ensures.number c.in_ok-draft-in-Err.ensures.empty (search rules) (search rules)

pub returns-in_ok-map_err-in-Err-2-clause-place : goal.returns-in_ok-map_err-in-Err-2-clause-place
returns-in_ok-map_err-in-Err-2-clause-place c =
    let place = rw c.deref.ensures.value at c.in-Err.ensures in
    number_put c.args.numbers.now.items c.insert.new.self.items c.in-Err.at c.args.doc place.0 (search rules)
