use Rattle.std.proofs.Common.{◌∙◌, sym, Err, ap}
use Rattle.std.proofs.lemmas.Bool.{true≢false}
use Rattle.doc_core.proofs.NamingLemmas.{fits_there}
use Rattle.replica_core.specs.Docs.{draft_number}
use Rattle.replica_core.proofs.DraftLemmas.{draft_put, draft_rev, draft_takes, may_come_at, numbers_put, found_at}
use Rattle.replica_core.proofs.drafts.apply.Goals as goal

pub returns-in-Ok-clause-numbers : goal.returns-in-Ok-clause-numbers
returns-in-Ok-clause-numbers c =
    numbers_put c.args.drafts.now.items c.args.at c.index_mut-draft.result.now c.apply.new.self c.index_mut-draft.ensures.value c.in-Ok.ensures.number

pub returns-in-Ok-clause-drafts : goal.returns-in-Ok-clause-drafts
returns-in-Ok-clause-drafts c = λ ops all may.
    let found = found_at c.args.drafts.now.items c.args.at c.index_mut-draft.result.now c.args.op.now.doc c.requires.there.1 c.index_mut-draft.ensures.value in
    draft_put c.args.drafts.now.items c.args.at c.index_mut-draft.result.now c.apply.new.self ops c.args.op.now c.requires.there.0 found.0
    c.index_mut-draft.ensures.value found.1 all
    (λ draft. c.in-Ok.ensures.taken ops draft (may_come_at ops c.args.op.now.doc (draft_number c.index_mut-draft.result.now) c.args.op.now found.1 may))

pub returns-in-Ok-clause-rev : goal.returns-in-Ok-clause-rev
returns-in-Ok-clause-rev c = λ ops all may few.
    let found = found_at c.args.drafts.now.items c.args.at c.index_mut-draft.result.now c.args.op.now.doc c.requires.there.1 c.index_mut-draft.ensures.value in
    let takes = draft_takes c.args.drafts.now.items c.args.at c.index_mut-draft.result.now c.args.op.now ops found.0 c.index_mut-draft.ensures.value found.1
    all may in
    draft_rev c.index_mut-draft.result.now c.apply.new.self ops c.args.op.now c.rev.result found.1 c.in-Ok.ensures.number
    (c.in-Ok.ensures.taken ops takes.0 takes.1) few c.rev.ensures

pub unreachable-requires : goal.unreachable-requires
unreachable-requires c =
    let found = found_at c.args.drafts.now.items c.args.at c.index_mut-draft.result.now c.args.op.now.doc c.requires.there.1 c.index_mut-draft.ensures.value in
    let takes = draft_takes c.args.drafts.now.items c.args.at c.index_mut-draft.result.now c.args.op.now c.requires.may_come.0 found.0 c.index_mut-draft.ensures.value found.1
    c.requires.may_come.1 c.requires.may_come.2 in
    let missing = (c.in-Err-UnknownId.ensures.unknown c.requires.may_come.0 takes.0).0 (ap Err c.in-Err-UnknownId.field-0-is) in
    true≢false (sym (fits_there c.requires.may_come.0 (draft_number c.index_mut-draft.result.now) c.args.op.now takes.1) ∙ missing)
