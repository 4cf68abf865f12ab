use Rattle.std.proofs.Common.{take, sym, ap, subst, ◌∙◌, Err}
use Rattle.std.proofs.lemmas.Bool.{true≢false}
use Rattle.doc_core.specs.Drafting.{IsDraftOf}
use Rattle.doc_core.proofs.NamingLemmas.{fits_there}
use Rattle.replica_core.specs.Docs.{draft_number}
use Rattle.replica_core.proofs.DraftLemmas.{take_push}
use Rattle.replica_core.proofs.PastLemmas.{fits_next}
use Rattle.replica_core.proofs.past.take.Goals as goal

pub returns-in-Ok-clause-taken : goal.returns-in-Ok-clause-taken
returns-in-Ok-clause-taken c =
    let list = c.args.list.now in
    let op = c.in_ok-op.op in
    let own = c.requires.own op c.in_ok-op.ensures in
    let fits = fits_next list (draft_number c.args.draft.now) c.args.at op c.requires.closed c.requires.there c.in_ok-op.ensures own in
    subst (λ ops. IsDraftOf c.apply.new.self ops) (sym (take_push list c.args.at op c.requires.there c.in_ok-op.ensures))
    (c.in-Ok.ensures.taken (take c.args.at list) c.requires.draft fits)

pub unreachable-requires : goal.unreachable-requires
unreachable-requires c =
    let list = c.args.list.now in
    let op = c.in_ok-op.op in
    let own = c.requires.own op c.in_ok-op.ensures in
    let fits = fits_next list (draft_number c.args.draft.now) c.args.at op c.requires.closed c.requires.there c.in_ok-op.ensures own in
    let missing = (c.in-Err-UnknownId.ensures.unknown (take c.args.at list) c.requires.draft).0 (ap Err c.in-Err-UnknownId.field-0-is) in
    true≢false (sym (fits_there (take c.args.at list) (draft_number c.args.draft.now) op fits) ∙ missing)
