use Rattle.replica_core.proofs.DraftLemmas.{draft_at, found_at}
use Rattle.replica_core.proofs.opening.Passed.may_take.Goals as goal

pub names_inserts_in-requires-clause-draft : goal.names_inserts_in-requires-clause-draft
names_inserts_in-requires-clause-draft c =
    let found = found_at c.args.self.now.drafts.items c.args.at c.index-draft.result.now c.args.op.now.doc
    (rw c.requires.drafts.numbers c.requires.place) c.index-draft.ensures in
    draft_at c.args.self.now.drafts.items c.args.at c.index-draft.result.now c.args.others.now c.requires.drafts.drafts found.0 c.index-draft.ensures
