use Rattle.std.proofs.Common.{sym}
use Rattle.doc_core.proofs.EndedLemmas.{made_leave_at}
use Rattle.doc_core.proofs.doc.Doc.make_insert.Goals as goal

pub returns-clause-not_covered : goal.returns-clause-not_covered
returns-clause-not_covered c =
    made_leave_at c.args.self.now c.args.author.now c.args.at c.in-Some.gap.count c.args.text.now _
    (λ ops stands. sym (c.in-Some.ensures.there ops stands)) c.in-Some.ensures.gap.0 c.in_ok-typed.ensures
