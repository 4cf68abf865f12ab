use Rattle.std.proofs.Common.{◌∙◌, ap, take}
use Rattle.op_model.specs.Text.{text}
use Rattle.replica_core.proofs.PastLemmas.{past_text, told_then}
use Rattle.replica_core.proofs.replica.Replica.text_at.Goals as goal

pub returns-in_ok-text-in-Some : goal.returns-in_ok-text-in-Some
returns-in_ok-text-in-Some c =
    let past = rw c.in-Some.is at c.in_ok-past.ensures.was in
    let there = rw c.in-Some.is at c.in_ok-past.ensures.there in
    told_then _ _ _ there (c.in_ok-text-in-Some.ensures (take past.front c.args.self.now.list) past.stands
    ∙ (ap (λ n. text (take past.front c.args.self.now.list) n) past.number ∙ past_text c.args.self.now.list c.args.doc c.args.rev past.front past.counted))
