use Rattle.std.proofs.Common.{◌≡◌, ◌≢◌, ◌∙◌, sym}
use Rattle.std.proofs.lemmas.Bool.{eqb-true, eqb-false}
use Rattle.edit_tokens.proofs.PlaceLemmas.{tokens_foreign, tokens_own}
use Rattle.edit_tokens.proofs.gathered.Gathered.count.Goals as goal

pub returns-in_ok-put-clause-counted : goal.returns-in_ok-put-clause-counted
returns-in_ok-put-clause-counted c = λ ops is are.
    let own : c.args.op.now.id.replica ≡ c.args.replica = eqb-true c.args.op.now.id.replica c.args.replica (sym c.is_own.ensures ∙ c.if-is_own.true) in
    tokens_own c.args.self.now c.put.new.self c.args.replica ops c.args.op.now c.args.place own is c.in_ok-put.ensures.put are

pub returns-else-is_own-clause-counted : goal.returns-else-is_own-clause-counted
returns-else-is_own-clause-counted c = λ ops is are.
    let foreign : c.args.op.now.id.replica ≢ c.args.replica =
    eqb-false c.args.op.now.id.replica c.args.replica (sym c.is_own.ensures ∙ c.if-is_own.false) in
    tokens_foreign c.args.self.now c.args.replica ops c.args.op.now foreign are
