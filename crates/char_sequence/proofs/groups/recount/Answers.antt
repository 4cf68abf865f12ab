use Rattle.std.proofs.Common.{arith}
use Rattle.char_sequence.proofs.GroupLemmas.{recounted, recounted_none}
use Rattle.char_sequence.proofs.groups.recount.Goals as goal

pub returns-then-g-groups : goal.returns-then-g-groups
returns-then-g-groups c = λ held k new are sized many inside is was will few.
    recounted_none c.args.groups.now held c.args.i new are (let past = c.if-g-groups.true in omega arith)

pub returns : goal.returns
returns c = λ held k new are sized many inside is was will few.
    let within = c.if-g-groups.false in
    recounted c.args.groups.now held c.args.i c.args.before c.args.after c.saturating_add.result k new are sized many inside is was will few
    (omega arith) (let less = c.saturating_sub.ensures in let more = c.saturating_add.ensures in omega arith)
