use Rattle.std.proofs.lemmas.Result.{on_ok_weaker}
use Rattle.span_flatten.proofs.SinceLemmas.{insert_since, remove_since}
use Rattle.span_flatten.proofs.since.Since.take_before.Goals as goal

pub returns-in-Insert : goal.returns-in-Insert
returns-in-Insert c =
    on_ok_weaker c.insert.result (λ more_of. λ before more doc was again.
    insert_since c.args.self.now c.insert.new.self before more doc c.args.op.now c.in-Insert.origin c.in-Insert.value c.if-op-self.false c.in-Insert.is was more_of c.insert.ensures.rest)
    c.insert.ensures.inserted

pub returns-in-Remove : goal.returns-in-Remove
returns-in-Remove c =
    on_ok_weaker c.remove.result (λ more_of. λ before more doc was again.
    remove_since c.args.self.now c.remove.new.self before more doc c.args.op.now c.in-Remove.target c.args.is_repeat c.if-op-self.false c.in-Remove.is was again more_of c.remove.ensures.rest)
    c.remove.ensures.removed
