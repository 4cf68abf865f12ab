use Rattle.std.proofs.Common.{refl, sym, arith}
use Rattle.std.specs.Vec.{vec_len}
use Rattle.span_flatten.proofs.RunLemmas.{joined}
use Rattle.span_flatten.proofs.run.put_before.Goals as goal

pub returns-in_ok-push-in-Some : goal.returns-in_ok-push-in-Some
returns-in_ok-push-in-Some c =
    joined c.args.runs.now.items (vec_len c.args.runs.now) c.in-Some.run'.now (record { values = c.push.new.self; marks = c.in-Some.run'.now.marks })
    c.args.value c.args.marks (omega arith) (c.in-Some.ensures.variant.0 refl) c.in-Some.ensures.value (sym c.if-are_same.ensures)
    c.in_ok-push-in-Some.ensures.items refl
