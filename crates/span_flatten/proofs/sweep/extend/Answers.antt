use Rattle.std.proofs.Common.{refl, arith}
use Rattle.std.specs.Vec.{vec_len}
use Rattle.span_flatten.proofs.BackLemmas.{runs_extended}
use Rattle.span_flatten.proofs.sweep.extend.Goals as goal

pub returns-in_ok-push : goal.returns-in_ok-push
returns-in_ok-push c =
    runs_extended c.args.runs.now.items (vec_len c.args.runs.now) c.args.value c.in-Some.run'.now
    (record { values = c.push.new.self; marks = c.in-Some.run'.now.marks }) (omega arith) (c.in-Some.ensures.variant.0 refl)
    c.in-Some.ensures.value c.in_ok-push.ensures.items refl
