use Rattle.std.proofs.Common.{arith, ◌∙◌}
use Rattle.session_threads.proofs.BeginLemmas.{one_more_try, begins_under_way, begins_settled, begins_refused, begins_never}
use Rattle.session_threads.proofs.committing.begin.Goals as goal

pub returns-in-Ok-Some : goal.returns-in-Ok-Some
returns-in-Ok-Some g c =
    let (tries, times, calls, same) = c.loop.invariant in
    let made = rw c.in-Ok-Some.field-0-is at c.in-Ok-Some.ensures.call in
    begins_under_way g.D.DiskFacts _ _ _ c.loop.counter c.in-Ok-Some.field-0-0 tries (omega arith) times calls same made

pub returns-in-Ok-None : goal.returns-in-Ok-None
returns-in-Ok-None g c =
    let (tries, times, calls, same) = c.loop.invariant in
    let made = rw c.in-Ok-None.field-0-is at c.in-Ok-None.ensures.call in
    begins_settled g.D.DiskFacts _ _ _ c.loop.counter tries (omega arith) times calls same made

pub returns-in-Err-2 : goal.returns-in-Err-2
returns-in-Err-2 g c =
    let (tries, times, calls, same) = c.loop.invariant in
    begins_refused g.D.DiskFacts _ _ _ c.loop.counter _ tries (omega arith) times calls same c.requires c.in-Err.ensures.call
    (λ one. c.if-number-eq-MEMORY.false (c.number.ensures ∙ one))

pub loop-preserved : goal.loop-preserved
loop-preserved g c =
    let (tries, times, calls, same) = c.loop.invariant in
    let made = rw (← c.number.ensures, c.if-number-eq-MEMORY.true) at c.in-Err.ensures.call in
    one_more_try g.D.DiskFacts _ _ _ c.loop.counter tries times calls same c.requires made

pub returns : goal.returns
returns g c =
    let (tries, times, calls, same) = c.loop.invariant in
    begins_never g.D.DiskFacts _ _ c.loop.counter tries times calls same (omega arith)
