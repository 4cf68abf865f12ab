use Rattle.daemon_asking.specs.Passing.{Passes}
use Rattle.daemon_asking.proofs.asking.pass_all.Given as goal

-- what was taken so far is printed
abbrev pub invariant-loop : goal.invariant-loop
invariant-loop g l =
    Passes (g.B.Read.remaining l.fn.answers) (g.B.Read.remaining l.answers) (g.W.Write.contents l.fn.output) (g.W.Write.contents l.output)
