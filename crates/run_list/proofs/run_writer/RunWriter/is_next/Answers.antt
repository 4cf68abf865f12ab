use Rattle.std.proofs.Common.{◌≡◌, None, Some, sym, ap, ◌∙◌, subst}
use Rattle.run_list.specs.Runs.{last_behind}
use Rattle.run_list.specs.Told.{continues}
use Rattle.run_list.specs.Writer.{KnowsLast}
use Rattle.run_list.proofs.Continuing.{goes_on_bare}
use Rattle.run_list.proofs.run_writer.RunWriter.is_next.Goals as goal
use Rattle.run_list.proofs.run_writer.RunWriter.is_next.Goals.{in-Some, in-None}

pub returns-clause-test : goal.returns-clause-test
returns-clause-test c =
    elim c.match-take.branch [
      | in-Some w ↦
          let known : last_behind None c.self.inside.list ≡ Some w.in-Some.last = subst (KnowsLast c.self.inside.list) (sym w.in-Some.ensures.value) c.self.invariant in
          rw w.result-is
          (w.is_next_bare.ensures ∙ sym (goes_on_bare c.self.inside.list w.in-Some.last c.args.op.now known)
          ∙ ap (λ ops. continues ops c.args.op.now) c.self.view_is)
      | in-None w ↦ rw (w.result-is, sym c.self.view_is) w.has_next.ensures
    ]
