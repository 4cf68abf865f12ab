use Rattle.std.proofs.Common.{suc, take, sym, ap, ◌∙◌, arith}
use Rattle.std.proofs.lemmas.List.{take-map}
use Rattle.run_list.specs.Reading.{runs_of}
use Rattle.run_list.specs.Column.{changes_in}
use Rattle.run_list.specs.Told.{bare_of, token_number, with_token}
use Rattle.run_list.proofs.Telling.{shown, bare_long, told_at}
use Rattle.run_list.proofs.Continuing.{before_bare}
use Rattle.run_list.proofs.run_list.RunList.next.Goals as goal

pub next-requires-clause-within : goal.next-requires-clause-within
next-requires-clause-within c = omega (arith, c.requires.within, bare_long _ _ _ (shown _ _ c.args.self.now c.self.invariant c.self.view_is))

pub next-requires-clause-runs : goal.next-requires-clause-runs
next-requires-clause-runs c =
    let holds = shown _ _ c.args.self.now c.self.invariant c.self.view_is in
    c.requires.begun.runs ∙ ap runs_of (sym (ap (take c.args.i) holds.bare_so ∙ take-map bare_of c.args.i c.args.self.now))

pub next-requires-clause-before : goal.next-requires-clause-before
next-requires-clause-before c =
    let holds = shown _ _ c.args.self.now c.self.invariant c.self.view_is in
    rw (c.bare_of_some.ensures, ap (take c.args.i) holds.bare_so ∙ take-map bare_of c.args.i c.args.self.now)
    (before_bare (take c.args.i c.args.self.now) c.args.before c.requires.before)

pub changes_with-changes-requires : goal.changes_with-changes-requires
changes_with-changes-requires c =
    let holds = shown _ _ c.args.self.now c.self.invariant c.self.view_is in
    c.requires.begun.changes
    ∙ ap changes_in (sym (ap (take c.args.i) holds.tokens_so ∙ take-map (λ op. token_number op.token) c.args.i c.args.self.now))

pub returns-clause-op : goal.returns-clause-op
returns-clause-op c =
    let holds = shown _ _ c.args.self.now c.self.invariant c.self.view_is in
    ap (with_token c.in_ok-op.op) c.token_of-op.ensures
    ∙ told_at _ _ _ c.args.i c.number_with.result c.in_ok-op.op (with_token c.in_ok-op.op c.token_of-op.result) holds c.requires.within c.in_ok-op.ensures.op c.number_with.ensures

pub returns-clause-begun : goal.returns-clause-begun
returns-clause-begun c =
    let holds = shown _ _ c.args.self.now c.self.invariant c.self.view_is in
    record {
      runs =
          c.in_ok-op.ensures.runs
          ∙ ap runs_of (ap (take (suc c.args.i)) holds.bare_so ∙ take-map bare_of (suc c.args.i) c.args.self.now);
      changes =
          c.changes_with-changes.ensures
          ∙ ap changes_in (ap (take (suc c.args.i)) holds.tokens_so ∙ take-map (λ op. token_number op.token) (suc c.args.i) c.args.self.now);
    }
