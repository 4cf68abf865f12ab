use Rattle.std.proofs.Common.{◌∙◌, sym, rules}
use Rattle.run_list.proofs.Found.{fits_behind}
use Rattle.run_list.proofs.NextOnes.{next_there}
use Rattle.run_list.proofs.bare_list.BareList.typed.Goals as goal

pub typed_at-requires-clause-fits : goal.typed_at-requires-clause-fits
typed_at-requires-clause-fits c =
    fits_behind c.args.self.now c.args.i 1 c.args.value c.in-Some.op c.in-Some.op c.requires.within c.kept.ensures.fits
    (next_there c.args.self.now c.args.i c.args.value c.in-Some.op c.in-Some.op c.requires.on (search rules))

pub returns-in_ok-op-in-Some : goal.returns-in_ok-op-in-Some
returns-in_ok-op-in-Some c =
    c.in_ok-op-in-Some.ensures
    ∙ sym (next_there c.args.self.now c.args.i c.args.value c.in-Some.op c.in_ok-op-in-Some.op c.requires.on (search rules))
