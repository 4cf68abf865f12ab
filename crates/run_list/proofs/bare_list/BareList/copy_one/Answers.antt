use Rattle.std.proofs.Common.{get_or}
use Rattle.run_list.proofs.Found.{operation_at, some_op}
use Rattle.run_list.proofs.NextOnes.{typed_behind_too, begins_too}
use Rattle.run_list.proofs.bare_list.BareList.copy_one.Goals as goal

pub type_on-requires : goal.type_on-requires
type_on-requires c =
    let ops = c.args.ops.now in
    let d = some_op ops c.args.i c.requires.within in (
      get_or ops c.args.i d,
      typed_behind_too ops c.args.self.now c.args.i c.in-Some.value d c.requires.last c.in-Some.ensures (operation_at ops c.args.i d c.requires.within c.kept.ensures.fits),
    )

pub begin_run-requires : goal.begin_run-requires
begin_run-requires c = begins_too c.args.ops.now c.args.self.now c.args.i c.in_ok-op-in-None.op c.requires.last c.in-None.ensures c.in_ok-op-in-None.ensures

pub returns-in_ok-type_on-in-Some-clause-ok : goal.returns-in_ok-type_on-in-Some-clause-ok
returns-in_ok-type_on-in-Some-clause-ok c d =
    let ops = c.args.ops.now in
    c.in_ok-type_on-in-Some.ensures.ok (get_or ops c.args.i d)
    (typed_behind_too ops c.args.self.now c.args.i c.in-Some.value d c.requires.last c.in-Some.ensures (operation_at ops c.args.i d c.requires.within c.kept.ensures.fits))
