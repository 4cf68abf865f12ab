use Rattle.std.proofs.Common.{◌<◌, length, arith}
use Rattle.run_list.proofs.Found.{start_is}
use Rattle.run_list.proofs.Holding.{marks_long}
use Rattle.run_list.proofs.NextOnes.{mark_told}
use Rattle.run_list.proofs.Unrolling.{shown}
use Rattle.run_list.proofs.bare_list.BareList.typed_mark.Goals as goal

pub index-requires : goal.index-requires
index-requires c =
    let holds = shown _ _ _ c.args.self.now c.self.invariant c.self.view_is in
    omega (arith, marks_long _ _ _ _ holds, c.requires)

pub returns : goal.returns
returns c =
    let holds = shown _ _ _ c.args.self.now c.self.invariant c.self.view_is in
    let inside : c.args.i < length c.self.inside.marks.items = omega (arith, marks_long _ _ _ _ holds, c.requires) in
    mark_told _ _ _ _ c.args.i c.index.result.now c.from_u32.result holds c.requires (start_is _ _ _ inside c.index.ensures) c.from_u32.ensures.value
