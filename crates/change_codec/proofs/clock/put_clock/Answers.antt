use Rattle.std.proofs.Common.{arith}
use Rattle.change_codec.proofs.Lengths.{length-deps}
use Rattle.change_codec.proofs.clock.put_clock.Goals as goal

pub put_deps-requires : goal.put_deps-requires
put_deps-requires c = omega (arith, length-deps c.args.clock.now, c.in_ok-reserve.ensures.ok)
