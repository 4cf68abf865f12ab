use Rattle.std.proofs.Common.{arith}
use Rattle.hub_tests.proofs.test_peers.op_in.Goals as goal

pub get-requires : goal.get-requires
get-requires c = omega arith
