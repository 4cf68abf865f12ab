use Rattle.std.proofs.Common.{◌≡◌, ◌++◌, length}
use Rattle.change_codec.specs.Formats.{AreOf}
use Rattle.change_codec.specs.Stream.{spelled_all, AreOperations}
use Rattle.change_codec.proofs.stream.take_ops.Given as goal

-- the records of the operations so far, and the bytes that are left, are all of them
abbrev pub invariant-loop-rest : goal.invariant-loop-rest
invariant-loop-rest l =
    record {
      all : spelled_all l.ops.items ++ l.rest ≡ l.bytes;
      fits : AreOperations l.ops.items;
      of_format : AreOf l.format l.ops.items;
    }

abbrev pub decreases-loop-rest : goal.decreases-loop-rest
decreases-loop-rest l = length l.rest
