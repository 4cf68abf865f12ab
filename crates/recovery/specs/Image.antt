-- What a file stands for.
use Rattle.std.specs.Prelude.{◌≡◌, ℕ, List, Ok}
use Rattle.op_model.specs.declared.op.Op.{Op}
use Rattle.op_model.specs.Causality.{IsCausallyClosed}
use Rattle.stream_list.specs.Streams.{SpellsSome}
use Rattle.root_slots.specs.Root.{format_of, version_of, replica_of, count_of}
use Rattle.group_commit.specs.Image.{stored}

-- The image of a file: its live root is this replica's and of this version, and its stream spells these operations in the root's
-- format, as many as the root says, which are causally closed.
pub record IsImage (file : List ℕ) (replica version : ℕ) (ops : List Op) : Type 0 where
  pub body : List ℕ
  pub bytes : List ℕ
  pub holds : stored file ≡ Ok (body, bytes)
  pub spells : SpellsSome (format_of body) ops (count_of body) bytes
  pub owner : replica_of body ≡ replica
  pub made : version_of body ≡ version
  pub closed : IsCausallyClosed ops
