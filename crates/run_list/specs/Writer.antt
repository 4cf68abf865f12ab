-- Used by private functions and proofs alone.
--
-- What a writer knows of the list's last operation.
use Rattle.std.specs.Prelude.{◌≡◌, ℕ, ◌+◌, ◌==◌, ◌&&◌, Bool, true, false, List, Option, Some, None}
use Rattle.op_ids.specs.Id.{Id, is_same}
use Rattle.op_model.specs.declared.op.Op.{Op}
use Rattle.op_model.specs.Records.{record_length}
use Rattle.op_list.specs.declared.head.OpHead.{OpHead}
use Rattle.change_codec.specs.Heads.{origin_of}
use Rattle.change_codec.specs.declared.format.Format.{Format}
use Rattle.change_codec.specs.Formats.{IsOf}
use Rattle.change_codec.specs.Record.{BeginsWithOp}
use Rattle.op_pieces.specs.Cutting.{is_next}
use Rattle.run_list.specs.Runs.{last_behind}

-- the operation that is known is the last one
abbrev pub KnowsLast : List Op → Option Op → Type 0
KnowsLast list None = Unit {0}
KnowsLast list (Some op) = last_behind None list ≡ Some op

-- this is the id
abbrev pub is_id : Option Id → Id → Bool
is_id None id = false
is_id (Some found) id = is_same found id

-- an id and a document are those of the replica's next operation behind the one with this head, in its document
abbrev pub is_numbered_behind : OpHead → Id → ℕ → Bool
is_numbered_behind last id doc = id.counter == last.id.counter + 1 && (id.replica == last.id.replica && doc == last.doc)

-- the operation is such a one, and inserts right behind it
abbrev pub is_right_behind : OpHead → Op → Bool
is_right_behind last op = is_numbered_behind last op.id op.doc && is_id (origin_of op.body) last.id

-- the operation is typed right behind another one, a format has it, and the bytes begin with its record
pub record IsSpelledNext (last : Op) (format : Format) (bytes : List ℕ) (op : Op) : Type 0 where
  pub next : is_next last op ≡ true
  pub of_format : IsOf format op
  pub begins : BeginsWithOp bytes op (record_length op)
