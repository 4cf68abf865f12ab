-- What the bytes of a stream are as a list of so many operations.
use Rattle.std.specs.Prelude.{◌≡◌, ◌≢◌, ℕ, ◌≤◌, ◌<◌, List, ◌++◌, length}
use Rattle.fixed_numbers.specs.declared.limits.TheConstants.{MAX_STREAM_LENGTH}
use Rattle.op_model.specs.declared.op.Op.{Op}
use Rattle.op_model.specs.Records.{stream_length}
use Rattle.change_codec.specs.declared.format.Format.{Format}
use Rattle.piece_codec.specs.Stream.{SpellsList}

-- the bytes spell these operations, and there are count of them
pub record SpellsSome (format : Format) (ops : List Op) (count : ℕ) (bytes : List ℕ) : Type 0 where
  pub spells : SpellsList format ops bytes
  pub counted : length ops ≡ count

-- and one by one their records take at most 2^30 bytes
pub record SpellsShort (format : Format) (ops : List Op) (count : ℕ) (bytes : List ℕ) : Type 0 where
  pub some : SpellsSome format ops count bytes
  pub short : stream_length ops ≤ MAX_STREAM_LENGTH

-- the bytes don't spell so many operations
abbrev pub HasNone : Format → List ℕ → ℕ → Type 0
HasNone format bytes count = (ops : List Op) → SpellsList format ops bytes → length ops ≢ count

-- nor do they with any bytes behind them
abbrev pub NeverHas : Format → List ℕ → ℕ → Type 0
NeverHas format bytes count = (more : List ℕ) → HasNone format (bytes ++ more) count

-- the bytes spell so many operations, whose records, one by one, take more than 2^30 bytes
pub record HasTooLong (format : Format) (bytes : List ℕ) (count : ℕ) : Type 0 where
  pub ops : List Op
  pub some : SpellsSome format ops count bytes
  pub long : MAX_STREAM_LENGTH < stream_length ops
