-- A stream that comes in parts, and how much of it was passed.
use Rattle.std.specs.Prelude.{◌≡◌, ℕ, ◌+◌, ◌*◌, ◌≤◌, List, [], ◌++◌, length}
use Rattle.fixed_numbers.specs.declared.limits.TheConstants.{MAX_STREAM_LENGTH}
use Rattle.op_model.specs.declared.op.Op.{Op}
use Rattle.op_model.specs.Records.{stream_length}
use Rattle.change_codec.specs.declared.format.Format.{Format}
use Rattle.piece_codec.specs.Stream.{SpellsList}
use Rattle.stream_list.specs.Fronts.{BeginsWithNone, most_records}
use Rattle.stream_list.specs.declared.passing.Listed.{Listed}

-- so many operations of a format are expected of a stream, of which these bytes came
pub record Reading : Type 0 where
  pub format : Format
  pub count : ℕ
  pub bytes : List ℕ

-- none came so far
abbrev pub unread : Format → ℕ → Reading
unread format count = record { format = format; count = count; bytes = [] }

-- and more come behind those
abbrev pub read_on : Reading → List ℕ → Reading
read_on it more = record it { bytes = it.bytes ++ more }

-- the bytes before the rest spell the list, of which so many and so much is known
pub record Passed (format : Format) (stream rest : List ℕ) (list : List Op) (count left records : ℕ) : Type 0 where
  pub before : List ℕ
  pub all : before ++ rest ≡ stream
  pub spells : SpellsList format list before
  pub counted : length list + left ≡ count
  pub measured : records ≡ stream_length list
  pub within : records ≤ most_records * length before

-- of the bytes that came, the whole pieces are in the list, and none stands in the rest
pub record HasPassed (it : Reading) (rest : List ℕ) (listed : Listed) : Type 0 where
  pub passed : Passed it.format it.bytes rest listed.list it.count listed.left listed.records
  pub unfinished : BeginsWithNone it.format rest
  pub short : length it.bytes ≤ MAX_STREAM_LENGTH
