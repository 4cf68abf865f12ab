-- Which pieces each format of a stream has.
use Rattle.std.specs.Prelude.{◌≡◌, ℕ, Bool, true, false, ◌&&◌, ◌==◌, if◌then◌else◌, [], Option, Some, None}
use Rattle.op_pieces.specs.Pieces.{Run}
use Rattle.change_codec.specs.declared.format.Format.{Format}
use Rattle.change_codec.specs.declared.format.Format.TheVariants.{First, Second, Third}
use Rattle.change_codec.specs.Formats.{has_tokens, IsOf}

-- the second and the third format have runs
abbrev pub has_runs : Format → Bool
has_runs First = false
has_runs Second = true
has_runs Third = true

-- the format has the piece: each of one operation that it has, and each run where it has runs
pub record IsPieceOf (format : Format) (p : Run) : Type 0 where
  pub runs : has_runs format ≡ false → p.others ≡ []
  pub tokens : IsOf format p.first

-- the kind is a run's in the format, and then whether it has a token
unfoldable pub run_named : Format → ℕ → Option Bool
run_named format kind =
    if kind == 5 && has_runs format then Some false
    else if kind == 21 && has_tokens format then Some true
    else None
