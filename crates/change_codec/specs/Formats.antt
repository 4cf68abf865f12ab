-- The formats of a stream of records, and which operations each has.
use Rattle.std.specs.Prelude.{◌≡◌, ℕ, Bool, true, false, if◌then◌else◌, List, [], ◌∷◌, None}
use Rattle.fixed_numbers.specs.declared.sizes.TheConstants.{MAX_RECORD, MAX_TOKEN_RECORD}
use Rattle.op_model.specs.declared.op.Op.{Op}
use Rattle.change_codec.specs.declared.format.Format.{Format}
use Rattle.change_codec.specs.declared.format.Format.TheVariants.{First, Second, Third}

-- the third format has operations with tokens
abbrev pub has_tokens : Format → Bool
has_tokens First = false
has_tokens Second = false
has_tokens Third = true

-- the most bytes of a record's body
abbrev pub longest : Format → ℕ
longest format = if has_tokens format then MAX_TOKEN_RECORD else MAX_RECORD

-- the format has the operation: each without a token, and each with one where it has tokens
abbrev pub IsOf : Format → Op → Type 0
IsOf format op = has_tokens format ≡ false → op.token ≡ None

-- it has each of these
abbrev pub AreOf : Format → List Op → Type 0
AreOf format [] = Unit {0}
AreOf format (op ∷ ops) = IsOf format op × AreOf format ops
