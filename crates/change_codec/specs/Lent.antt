-- What is read before any memory is taken.
use Rattle.std.specs.Prelude.{◌≡◌, ◌⊎◌, ℕ, ◌<◌, ◌≤◌, List, length, [], Result, Ok, Err, IsOk}
use Rattle.fixed_numbers.specs.declared.limits.TheConstants.{MAX_URL_LENGTH}
use Rattle.op_model.specs.declared.op.Op.{Op}
use Rattle.op_model.specs.declared.op.Body.{Body}
use Rattle.op_model.specs.declared.op.Body.TheVariants.{Insert, Remove, AddMark, RemoveMark}
use Rattle.op_model.specs.declared.mark.Mark.{Mark}
use Rattle.op_model.specs.declared.mark.Mark.TheVariants as added
use Rattle.change_codec.specs.declared.codec_error.CodecError.{CodecError}
use Rattle.change_codec.specs.declared.codec_error.CodecError.TheVariants.{Memory}
use Rattle.change_codec.specs.declared.mark.LentMark.{LentMark}
use Rattle.change_codec.specs.declared.mark.LentMark.TheVariants as lent
use Rattle.change_codec.specs.declared.content.LentBody.{LentBody}
use Rattle.change_codec.specs.declared.content.LentBody.TheVariants as body
use Rattle.change_codec.specs.Reading.{deps_at}

-- the mark with the same URL
abbrev pub mark_of : LentMark → Mark
mark_of lent.Strong = added.Strong
mark_of lent.Em = added.Em
mark_of (lent.Link text) = added.Link text.now
mark_of (lent.Comment id) = added.Comment id

-- the same content
abbrev pub body_of : LentBody → Body
body_of (body.Whole whole) = whole
body_of (body.AddMark mark start end) = AddMark (mark_of mark) start end

-- the URL of a link has 1 to 1,024 bytes
abbrev pub HasUrlOf : Mark → Type 0
HasUrlOf (added.Link url) = (0 < length url) × (length url ≤ MAX_URL_LENGTH)
HasUrlOf added.Strong = Unit {0}
HasUrlOf added.Em = Unit {0}
HasUrlOf (added.Comment id) = Unit {0}

-- the URL of a link that is added has 1 to 1,024 bytes
abbrev pub HasUrl : Body → Type 0
HasUrl (AddMark mark start end) = HasUrlOf mark
HasUrl (Insert origin value) = Unit {0}
HasUrl (Remove target) = Unit {0}
HasUrl (RemoveMark key start end) = Unit {0}

-- the mark has no URL
abbrev pub IsNoLink : Mark → Type 0
IsNoLink (added.Link url) = ⊥
IsNoLink added.Strong = Unit {0}
IsNoLink added.Em = Unit {0}
IsNoLink (added.Comment id) = Unit {0}

-- no link is added
abbrev pub AddsNoLink : Body → Type 0
AddsNoLink (AddMark mark start end) = IsNoLink mark
AddsNoLink (Insert origin value) = Unit {0}
AddsNoLink (Remove target) = Unit {0}
AddsNoLink (RemoveMark key start end) = Unit {0}

-- an operation that keeps nothing in memory of its own: it depends on nothing, and adds no link
pub record OwnsNothing (op : Op) : Type 0 where
  pub deps : op.deps ≡ []
  pub link : AddsNoLink op.body

-- the deps that were read, or none where there was a fault
abbrev pub found_deps : Result (List (ℕ × ℕ) × List ℕ) CodecError → List (ℕ × ℕ)
found_deps (Ok x) = x.0
found_deps (Err e) = []

-- the deps that the bytes begin with
unfoldable pub deps_of : List ℕ → List (ℕ × ℕ)
deps_of bytes = found_deps (deps_at bytes)

-- what a function returned is what is read; out of memory may stand in place of anything
abbrev pub Collects : {X Y : Type 0} → (X → Y) → Result X CodecError → Result Y CodecError → Type 0
Collects view (Ok x) read = read ≡ Ok (view x)
Collects view (Err e) read = (read ≡ Err e) ⊎ (e ≡ Memory)

-- what a function returned is what is read; out of memory may stand in place of a value
abbrev pub Gives : {X Y : Type 0} → (X → Y) → Result X CodecError → Result Y CodecError → Type 0
Gives view (Ok x) read = read ≡ Ok (view x)
Gives view (Err e) read = (read ≡ Err e) ⊎ ((e ≡ Memory) × IsOk read)
