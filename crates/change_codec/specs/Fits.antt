-- Which values have a spelling: those of the types of operations.
use Rattle.std.specs.Prelude.{◌≡◌, ℕ, ◌<◌, ◌≤◌, ◌^◌, true, List, [], ◌∷◌, length, Option, Some, None}
use Rattle.std.specs.Char.{IsScalar}
use Rattle.std.specs.Str.{IsUtf8}
use Rattle.fixed_numbers.specs.declared.limits.TheConstants.{MAX_COUNTER, MAX_URL_LENGTH}
use Rattle.op_ids.specs.Id.{Id}
use Rattle.op_ids.specs.Clock.{is_clock}
use Rattle.op_model.specs.declared.op.Op.{Op}
use Rattle.op_model.specs.declared.op.Body.{Body}
use Rattle.op_model.specs.declared.op.Body.TheVariants.{Insert, Remove, AddMark, RemoveMark}
use Rattle.op_model.specs.declared.anchor.Anchor.{Anchor}
use Rattle.op_model.specs.declared.anchor.Anchor.TheVariants.{Before, After}
use Rattle.op_model.specs.declared.anchor.Start.{Start}
use Rattle.op_model.specs.declared.anchor.Start.TheVariants as start
use Rattle.op_model.specs.declared.anchor.End.{End}
use Rattle.op_model.specs.declared.anchor.End.TheVariants as end
use Rattle.op_model.specs.declared.mark.Mark.{Mark}
use Rattle.op_model.specs.declared.mark.Mark.TheVariants as added
use Rattle.op_model.specs.declared.mark.MarkKey.{MarkKey}
use Rattle.op_model.specs.declared.mark.MarkKey.TheVariants as key

-- a counter from 1 to 2^48 - 1, and a replica that isn't nil
pub record IsId (id : Id) : Type 0 where
  pub above_zero : 0 < id.counter
  pub in_range : id.counter ≤ MAX_COUNTER
  pub not_nil : 0 < id.replica
  pub sixteen : id.replica < 2 ^ 128

-- no origin, or an id
abbrev pub IsOrigin : Option Id → Type 0
IsOrigin None = Unit {0}
IsOrigin (Some id) = IsId id

-- 1 to 1,024 bytes of UTF-8
pub record IsUrl (text : List ℕ) : Type 0 where
  pub some : 0 < length text
  pub most : length text ≤ MAX_URL_LENGTH
  pub utf8 : IsUtf8 text

-- a link has a URL, and a comment a name of sixteen bytes
abbrev pub IsMark : Mark → Type 0
IsMark added.Strong = Unit {0}
IsMark added.Em = Unit {0}
IsMark (added.Link url) = IsUrl url
IsMark (added.Comment id) = id < 2 ^ 128

-- a comment has a name of sixteen bytes
abbrev pub IsKey : MarkKey → Type 0
IsKey key.Strong = Unit {0}
IsKey key.Em = Unit {0}
IsKey key.Link = Unit {0}
IsKey (key.Comment id) = id < 2 ^ 128

-- an anchor stands beside an id
abbrev pub IsAnchor : Anchor → Type 0
IsAnchor (Before id) = IsId id
IsAnchor (After id) = IsId id

-- the start of the text, or an anchor
abbrev pub IsStart : Start → Type 0
IsStart start.OfText = Unit {0}
IsStart (start.From anchor) = IsAnchor anchor

-- an anchor, or the end of the text
abbrev pub IsEnd : End → Type 0
IsEnd (end.To anchor) = IsAnchor anchor
IsEnd end.OfText = Unit {0}

-- each part of what an operation does is one
abbrev pub IsContent : Body → Type 0
IsContent (Insert origin value) = IsOrigin origin × IsScalar value
IsContent (Remove target) = IsId target
IsContent (AddMark mark from to) = IsMark mark × IsStart from × IsEnd to
IsContent (RemoveMark mark from to) = IsKey mark × IsStart from × IsEnd to

-- each replica has sixteen bytes
abbrev pub HaveSixteen : List (ℕ × ℕ) → Type 0
HaveSixteen [] = Unit {0}
HaveSixteen (e ∷ es) = (e.0 < 2 ^ 128) × HaveSixteen es

-- no token, or one that isn't nil, of sixteen bytes
abbrev pub IsToken : Option ℕ → Type 0
IsToken None = Unit {0}
IsToken (Some token) = (0 < token) × (token < 2 ^ 128)

-- an operation: each of its fields keeps its rule
pub record IsOperation (op : Op) : Type 0 where
  pub id : IsId op.id
  pub doc : op.doc < 2 ^ 32
  pub token : IsToken op.token
  pub deps : is_clock op.deps ≡ true
  pub replicas : HaveSixteen op.deps
  pub body : IsContent op.body
