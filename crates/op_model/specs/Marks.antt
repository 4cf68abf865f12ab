-- Mark operations, and which of them decide.
use Rattle.std.specs.Prelude.{ℕ, ◌==◌, Bool, true, false, if◌then◌else◌, List, [], ◌∷◌, filter, filter_map, Option, Some, None}
use Rattle.op_ids.specs.Id.{Id, is_below}
use Rattle.op_model.specs.declared.marking.Marking.{Marking}
use Rattle.op_model.specs.declared.op.Op.{Op}
use Rattle.op_model.specs.declared.op.Body.{Body}
use Rattle.op_model.specs.declared.op.Body.TheVariants.{Insert, Remove, AddMark, RemoveMark}
use Rattle.op_model.specs.declared.mark.Mark.{Mark}
use Rattle.op_model.specs.declared.mark.Mark.TheVariants as added
use Rattle.op_model.specs.declared.mark.MarkKey.{MarkKey}
use Rattle.op_model.specs.declared.mark.MarkKey.TheVariants as key

-- which decision a mark is about
abbrev pub key_of : Mark → MarkKey
key_of added.Strong = key.Strong
key_of added.Em = key.Em
key_of (added.Link url) = key.Link
key_of (added.Comment id) = key.Comment id

-- both are about one decision
abbrev pub is_key : MarkKey → MarkKey → Bool
is_key key.Strong key.Strong = true
is_key key.Em key.Em = true
is_key key.Link key.Link = true
is_key (key.Comment a) (key.Comment b) = a == b
is_key _ _ = false

-- the mark operation that a body makes
abbrev pub marking_of : Id → Body → Option Marking
marking_of id (AddMark mark start end) =
    Some (record { id = id; key = key_of mark; mark = Some mark; start = start; end = end })
marking_of id (RemoveMark key start end) = Some (record { id = id; key = key; mark = None; start = start; end = end })
marking_of id (Insert origin value) = None
marking_of id (Remove target) = None

-- the mark operations of a document
abbrev pub markings : List Op → ℕ → List Marking
markings ops doc = filter_map (λ op. marking_of op.id op.body) (filter (λ op. op.doc == doc) ops)

-- the one with the greater id
abbrev pub greater : Marking → Option Marking → Marking
greater m None = m
greater m (Some n) = if is_below m.id n.id then n else m

-- the one with the greatest id
abbrev pub greatest : List Marking → Option Marking
greatest [] = None
greatest (m ∷ ms) = Some (greater m (greatest ms))
