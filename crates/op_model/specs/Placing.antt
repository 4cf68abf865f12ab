-- Where a character goes in the text of a document, and what an operation needs of the document.
use Rattle.std.specs.Prelude.{◌≡◌, ℕ, ◌==◌, Bool, true, false, ◌&&◌, if◌then◌else◌, List, [], ◌∷◌, ◌++◌, All, Option, Some, None}
use Rattle.std.specs.List.{list_any}
use Rattle.op_ids.specs.Id.{Id, is_below, is_same}
use Rattle.op_model.specs.declared.op.Op.{Op}
use Rattle.op_model.specs.declared.character.Character.{Character}
use Rattle.op_model.specs.Characters.{characters}
use Rattle.op_model.specs.Causality.{named_by}

-- before the first of these that has no greater id
abbrev pub past_greater : Character → List Character → List Character
past_greater c [] = c ∷ []
past_greater c (d ∷ ds) = if is_below c.id d.id then d ∷ past_greater c ds else c ∷ d ∷ ds

-- behind the character of this id, and past all greater ids that follow
abbrev pub behind : Id → Character → List Character → List Character
behind origin c [] = []
behind origin c (d ∷ ds) = if is_same d.id origin then d ∷ past_greater c ds else d ∷ behind origin c ds

-- behind its origin, and past all greater ids that follow
abbrev pub behind_origin : Option Id → Character → List Character → List Character
behind_origin None c ds = past_greater c ds
behind_origin (Some origin) c ds = behind origin c ds

-- the order that an operation leaves
abbrev pub placed : Option Character → List Character → List Character
placed None ds = ds
placed (Some c) ds = behind_origin c.origin c ds

-- an id is the id of one of these
abbrev pub has_id : List Character → Id → Bool
has_id cs id = list_any (λ c. is_same c.id id) cs

-- an id is the id of an operation of the document
abbrev pub has_op_id : List Op → ℕ → Id → Bool
has_op_id ops doc id = list_any (λ op. op.doc == doc && is_same op.id id) ops

-- the document can take an operation of its own: all characters that it names are there, with smaller ids, and its id is new
pub record Fits (ops : List Op) (doc : ℕ) (op : Op) : Type 0 where
  pub same : op.doc ≡ doc
  pub names : All (λ id. (has_id (characters ops doc) id ≡ true) × (is_below id op.id ≡ true)) (named_by op.body)
  pub fresh : has_op_id ops doc op.id ≡ false

-- each operation of the document fits after those before it
abbrev pub FitInTurn : List Op → ℕ → List Op → Type 0
FitInTurn before doc [] = Unit {0}
FitInTurn before doc (op ∷ ops) = (op.doc ≡ doc → Fits before doc op) × FitInTurn (before ++ op ∷ []) doc ops

-- the operations of the document can be applied one after another
abbrev pub IsOrderly : List Op → ℕ → Type 0
IsOrderly ops doc = FitInTurn [] doc ops
