-- What one more operation does to the walk of a document.
use Rattle.std.proofs.Common.{◌≡◌, ℕ, true, false, ◌&&◌, inl, inr, List, [], ◌∷◌, ◌++◌, Option, Some, None, All, arith, ap, refl, ◌∙◌, append_assoc, append-nil}
use Rattle.std.specs.Prelude.{◌==◌}
use Rattle.std.proofs.lemmas.Bool.{cases_Bool, or_parts, or_from, eqb-true}
use Rattle.op_ids.specs.Id.{Id, is_below, is_same}
use Rattle.op_model.specs.declared.op.Op.{Op}
use Rattle.op_model.specs.declared.op.Body.{Body}
use Rattle.op_model.specs.declared.op.Body.TheVariants.{Insert, Remove, AddMark, RemoveMark}
use Rattle.op_model.specs.declared.character.Character.{Character}
use Rattle.op_model.specs.Characters.{character_of, character_in, with_character, characters}
use Rattle.op_model.specs.Walk.{below, walk}
use Rattle.op_model.specs.Causality.{named_by}
use Rattle.op_model.specs.Placing.{has_id, has_op_id, placed, Fits, FitInTurn, IsOrderly}
use Rattle.model_laws.proofs.Count.{IsAmong}
use Rattle.model_laws.proofs.Grow.{in_order_swapped, has_id-in_order, AreSound, AreSound-in_order, walk_placed}

-- what an operation needs of the inserts: the characters that it names are there, with smaller ids
abbrev pub AreNamed : List Character → Id → Body → Type 0
AreNamed cs id b = All (λ name. (has_id cs name ≡ true) × (is_below name id ≡ true)) (named_by b)

origin_named : (cs : List Character) (id : Id) (origin : Option Id) (value : ℕ) → AreNamed cs id (Insert origin value)
    → IsAmong cs id origin
origin_named cs id None value h = tt
origin_named cs id (Some o) value h = h 0 o (omega arith)

sound_with : (cs : List Character) (id : Id) (b : Body) → has_id cs id ≡ false → AreNamed cs id b → AreSound cs
    → AreSound (with_character (character_of id b) cs)
sound_with cs id (Insert origin value) k h s =
    AreSound-in_order (record { id = id; origin = origin; value = value }) cs k (origin_named cs id origin value h) s
sound_with cs id (Remove target) k h s = s
sound_with cs id (AddMark mark start end) k h s = s
sound_with cs id (RemoveMark key start end) k h s = s

placed_with : (cs : List Character) (id : Id) (b : Body) → has_id cs id ≡ false → AreNamed cs id b → AreSound cs
    → below None (with_character (character_of id b) cs) ≡ placed (character_of id b) (below None cs)
placed_with cs id (Insert origin value) k h s =
    walk_placed (record { id = id; origin = origin; value = value }) cs k (origin_named cs id origin value h) s
placed_with cs id (Remove target) k h s = refl
placed_with cs id (AddMark mark start end) k h s = refl
placed_with cs id (RemoveMark key start end) k h s = refl

lacks_with : (xid id : Id) (b : Body) (cs : List Character) → is_same xid id ≡ false → has_id cs id ≡ false
    → has_id (with_character (character_of xid b) cs) id ≡ false
lacks_with xid id (Insert origin value) cs d e =
    has_id-in_order (record { id = xid; origin = origin; value = value }) cs id ∙ or_from (is_same xid id) (has_id cs id) d e
lacks_with xid id (Remove target) cs d e = e
lacks_with xid id (AddMark mark start end) cs d e = e
lacks_with xid id (RemoveMark key start end) cs d e = e

-- an id that no operation of the document has is not the id of one of its characters
pub lacks-characters : (ops : List Op) (doc : ℕ) (id : Id) → has_op_id ops doc id ≡ false
    → has_id (characters ops doc) id ≡ false
lacks-characters [] doc id e = refl
lacks-characters (x ∷ ops) doc id e =
    let p : ((x.doc == doc && is_same x.id id) ≡ false) × (has_op_id ops doc id ≡ false) = or_parts (x.doc == doc && is_same x.id id) (has_op_id ops doc id) e in
    elim (cases_Bool (x.doc == doc)) [
      | inl d ↦ rw d (lacks_with x.id id x.body (characters ops doc) (rw d at p.0) (lacks-characters ops doc id p.1))
      | inr d ↦ rw d (lacks-characters ops doc id p.1)
    ]

swapped_with : (a b : Id) (p q : Body) (cs : List Character) → is_same a b ≡ false
    → with_character (character_of a p) (with_character (character_of b q) cs) ≡ with_character (character_of b q) (with_character (character_of a p) cs)
swapped_with a b (Insert o v) (Insert u w) cs d =
    in_order_swapped (record { id = a; origin = o; value = v }) (record { id = b; origin = u; value = w }) cs d
swapped_with a b (Insert o v) (Remove target) cs d = refl
swapped_with a b (Insert o v) (AddMark mark start end) cs d = refl
swapped_with a b (Insert o v) (RemoveMark key start end) cs d = refl
swapped_with a b (Remove target) q cs d = refl
swapped_with a b (AddMark mark start end) q cs d = refl
swapped_with a b (RemoveMark key start end) q cs d = refl

-- two operations of different ids put their characters in either order
pub swapped_in : (doc : ℕ) (x y : Op) (cs : List Character) → is_same x.id y.id ≡ false
    → with_character (character_in doc x) (with_character (character_in doc y) cs) ≡ with_character (character_in doc y) (with_character (character_in doc x) cs)
swapped_in doc x y cs d =
    elim (cases_Bool (x.doc == doc)) [
      | inl e ↦ elim (cases_Bool (y.doc == doc)) [ inl f ↦ rw (e, f) (swapped_with x.id y.id x.body y.body cs d) | inr f ↦ rw f refl ]
      | inr e ↦ rw e refl
    ]

-- one more operation of a new id puts its character among the inserts
pub characters-push : (ops : List Op) (op : Op) (doc : ℕ) → op.doc ≡ doc → has_op_id ops doc op.id ≡ false
    → characters (ops ++ op ∷ []) doc ≡ with_character (character_in doc op) (characters ops doc)
characters-push [] op doc o e = refl
characters-push (x ∷ ops) op doc o e =
    let p : ((x.doc == doc && is_same x.id op.id) ≡ false) × (has_op_id ops doc op.id ≡ false) = or_parts (x.doc == doc && is_same x.id op.id) (has_op_id ops doc op.id) e in
    rw (characters-push ops op doc o p.1)
    (elim (cases_Bool (x.doc == doc)) [
      | inl d ↦ swapped_in doc x op (characters ops doc) (rw d at p.0)
      | inr d ↦ rw d refl
    ])

-- an operation of another document puts nothing there
pub characters-push_other : (ops : List Op) (op : Op) (doc : ℕ) → (op.doc == doc) ≡ false
    → characters (ops ++ op ∷ []) doc ≡ characters ops doc
characters-push_other [] op doc d = rw d refl
characters-push_other (x ∷ ops) op doc d = ap (λ cs. with_character (character_in doc x) cs) (characters-push_other ops op doc d)

sound_push : (ops : List Op) (op : Op) (doc : ℕ) → (op.doc ≡ doc → Fits ops doc op) → AreSound (characters ops doc)
    → AreSound (characters (ops ++ op ∷ []) doc)
sound_push ops op doc h s =
    elim (cases_Bool (op.doc == doc)) [
      | inl d ↦ let f : Fits ops doc op = h (eqb-true op.doc doc d) in
          rw (characters-push ops op doc f.same f.fresh, d)
          (sound_with (characters ops doc) op.id op.body (lacks-characters ops doc op.id f.fresh) f.names s)
      | inr d ↦ rw (characters-push_other ops op doc d) s
    ]

pub placed_push : (ops : List Op) (op : Op) (doc : ℕ) → (op.doc ≡ doc → Fits ops doc op)
    → AreSound (characters ops doc) → walk (ops ++ op ∷ []) doc ≡ placed (character_in doc op) (walk ops doc)
placed_push ops op doc h s =
    elim (cases_Bool (op.doc == doc)) [
      | inl d ↦ let f : Fits ops doc op = h (eqb-true op.doc doc d) in
          rw (characters-push ops op doc f.same f.fresh, d)
          (placed_with (characters ops doc) op.id op.body (lacks-characters ops doc op.id f.fresh) f.names s)
      | inr d ↦ rw (characters-push_other ops op doc d, d) refl
    ]

sound_in_turn : (before ops : List Op) (doc : ℕ) → AreSound (characters before doc) → FitInTurn before doc ops
    → AreSound (characters (before ++ ops) doc)
sound_in_turn before [] doc s h = rw append-nil s
sound_in_turn before (op ∷ ops) doc s h =
    rw append_assoc at (sound_in_turn (before ++ op ∷ []) ops doc (sound_push before op doc h.0 s) h.1)

-- the inserts of an orderly list are as they should be
pub orderly_sound : (ops : List Op) (doc : ℕ) → IsOrderly ops doc → AreSound (characters ops doc)
orderly_sound ops doc h = sound_in_turn [] ops doc (record { rising = tt; grounded = tt }) h

pub orderly_placed : (ops : List Op) (doc : ℕ) (op : Op) → IsOrderly ops doc → (op.doc ≡ doc → Fits ops doc op)
    → walk (ops ++ op ∷ []) doc ≡ placed (character_in doc op) (walk ops doc)
orderly_placed ops doc op h f = placed_push ops op doc f (orderly_sound ops doc h)
