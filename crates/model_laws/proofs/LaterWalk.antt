-- What later operations leave of the walk: the characters that were there, in their order.
use Rattle.std.proofs.Common.{◌≡◌, ℕ, ◌<◌, Bool, true, false, ◌||◌, inl, inr, List, [], ◌∷◌, ◌++◌, filter, Option, Some, None, arith, ap, refl, ◌∙◌, sym}
use Rattle.std.proofs.Common.{append_assoc, append-nil}
use Rattle.std.specs.Prelude.{◌==◌, ◌&&◌}
use Rattle.std.proofs.lemmas.Bool.{cases_Bool, or_parts, or_from, or_cases, or_left, or_right, eqb-true, both_ways}
use Rattle.std.proofs.lemmas.List.Folds.{list_any-append}
use Rattle.op_ids.specs.Id.{Id, is_below, is_same}
use Rattle.op_model.specs.declared.op.Op.{Op}
use Rattle.op_model.specs.declared.op.Body.{Body}
use Rattle.op_model.specs.declared.op.Body.TheVariants.{Insert, Remove, AddMark, RemoveMark}
use Rattle.op_model.specs.declared.character.Character.{Character}
use Rattle.op_model.specs.Characters.{character_of, characters}
use Rattle.op_model.specs.Walk.{walk, below, is_parent}
use Rattle.op_model.specs.Places.{index_of}
use Rattle.op_model.specs.Placing.{has_id, has_op_id, past_greater, behind, behind_origin, placed, Fits, FitInTurn, IsOrderly}
use Rattle.model_laws.proofs.Ids.{same_itself, same_equal}
use Rattle.model_laws.proofs.Ops.{lacks-characters, orderly_placed}
use Rattle.model_laws.proofs.Growth.{orderly_front, orderly_push}

-- the characters with these ids
abbrev pub with_ids : (Id → Bool) → List Character → List Character
with_ids here cs = filter (λ c. here c.id) cs

past_greater_left_out : (here : Id → Bool) (c : Character) (ds : List Character) → here c.id ≡ false
    → with_ids here (past_greater c ds) ≡ with_ids here ds
past_greater_left_out here c [] e = rw e refl
past_greater_left_out here c (d ∷ ds) e =
    elim (cases_Bool (is_below c.id d.id)) [
      | inl f ↦ elim (cases_Bool (here d.id)) [
        | inl g ↦ rw (f, g) (ap (λ xs. d ∷ xs) (past_greater_left_out here c ds e))
        | inr g ↦ rw (f, g) (past_greater_left_out here c ds e)
      ]
      | inr f ↦ rw (f, e) refl
    ]

behind_left_out : (here : Id → Bool) (origin : Id) (c : Character) (ds : List Character) → here c.id ≡ false
    → with_ids here (behind origin c ds) ≡ with_ids here ds
behind_left_out here origin c [] e = refl
behind_left_out here origin c (d ∷ ds) e =
    elim (cases_Bool (is_same d.id origin)) [
      | inl f ↦ elim (cases_Bool (here d.id)) [
        | inl g ↦ rw (f, g) (ap (λ xs. d ∷ xs) (past_greater_left_out here c ds e))
        | inr g ↦ rw (f, g) (past_greater_left_out here c ds e)
      ]
      | inr f ↦ elim (cases_Bool (here d.id)) [
        | inl g ↦ rw (f, g) (ap (λ xs. d ∷ xs) (behind_left_out here origin c ds e))
        | inr g ↦ rw (f, g) (behind_left_out here origin c ds e)
      ]
    ]

behind_origin_left_out : (here : Id → Bool) (origin : Option Id) (c : Character) (ds : List Character) → here c.id ≡ false
    → with_ids here (behind_origin origin c ds) ≡ with_ids here ds
behind_origin_left_out here None c ds e = past_greater_left_out here c ds e
behind_origin_left_out here (Some origin) c ds e = behind_left_out here origin c ds e

-- what an operation puts among the characters is left out where its id is
placed_left_out : (here : Id → Bool) (id : Id) (b : Body) (ds : List Character) → here id ≡ false
    → with_ids here (placed (character_of id b) ds) ≡ with_ids here ds
placed_left_out here id (Insert origin value) ds e = behind_origin_left_out here origin (record { id = id; origin = origin; value = value }) ds e
placed_left_out here id (Remove target) ds e = refl
placed_left_out here id (AddMark mark start end) ds e = refl
placed_left_out here id (RemoveMark key start end) ds e = refl

-- these ids are ids of operations of the document
abbrev AreOfOps : (Id → Bool) → List Op → ℕ → Type 0
AreOfOps here ops doc = (id : Id) → has_op_id ops doc id ≡ false → here id ≡ false

of_ops_push : (here : Id → Bool) (ops : List Op) (doc : ℕ) (op : Op) → AreOfOps here ops doc
    → AreOfOps here (ops ++ op ∷ []) doc
of_ops_push here ops doc op h id e =
    h id (or_parts (has_op_id ops doc id) (has_op_id (op ∷ []) doc id) (sym (list_any-append (λ o. o.doc == doc && is_same o.id id) ops (op ∷ [])) ∙ e)).0

left_out_push : (here : Id → Bool) (ops : List Op) (doc : ℕ) (op : Op) → IsOrderly ops doc → (op.doc ≡ doc → Fits ops doc op)
    → AreOfOps here ops doc → with_ids here (walk (ops ++ op ∷ []) doc) ≡ with_ids here (walk ops doc)
left_out_push here ops doc op h f k =
    ap (λ cs. with_ids here cs) (orderly_placed ops doc op h f)
    ∙ elim (cases_Bool (op.doc == doc)) [
      | inl d ↦ rw d (placed_left_out here op.id op.body (walk ops doc) (k op.id (f (eqb-true op.doc doc d)).fresh))
      | inr d ↦ rw d refl
    ]

left_out_in_turn : (here : Id → Bool) (ops more : List Op) (doc : ℕ) → IsOrderly ops doc → FitInTurn ops doc more
    → AreOfOps here ops doc → with_ids here (walk (ops ++ more) doc) ≡ with_ids here (walk ops doc)
left_out_in_turn here ops [] doc h f k = ap (λ xs. with_ids here (walk xs doc)) (append-nil ops)
left_out_in_turn here ops (op ∷ more) doc h f k =
    ap (λ xs. with_ids here (walk xs doc)) (sym (append_assoc ops (op ∷ []) more))
    ∙ left_out_in_turn here (ops ++ op ∷ []) more doc (orderly_push ops doc op h f.0) f.1 (of_ops_push here ops doc op k)
    ∙ left_out_push here ops doc op h f.0 k

fit_rest : (before ops more : List Op) (doc : ℕ) → FitInTurn before doc (ops ++ more) → FitInTurn (before ++ ops) doc more
fit_rest before [] more doc h = rw append-nil h
fit_rest before (op ∷ ops) more doc h = rw append_assoc at (fit_rest (before ++ op ∷ []) ops more doc h.1)

-- the operations after a front of an orderly list fit in turn
pub orderly_rest : (ops more : List Op) (doc : ℕ) → IsOrderly (ops ++ more) doc → FitInTurn ops doc more
orderly_rest ops more doc h = fit_rest [] ops more doc h

has_id-append : (cs ds : List Character) (id : Id) → has_id (cs ++ ds) id ≡ (has_id cs id || has_id ds id)
has_id-append cs ds id = list_any-append (λ c. is_same c.id id) cs ds

-- what lies below a parent is among all of them
pub lacks-below : (p : Option Id) (cs : List Character) (id : Id) → has_id cs id ≡ false → has_id (below p cs) id ≡ false
lacks-below p [] id e = refl
lacks-below p (c ∷ cs) id e =
    let (f, g) = or_parts (is_same c.id id) (has_id cs id) e in
    has_id-append (below p cs) _ id
    ∙ or_from (has_id (below p cs) id) _ (lacks-below p cs id g)
    (elim (cases_Bool (is_parent p c.origin)) [
      | inl k ↦ rw k (or_from (is_same c.id id) (has_id (below (Some c.id) cs) id) f (lacks-below (Some c.id) cs id g))
      | inr k ↦ rw k refl
    ])

-- an id that no operation of the document has is not in its walk
pub lacks-walk : (ops : List Op) (doc : ℕ) (id : Id) → has_op_id ops doc id ≡ false → has_id (walk ops doc) id ≡ false
lacks-walk ops doc id e = lacks-below None (characters ops doc) id (lacks-characters ops doc id e)

-- each of these has one of these ids
abbrev pub AreHere : (Id → Bool) → List Character → Type 0
AreHere here [] = Unit {0}
AreHere here (c ∷ cs) = (here c.id ≡ true) × AreHere here cs

all_with_ids : (here : Id → Bool) (cs : List Character) → AreHere here cs → with_ids here cs ≡ cs
all_with_ids here [] h = refl
all_with_ids here (c ∷ cs) h = let e : here c.id ≡ true = h.0 in rw e (ap (λ xs. c ∷ xs) (all_with_ids here cs h.1))

here_more : (c : Character) (all cs : List Character) → AreHere (λ id. has_id all id) cs → AreHere (λ id. has_id (c ∷ all) id) cs
here_more c all [] h = tt
here_more c all (d ∷ cs) h = (or_right (is_same c.id d.id) (has_id all d.id) h.0, here_more c all cs h.1)

pub here_itself : (cs : List Character) → AreHere (λ id. has_id cs id) cs
here_itself [] = tt
here_itself (c ∷ cs) = (or_left (is_same c.id c.id) (has_id cs c.id) (same_itself c.id), here_more c cs cs (here_itself cs))

-- the walk before is the walk of now without the characters that came since
pub walk_later : (before more : List Op) (doc : ℕ) → IsOrderly (before ++ more) doc
    → walk before doc ≡ filter (λ c. has_id (walk before doc) c.id) (walk (before ++ more) doc)
walk_later before more doc h =
    sym (left_out_in_turn (λ id. has_id (walk before doc) id) before more doc (orderly_front before more doc h) (orderly_rest before more doc h) (λ id e. lacks-walk before doc id e)
    ∙ all_with_ids (λ id. has_id (walk before doc) id) (walk before doc) (here_itself (walk before doc)))

-- what is in a part of a list is in the list
pub has_id-filtered : (p : Character → Bool) (cs : List Character) (id : Id) → has_id (filter p cs) id ≡ true → has_id cs id ≡ true
has_id-filtered p [] id e = e
has_id-filtered p (c ∷ cs) id e =
    elim (cases_Bool (p c)) [
      | inl f ↦ elim (or_cases (is_same c.id id) (has_id (filter p cs) id) (rw f at e)) [
        | inl g ↦ or_left (is_same c.id id) (has_id cs id) g
        | inr g ↦ or_right (is_same c.id id) (has_id cs id) (has_id-filtered p cs id g)
      ]
      | inr f ↦ or_right (is_same c.id id) (has_id cs id) (has_id-filtered p cs id (rw f at e))
    ]

-- each id of the old walk is in the new one
pub still_there : (before more : List Op) (doc : ℕ) (id : Id) → IsOrderly (before ++ more) doc
    → has_id (walk before doc) id ≡ true → has_id (walk (before ++ more) doc) id ≡ true
still_there before more doc id h e =
    has_id-filtered (λ c. has_id (walk before doc) c.id) (walk (before ++ more) doc) id
    (sym (ap (λ cs. has_id cs id) (walk_later before more doc h)) ∙ e)

-- of two ids that are kept, the one that stands first among the kept stands first among all
first_kept : (here : Id → Bool) (a b : Id) (cs : List Character) → here a ≡ true → here b ≡ true
    → index_of a (with_ids here cs) < index_of b (with_ids here cs) → index_of a cs < index_of b cs
first_kept here a b [] h k l = l
first_kept here a b (c ∷ cs) h k l =
    elim (cases_Bool (here c.id)) [
      | inl e ↦ elim (cases_Bool (is_same c.id b)) [
        | inl g ↦ absurd (omega (arith, rw (e, g) at l))
        | inr g ↦ elim (cases_Bool (is_same c.id a)) [
          | inl f ↦ rw (f, g) (omega arith)
          | inr f ↦ rw (f, g) (omega (arith, first_kept here a b cs h k (omega (arith, rw (e, f, g) at l))))
        ]
      ]
      | inr e ↦
          let f : is_same c.id a ≡ false = differs c.id a e h in
          let g : is_same c.id b ≡ false = differs c.id b e k in
          rw (f, g) (omega (arith, first_kept here a b cs h k (rw e at l)))
    ]
  where
    differs : (x y : Id) → here x ≡ false → here y ≡ true → is_same x y ≡ false
    differs x y e h = elim (cases_Bool (is_same x y)) [ inl f ↦ absurd (both_ways (here x) e (ap here (same_equal x y f) ∙ h)) | inr f ↦ f ]

-- two characters of the old walk stand in the same order in the new one
pub order_kept : (before more : List Op) (doc : ℕ) (a b : Id) → IsOrderly (before ++ more) doc
    → has_id (walk before doc) a ≡ true → has_id (walk before doc) b ≡ true
    → index_of a (walk before doc) < index_of b (walk before doc)
    → index_of a (walk (before ++ more) doc) < index_of b (walk (before ++ more) doc)
order_kept before more doc a b h p q l =
    first_kept (λ id. has_id (walk before doc) id) a b (walk (before ++ more) doc) p q
    (rw (ap (λ cs. index_of a cs) (walk_later before more doc h), ap (λ cs. index_of b cs) (walk_later before more doc h)) at l)
