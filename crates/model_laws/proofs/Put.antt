-- Where a new character goes among those that lie below a parent.
use Rattle.std.proofs.Common.{◌≡◌, true, false, cond, inl, inr, List, [], ◌∷◌, ◌++◌, Option, Some, None, ap, refl, sym, append-nil}
use Rattle.std.proofs.lemmas.Bool.{cases_Bool}
use Rattle.op_ids.specs.Id.{Id, is_below}
use Rattle.op_model.specs.declared.character.Character.{Character}
use Rattle.op_model.specs.Characters.{in_order}
use Rattle.op_model.specs.Walk.{below, is_parent}
use Rattle.op_model.specs.Placing.{past_greater}
use Rattle.model_laws.proofs.Ids.{below_chain, above_differs}

-- all of these have greater ids
abbrev pub AllAbove : Id → List Character → Type 0
AllAbove id [] = Unit {0}
AllAbove id (c ∷ cs) = (is_below id c.id ≡ true) × AllAbove id cs

-- the ids rise strictly
abbrev pub IsRising : List Character → Type 0
IsRising [] = Unit {0}
IsRising (c ∷ cs) = AllAbove c.id cs × IsRising cs

-- none of these is a child of this one
abbrev pub HasNoChild : Id → List Character → Type 0
HasNoChild id [] = Unit {0}
HasNoChild id (c ∷ cs) = (is_parent (Some id) c.origin ≡ false) × HasNoChild id cs

-- an origin, if there is one, has a smaller id
abbrev pub IsOriginBelow : Option Id → Id → Type 0
IsOriginBelow None id = Unit {0}
IsOriginBelow (Some origin) id = is_below origin id ≡ true

-- behind every character that is its origin, and past all greater ids that follow there
abbrev pub put : Option Id → Character → List Character → List Character
put origin n [] = []
put origin n (d ∷ ds) = d ∷ cond (is_parent (Some d.id) origin) (past_greater n (put origin n ds)) (put origin n ds)

-- the same among those that lie below a parent, which may be the origin itself
abbrev pub put_below : Option Id → Option Id → Character → List Character → List Character
put_below p origin n ds = cond (is_parent p origin) (past_greater n (put origin n ds)) (put origin n ds)

-- a character with a smaller id ends the search for the place
past_greater_ends : (n c : Character) (ds es : List Character) → is_below n.id c.id ≡ false
    → past_greater n (ds ++ c ∷ es) ≡ past_greater n ds ++ c ∷ es
past_greater_ends n c [] es f = rw f
past_greater_ends n c (d ∷ ds) es f =
    elim (cases_Bool (is_below n.id d.id)) [ inl e ↦ rw e (ap (λ x. d ∷ x) (past_greater_ends n c ds es f)) | inr e ↦ rw e refl ]

past_all : (n : Character) (ds : List Character) → AllAbove n.id ds → past_greater n ds ≡ ds ++ n ∷ []
past_all n [] h = refl
past_all n (d ∷ ds) h = let e : is_below n.id d.id ≡ true = h.0 in rw e (ap (λ x. d ∷ x) (past_all n ds h.1))

put_splits : (origin : Option Id) (n c : Character) (ds es : List Character) → is_below n.id c.id ≡ false
    → put origin n (ds ++ c ∷ es) ≡ put origin n ds ++ put origin n (c ∷ es)
put_splits origin n c [] es f = refl
put_splits origin n c (d ∷ ds) es f =
    elim (cases_Bool (is_parent (Some d.id) origin)) [
      | inl e ↦ rw (e, put_splits origin n c ds es f) (ap (λ x. d ∷ x) (past_greater_ends n c (put origin n ds) _ f))
      | inr e ↦ rw e (ap (λ x. d ∷ x) (put_splits origin n c ds es f))
    ]

put_below_splits : (p origin : Option Id) (n c : Character) (ds es : List Character) → is_below n.id c.id ≡ false
    → put_below p origin n (ds ++ c ∷ es) ≡ put_below p origin n ds ++ put origin n (c ∷ es)
put_below_splits p origin n c ds es f =
    elim (cases_Bool (is_parent p origin)) [
      | inl e ↦ rw (e, put_splits origin n c ds es f) (past_greater_ends n c (put origin n ds) _ f)
      | inr e ↦ rw e (put_splits origin n c ds es f)
    ]

pub AllAbove-append : (id : Id) (cs ds : List Character) → AllAbove id cs → AllAbove id ds → AllAbove id (cs ++ ds)
AllAbove-append id [] ds h k = k
AllAbove-append id (c ∷ cs) ds h k = (h.0, AllAbove-append id cs ds h.1 k)

-- what is above one is above all below it
pub AllAbove-chain : (low id : Id) (cs : List Character) → is_below low id ≡ true → AllAbove id cs → AllAbove low cs
AllAbove-chain low id [] e h = tt
AllAbove-chain low id (c ∷ cs) e h = (below_chain low id c.id e h.0, AllAbove-chain low id cs e h.1)

pub AllAbove-below : (id : Id) (p : Option Id) (cs : List Character) → AllAbove id cs → AllAbove id (below p cs)
AllAbove-below id p [] h = tt
AllAbove-below id p (c ∷ cs) h =
    AllAbove-append id (below p cs) _ (AllAbove-below id p cs h.1)
    (elim (cases_Bool (is_parent p c.origin)) [ inl e ↦ rw e (h.0, AllAbove-below id (Some c.id) cs h.1) | inr e ↦ rw e tt ])

-- a character without children has nothing below it
pub below_none : (id : Id) (cs : List Character) → HasNoChild id cs → below (Some id) cs ≡ []
below_none id [] h = refl
below_none id (c ∷ cs) h = let e : is_parent (Some id) c.origin ≡ false = h.0 in rw (e, below_none id cs h.1) refl

-- an origin below all of these is none of them
pub is_none_of : (origin : Option Id) (id d : Id) → IsOriginBelow origin id → is_below id d ≡ true
    → is_parent (Some d) origin ≡ false
is_none_of None id d h e = refl
is_none_of (Some o) id d h e = above_differs o d (below_chain o id d h e)

put_nothing : (origin : Option Id) (n : Character) (ds : List Character) → IsOriginBelow origin n.id
    → AllAbove n.id ds → put origin n ds ≡ ds
put_nothing origin n [] o h = refl
put_nothing origin n (d ∷ ds) o h =
    let e : is_parent (Some d.id) origin ≡ false = is_none_of origin n.id d.id o h.0 in
    rw e (ap (λ x. d ∷ x) (put_nothing origin n ds o h.1))

-- the new character has the least id: it goes behind all the others
put_least : (n : Character) (p : Option Id) (cs : List Character) → IsOriginBelow n.origin n.id → HasNoChild n.id cs
    → AllAbove n.id cs → below p (n ∷ cs) ≡ put_below p n.origin n (below p cs)
put_least n p cs o k h =
    rw (put_nothing n.origin n (below p cs) o (AllAbove-below n.id p cs h))
    (elim (cases_Bool (is_parent p n.origin)) [
      | inl e ↦ rw (e, below_none n.id cs k, past_all n (below p cs) (AllAbove-below n.id p cs h)) refl
      | inr e ↦ rw (e, append-nil) refl
    ])

-- what lies below a parent when one more character is among the inserts
pub below_placed : (n : Character) (cs : List Character) → IsOriginBelow n.origin n.id → IsRising cs
    → HasNoChild n.id cs → (p : Option Id) → below p (in_order n cs) ≡ put_below p n.origin n (below p cs)
below_placed n [] o h k p = put_least n p [] o tt tt
below_placed n (c ∷ cs) o h k p =
    elim (cases_Bool (is_below n.id c.id)) [
      | inl e ↦ rw e (put_least n p (c ∷ cs) o k (e, AllAbove-chain n.id c.id cs e h.0))
      | inr e ↦ rw (e, below_placed n cs o h.1 k.1 p)
          (elim (cases_Bool (is_parent p c.origin)) [
            | inl f ↦ rw (f, below_placed n cs o h.1 k.1 (Some c.id)) (sym (put_below_splits p n.origin n c (below p cs) (below (Some c.id) cs) e))
            | inr f ↦ rw (f, append-nil, append-nil) refl
          ])
    ]
