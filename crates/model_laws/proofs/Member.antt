-- Being among characters: as a value, by id, and how often.
use Rattle.std.proofs.Common.{◌≡◌, ◌≤◌, true, ◌⊎◌, inl, inr, List, [], ◌∷◌, ◌++◌, Option, Some, arith, ap, refl, ◌∙◌, sym}
use Rattle.std.proofs.lemmas.Bool.{cases_Bool, false≢true}
use Rattle.op_ids.specs.Id.{Id, is_same}
use Rattle.op_model.specs.declared.character.Character.{Character}
use Rattle.op_model.specs.Walk.{below, is_parent, times}
use Rattle.op_model.specs.Placing.{has_id}
use Rattle.model_laws.specs.IsWalk.{HasCharacter}
use Rattle.model_laws.proofs.Ids.{same_equal, equal_same}

pub HasCharacter-cases : (cs ds : List Character) (c : Character) → HasCharacter (cs ++ ds) c
    → HasCharacter cs c ⊎ HasCharacter ds c
HasCharacter-cases [] ds c h = inr h
HasCharacter-cases (x ∷ cs) ds c (inl e) = inl (inl e)
HasCharacter-cases (x ∷ cs) ds c (inr h) = elim (HasCharacter-cases cs ds c h) [ inl k ↦ inl (inr k) | inr k ↦ inr k ]

pub has_counted : (cs : List Character) (c : Character) → HasCharacter cs c → 1 ≤ times c.id cs
has_counted [] c h = absurd h
has_counted (x ∷ cs) c (inl e) = let f : is_same x.id c.id ≡ true = equal_same x.id c.id (ap (λ y. y.id) e) in rw f (omega arith)
has_counted (x ∷ cs) c (inr h) = omega (arith, has_counted cs c h)

pub present_counted : (cs : List Character) (id : Id) → has_id cs id ≡ true → 1 ≤ times id cs
present_counted [] id e = absurd (false≢true e)
present_counted (x ∷ cs) id e =
    elim (cases_Bool (is_same x.id id)) [
      | inl f ↦ rw f (omega arith)
      | inr f ↦ omega (arith, present_counted cs id (rw f at e))
    ]

pub counted_found : (cs : List Character) (id : Id) → 1 ≤ times id cs
    → (c : Character) × HasCharacter cs c × (c.id ≡ id)
counted_found [] id h = absurd (omega arith)
counted_found (x ∷ cs) id h =
    elim (cases_Bool (is_same x.id id)) [
      | inl f ↦ (x, inl refl, same_equal x.id id f)
      | inr f ↦ let (c, k, e) = counted_found cs id (omega (arith, rw f at h)) in (c, inr k, e)
    ]

-- where an id stands once there is one character of it
pub one_of_id : (cs : List Character) (c d : Character) → times d.id cs ≤ 1 → HasCharacter cs c → HasCharacter cs d
    → c.id ≡ d.id → c ≡ d
one_of_id [] c d t h k e = absurd h
one_of_id (x ∷ cs) c d t (inl f) (inl g) e = sym f ∙ g
one_of_id (x ∷ cs) c d t (inl f) (inr k) e =
    let s : is_same x.id d.id ≡ true = equal_same x.id d.id (ap (λ y. y.id) f ∙ e) in
    absurd (omega (arith, has_counted cs d k, rw s at t))
one_of_id (x ∷ cs) c d t (inr h) (inl g) e =
    let s : is_same x.id d.id ≡ true = equal_same x.id d.id (ap (λ y. y.id) g) in
    let p : 1 ≤ times d.id cs = rw (← e) (has_counted cs c h) in
    absurd (omega (arith, p, rw s at t))
one_of_id (x ∷ cs) c d t (inr h) (inr k) e = one_of_id cs c d (omega arith) h k e

pub has_split : (cs : List Character) (c : Character) → HasCharacter cs c
    → (front : List Character) × (rest : List Character) × (cs ≡ front ++ c ∷ rest)
has_split [] c h = absurd h
has_split (x ∷ cs) c (inl e) = ([], cs, ap (λ y. y ∷ cs) e)
has_split (x ∷ cs) c (inr h) = let (front, rest, e) = has_split cs c h in (x ∷ front, rest, ap (λ ys. x ∷ ys) e)

pub HasCharacter-last : (front rest : List Character) (c : Character) → HasCharacter (front ++ c ∷ rest) c
HasCharacter-last [] rest c = inl refl
HasCharacter-last (x ∷ front) rest c = inr (HasCharacter-last front rest c)

pub has_below : (p : Option Id) (cs : List Character) (c : Character) → HasCharacter (below p cs) c
    → HasCharacter cs c
has_below p [] c h = h
has_below p (x ∷ cs) c h =
    elim (HasCharacter-cases (below p cs) _ c h) [
      | inl k ↦ inr (has_below p cs c k)
      | inr k ↦ elim (cases_Bool (is_parent p x.origin)) [
        | inl e ↦ elim (rw e at k) [ inl f ↦ inl f | inr m ↦ inr (has_below (Some x.id) cs c m) ]
        | inr e ↦ absurd (rw e at k)
      ]
    ]
