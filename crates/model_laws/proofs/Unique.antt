-- There is one walk of the inserts of a document.
use Rattle.std.proofs.Common.{◌≡◌, ◌≤◌, true, false, cond, ◌⊎◌, inl, inr, List, [], ◌∷◌, ◌++◌}
use Rattle.std.proofs.Common.{Option, Some, None, arith, ap, refl, ◌∙◌, sym, append_assoc}
use Rattle.std.proofs.Common.{append-nil}
use Rattle.std.proofs.lemmas.Bool.{cases_Bool, or_cases, false≢true, both_ways}
use Rattle.op_ids.specs.Id.{Id, is_same, is_below}
use Rattle.op_model.specs.declared.character.Character.{Character}
use Rattle.op_model.specs.Walk.{times}
use Rattle.op_model.specs.Placing.{has_id}
use Rattle.model_laws.specs.IsWalk.{HasCharacter, IsOneOf, AreDescendants, IsWalk}
use Rattle.model_laws.proofs.Ids.{same_equal, same_swapped, below_turned}
use Rattle.model_laws.proofs.Count.{times-append}
use Rattle.model_laws.proofs.Member.{HasCharacter-cases, has_counted, present_counted, has_split, HasCharacter-last}

-- what stands behind the first character of an id
abbrev after : Id → List Character → List Character
after id [] = []
after id (c ∷ cs) = cond (is_same c.id id) cs (after id cs)

-- a list cut at the first character of an id
record IsCut (cs : List Character) (id : Id) (front : List Character) (c : Character) : Type 0 where
  whole : cs ≡ front ++ c ∷ after id cs
  here : c.id ≡ id

cut : (cs : List Character) (id : Id) → has_id cs id ≡ true
    → (front : List Character) × (c : Character) × IsCut cs id front c
cut [] id e = absurd (false≢true e)
cut (x ∷ cs) id e =
    elim (cases_Bool (is_same x.id id)) [
      | inl f ↦ ([], x, record { whole = rw f refl; here = same_equal x.id id f })
      | inr f ↦ let (front, c, k) = cut cs id (rw f at e) in
          (x ∷ front, c, record { whole = rw f (ap (λ ys. x ∷ ys) k.whole); here = k.here })
    ]

behind_counted : (cs : List Character) (id other : Id) → has_id (after id cs) other ≡ true → 1 ≤ times other cs
behind_counted [] id other e = absurd (false≢true e)
behind_counted (x ∷ cs) id other e =
    elim (cases_Bool (is_same x.id id)) [
      | inl f ↦ omega (arith, present_counted cs other (rw f at e))
      | inr f ↦ omega (arith, behind_counted cs id other (rw f at e))
    ]

-- of two ids that stand once each, not both stand behind the other
not_behind_both : (cs : List Character) (a b : Id) → is_same a b ≡ false → times a cs ≤ 1 → times b cs ≤ 1
    → has_id (after a cs) b ≡ true → has_id (after b cs) a ≡ true → ⊥
not_behind_both [] a b d s t e f = false≢true e
not_behind_both (x ∷ cs) a b d s t e f =
    elim (cases_Bool (is_same x.id a)) [
      | inl g ↦ let k : is_same x.id b ≡ false = rw (same_equal x.id a g) d in
          omega (arith, behind_counted cs b a (rw k at f), rw g at s)
      | inr g ↦ elim (cases_Bool (is_same x.id b)) [
        | inl k ↦ omega (arith, behind_counted cs a b (rw g at e), rw k at t)
        | inr k ↦ not_behind_both cs a b d (omega (arith, rw g at s)) (omega (arith, rw k at t)) (rw g at e) (rw k at f)
      ]
    ]

descends_at : (first front rest : List Character) (c : Character) → AreDescendants first (front ++ c ∷ rest)
    → IsOneOf (first ++ front) c.origin
descends_at first [] rest c h = rw append-nil h.0
descends_at first (x ∷ front) rest c h = rw append_assoc at (descends_at (first ++ x ∷ []) front rest c h.1)

one_of_some : (cs : List Character) (origin : Option Id) (id : Id) → origin ≡ Some id → IsOneOf cs origin
    → has_id cs id ≡ true
one_of_some cs origin id e h = rw e at h

one_of_none : (cs : List Character) (origin : Option Id) → origin ≡ None → IsOneOf cs origin → ⊥
one_of_none cs origin e h = rw e at h

here_or_behind : (x : Character) (cs : List Character) (id other : Id) → x.id ≡ id → has_id (x ∷ cs) other ≡ true
    → (is_same id other ≡ true) ⊎ (has_id cs other ≡ true)
here_or_behind x cs id other e h = or_cases (is_same id other) (has_id cs other) (rw (ap (λ y. is_same y other) e) at h)

regrouped : (f g between rest : List Character) (x c d : Character)
    → (f ++ x ∷ g) ++ c ∷ (between ++ d ∷ rest) ≡ f ++ x ∷ ((g ++ c ∷ between) ++ d ∷ rest)
regrouped f g between rest x c d =
    append_assoc f (x ∷ g) (c ∷ (between ++ d ∷ rest))
    ∙ ap (λ ys. f ++ x ∷ ys) (sym (append_assoc g (c ∷ between) (d ∷ rest)))

-- in a walk, where a later character has its parent in front, an earlier one has its own there or behind that
module _ (inserts walked : List Character) (walk : IsWalk inserts walked) (front between rest : List Character) (c d : Character) (is : walked ≡ front ++ c ∷ (between ++ d ∷ rest)) where
  reaches : (origin : Id) → d.origin ≡ Some origin → has_id front origin ≡ true
      → (x : Character) × (x.id ≡ origin) × IsOneOf (x ∷ after origin front) c.origin
  reaches origin e h =
      let (f, x, k) = cut front origin h in (
        x,
        k.here,
        descends_at (x ∷ []) (after origin front) between c
            (walk.together f (after origin front ++ c ∷ between) rest x d
            (is ∙ ap (λ ys. ys ++ c ∷ (between ++ d ∷ rest)) k.whole ∙ regrouped f (after origin front) between rest x c d)
            (e ∙ ap Some (sym k.here))),
      )

  reaches_not_none : (origin : Id) → d.origin ≡ Some origin → has_id front origin ≡ true → c.origin ≡ None → ⊥
  reaches_not_none origin e h f = let (x, k, m) = reaches origin e h in one_of_none (x ∷ after origin front) c.origin f m

  reaches_some : (origin other : Id) → d.origin ≡ Some origin → has_id front origin ≡ true → c.origin ≡ Some other
      → (is_same origin other ≡ true) ⊎ (has_id (after origin front) other ≡ true)
  reaches_some origin other e h f =
      let (x, k, m) = reaches origin e h in
      here_or_behind x (after origin front) origin other k (one_of_some (x ∷ after origin front) c.origin other f m)

-- two walks that go on differently
module _ (inserts walked other : List Character) (walk : IsWalk inserts walked) (too : IsWalk inserts other) (front m r n s : List Character) (c d : Character) (is : walked ≡ front ++ c ∷ (m ++ d ∷ r)) (are : other ≡ front ++ d ∷ (n ++ c ∷ s)) where
  not_siblings : c.origin ≡ d.origin → ⊥
  not_siblings e = both_ways (is_below c.id d.id) (below_turned d.id c.id (walk.falling front m r c d is e)) (too.falling front n s d c are (sym e))

  front_once : (id : Id) → times id front ≤ 1
  front_once id = let t : times id (front ++ c ∷ (m ++ d ∷ r)) ≤ 1 = rw (ap (λ xs. times id xs) is) at (walk.once id) in
      omega (arith, times-append id front (c ∷ (m ++ d ∷ r)))

  not_different : (p q : Option Id) → c.origin ≡ p → d.origin ≡ q → ⊥
  not_different None None e f = not_siblings (e ∙ sym f)
  not_different (Some x) None e f = reaches_not_none inserts other too front n s d c are x e (walk.parents front (m ++ d ∷ r) c x is e) f
  not_different None (Some y) e f = reaches_not_none inserts walked walk front m r c d is y f (too.parents front (n ++ c ∷ s) d y are f) e
  not_different (Some x) (Some y) e f =
      elim (cases_Bool (is_same x y)) [
        | inl k ↦ not_siblings (e ∙ ap Some (same_equal x y k) ∙ sym f)
        | inr k ↦
            let a = reaches_some inserts other too front n s d c are x y e (walk.parents front (m ++ d ∷ r) c x is e) f in
            let b = reaches_some inserts walked walk front m r c d is y x f (too.parents front (n ++ c ∷ s) d y are f) e in
            elim a [
              | inl g ↦ both_ways (is_same x y) k g
              | inr g ↦ elim b [
                | inl h ↦ both_ways (is_same x y) k (same_swapped x y ∙ h)
                | inr h ↦ not_behind_both front x y k (front_once x) (front_once y) g h
              ]
            ]
      ]

-- what one walk has next the other has too
met_again : (inserts walked : List Character) (walk : IsWalk inserts walked) (front ws : List Character) (c d : Character)
    → walked ≡ front ++ c ∷ ws → HasCharacter inserts d → times d.id front ≡ 0 → (c ≡ d) ⊎ HasCharacter ws d
met_again inserts walked walk front ws c d e h z =
    elim (HasCharacter-cases front (c ∷ ws) d (rw (ap (λ xs. HasCharacter xs d) e) at ((walk.members d).1 h))) [
      | inl k ↦ absurd (omega (arith, has_counted front d k))
      | inr k ↦ k
    ]

-- an id that comes next isn't in front
next_is_new : (inserts walked : List Character) (walk : IsWalk inserts walked) (front ws : List Character) (c : Character)
    → walked ≡ front ++ c ∷ ws → times c.id front ≡ 0
next_is_new inserts walked walk front ws c e =
    let t : times c.id (front ++ c ∷ ws) ≤ 1 = rw (ap (λ xs. times c.id xs) e) at (walk.once c.id) in
    let u : 1 ≤ times c.id (c ∷ ws) = has_counted (c ∷ ws) c (inl refl) in
    omega (arith, times-append c.id front (c ∷ ws))

next_is_insert : (inserts walked : List Character) (walk : IsWalk inserts walked) (front ws : List Character) (c : Character)
    → walked ≡ front ++ c ∷ ws → HasCharacter inserts c
next_is_insert inserts walked walk front ws c e = (walk.members c).0 (rw (ap (λ xs. HasCharacter xs c) e) (HasCharacter-last front ws c))

next_equal : (inserts walked other : List Character) (walk : IsWalk inserts walked) (too : IsWalk inserts other) (front ws vs : List Character) (c d : Character)
    → walked ≡ front ++ c ∷ ws → other ≡ front ++ d ∷ vs → c ≡ d
next_equal inserts walked other walk too front ws vs c d e f =
    elim (met_again inserts walked walk front ws c d e (next_is_insert inserts other too front vs d f) (next_is_new inserts other too front vs d f)) [
      | inl g ↦ g
      | inr h ↦ elim (met_again inserts other too front vs d c f (next_is_insert inserts walked walk front ws c e) (next_is_new inserts walked walk front ws c e)) [
        | inl g ↦ sym g
        | inr k ↦
            let (m, r, p) = has_split ws d h in
            let (n, s, q) = has_split vs c k in
            absurd (not_different inserts walked other walk too front m r n s c d (e ∙ ap (λ xs. front ++ c ∷ xs) p) (f ∙ ap (λ xs. front ++ d ∷ xs) q) c.origin d.origin refl refl)
      ]
    ]

nothing_more : (inserts walked : List Character) (walk : IsWalk inserts walked) (front : List Character) (d : Character)
    → walked ≡ front → HasCharacter inserts d → times d.id front ≡ 0 → ⊥
nothing_more inserts walked walk front d e h z = omega (arith, has_counted front d (rw (ap (λ xs. HasCharacter xs d) e) at ((walk.members d).1 h)))

same_rest : (inserts walked other : List Character) (walk : IsWalk inserts walked) (too : IsWalk inserts other) (front ws vs : List Character)
    → walked ≡ front ++ ws → other ≡ front ++ vs → ws ≡ vs
same_rest inserts walked other walk too front [] [] e f = refl
same_rest inserts walked other walk too front [] (d ∷ vs) e f =
    absurd (nothing_more inserts walked walk front d (e ∙ append-nil front) (next_is_insert inserts other too front vs d f) (next_is_new inserts other too front vs d f))
same_rest inserts walked other walk too front (c ∷ ws) [] e f =
    absurd (nothing_more inserts other too front c (f ∙ append-nil front) (next_is_insert inserts walked walk front ws c e) (next_is_new inserts walked walk front ws c e))
same_rest inserts walked other walk too front (c ∷ ws) (d ∷ vs) e f =
    let g : c ≡ d = next_equal inserts walked other walk too front ws vs c d e f in
    let k : ws ≡ vs = same_rest inserts walked other walk too (front ++ c ∷ []) ws vs (e ∙ sym (append_assoc front (c ∷ []) ws)) (f ∙ ap (λ x. front ++ x ∷ vs) (sym g) ∙ sym (append_assoc front (c ∷ []) vs)) in
    ap (λ x. x ∷ ws) g ∙ ap (λ xs. d ∷ xs) k

-- two lists that are walks of the same inserts are equal
pub walks_equal : (inserts walked other : List Character) → IsWalk inserts walked → IsWalk inserts other
    → walked ≡ other
walks_equal inserts walked other walk too = same_rest inserts walked other walk too [] walked other refl refl
