-- The walk in the subject's own words: families, siblings in falling order, parents first, each insert once.
use Rattle.std.proofs.Common.{◌≡◌, ℕ, ◌≤◌, true, false, inl, inr, List, [], ◌∷◌, ◌++◌, Option, Some, None, ap, refl, sym, append_assoc, append-nil}
use Rattle.std.proofs.lemmas.Bool.{cases_Bool, or_cases, or_left, or_right, false≢true}
use Rattle.std.proofs.lemmas.List.Folds.{list_any-append}
use Rattle.op_ids.specs.Id.{Id, is_below, is_same}
use Rattle.op_model.specs.declared.op.Op.{Op}
use Rattle.op_model.specs.declared.character.Character.{Character}
use Rattle.op_model.specs.Characters.{characters}
use Rattle.op_model.specs.Walk.{walk, below, is_parent, children, families, times, IsFalling, IsFallingBelow}
use Rattle.op_model.specs.Placing.{has_id, IsOrderly}
use Rattle.model_laws.proofs.Ids.{same_itself, same_equal, above_differs}
use Rattle.model_laws.proofs.Put.{AllAbove, AllAbove-append, IsRising, IsOriginBelow, is_none_of}
use Rattle.model_laws.proofs.Count.{AreGrounded, below_has_all, rising_once}
use Rattle.model_laws.proofs.Grow.{is_origin_below, AreSound}
use Rattle.model_laws.proofs.Ops.{orderly_sound}

AllAbove-children : (id : Id) (p : Option Id) (cs : List Character) → AllAbove id cs → AllAbove id (children p cs)
AllAbove-children id p [] h = tt
AllAbove-children id p (c ∷ cs) h =
    AllAbove-append id (children p cs) _ (AllAbove-children id p cs h.1)
    (elim (cases_Bool (is_parent p c.origin)) [ inl e ↦ rw e (h.0, tt) | inr e ↦ rw e tt ])

IsFallingBelow-push : (high : Id) (c : Character) (ds : List Character) → IsFallingBelow high ds → AllAbove c.id ds
    → is_below c.id high ≡ true → IsFallingBelow high (ds ++ c ∷ [])
IsFallingBelow-push high c [] h k e = (e, tt)
IsFallingBelow-push high c (d ∷ ds) h k e = (h.0, IsFallingBelow-push d.id c ds h.1 k.1 k.0)

IsFalling-push : (c : Character) (ds : List Character) → IsFalling ds → AllAbove c.id ds → IsFalling (ds ++ c ∷ [])
IsFalling-push c [] h k = tt
IsFalling-push c (d ∷ ds) h k = IsFallingBelow-push d.id c ds h k.1 k.0

children_fall : (p : Option Id) (cs : List Character) → IsRising cs → IsFalling (children p cs)
children_fall p [] h = tt
children_fall p (c ∷ cs) h =
    elim (cases_Bool (is_parent p c.origin)) [
      | inl e ↦ rw e (IsFalling-push c (children p cs) (children_fall p cs h.1) (AllAbove-children c.id p cs h.0))
      | inr e ↦ rw (e, append-nil) (children_fall p cs h.1)
    ]

below_skips : (p : Option Id) (c : Character) (cs : List Character) → is_parent p c.origin ≡ false
    → below p (c ∷ cs) ≡ below p cs
below_skips p c cs e = rw (e, append-nil) refl

families-append : (all cs ds : List Character) → families all (cs ++ ds) ≡ families all cs ++ families all ds
families-append all [] ds = refl
families-append all (c ∷ cs) ds = rw (families-append all cs ds, append_assoc) refl

-- the least of the inserts is no part of the families of greater ones
families_skip : (c : Character) (cs ds : List Character) → IsOriginBelow c.origin c.id → AllAbove c.id ds
    → families (c ∷ cs) ds ≡ families cs ds
families_skip c cs [] o h = refl
families_skip c cs (d ∷ ds) o h =
    rw (families_skip c cs ds o h.1, below_skips (Some d.id) c cs (is_none_of c.origin c.id d.id o h.0)) refl

no_own_parent : (origin : Option Id) (id : Id) → IsOriginBelow origin id → is_parent (Some id) origin ≡ false
no_own_parent None id o = refl
no_own_parent (Some p) id o = above_differs p id o

below_families : (all : List Character) (p : Option Id) (cs : List Character) → IsRising cs → AreGrounded all cs
    → below p cs ≡ families cs (children p cs)
below_families all p [] h g = refl
below_families all p (c ∷ cs) h g =
    let o : IsOriginBelow c.origin c.id = is_origin_below all c.id c.origin g.0 in
    rw (families-append (c ∷ cs) (children p cs), families_skip c cs (children p cs) o (AllAbove-children c.id p cs h.0), below_families all p cs h.1 g.1)
    (elim (cases_Bool (is_parent p c.origin)) [
      | inl e ↦ rw (e, below_skips (Some c.id) c cs (no_own_parent c.origin c.id o))
          (ap (λ ds. families cs (children p cs) ++ c ∷ ds) (sym (append-nil (below (Some c.id) cs))))
      | inr e ↦ rw e refl
    ])

-- an origin is among these; the word for none says whether it may be none
abbrev pub IsKnown : Type 0 → List Character → Option Id → Type 0
IsKnown none front None = none
IsKnown none front (Some origin) = has_id front origin ≡ true

-- each of these has its origin in front of it, these characters included
abbrev pub HaveParentsFirst : Type 0 → List Character → List Character → Type 0
HaveParentsFirst none front [] = Unit {0}
HaveParentsFirst none front (c ∷ cs) = IsKnown none front c.origin × HaveParentsFirst none (front ++ c ∷ []) cs

-- what the first of these have, the second have too
abbrev HasNoMore : List Character → List Character → Type 0
HasNoMore f g = (id : Id) → has_id f id ≡ true → has_id g id ≡ true

HasNoMore-push : (f g : List Character) (c : Character) → HasNoMore f g → HasNoMore (f ++ c ∷ []) (g ++ c ∷ [])
HasNoMore-push f g c h id e =
    rw (list_any-append (λ d. is_same d.id id) g (c ∷ []))
    (elim (or_cases (has_id f id) (has_id (c ∷ []) id) (rw (list_any-append (λ d. is_same d.id id) f (c ∷ [])) at e)) [
      | inl k ↦ or_left (has_id g id) (has_id (c ∷ []) id) (h id k)
      | inr k ↦ or_right (has_id g id) (has_id (c ∷ []) id) k
    ])

HasNoMore-append : (f g : List Character) → HasNoMore f (f ++ g)
HasNoMore-append f g id e = rw (list_any-append (λ d. is_same d.id id) f g) (or_left (has_id f id) (has_id g id) e)

last_there : (f : List Character) (c : Character) → has_id (f ++ c ∷ []) c.id ≡ true
last_there f c = rw (list_any-append (λ d. is_same d.id c.id) f (c ∷ []), same_itself c.id) (or_right (has_id f c.id) true refl)

module _ (none : Type 0) where
  known_among_more : (f g : List Character) (origin : Option Id) → HasNoMore f g → IsKnown none f origin
      → IsKnown none g origin
  known_among_more f g None h k = k
  known_among_more f g (Some o) h k = h o k

  parents_among_more : (f g cs : List Character) → HasNoMore f g → HaveParentsFirst none f cs
      → HaveParentsFirst none g cs
  parents_among_more f g [] h k = tt
  parents_among_more f g (c ∷ cs) h k =
      (known_among_more f g c.origin h k.0, parents_among_more (f ++ c ∷ []) (g ++ c ∷ []) cs (HasNoMore-push f g c h) k.1)

  HaveParentsFirst-append : (f cs ds : List Character) → HaveParentsFirst none f cs → HaveParentsFirst none f ds
      → HaveParentsFirst none f (cs ++ ds)
  HaveParentsFirst-append f [] ds h k = k
  HaveParentsFirst-append f (c ∷ cs) ds h k =
      (h.0, HaveParentsFirst-append (f ++ c ∷ []) cs ds h.1 (parents_among_more f (f ++ c ∷ []) ds (HasNoMore-append f (c ∷ [])) k))

  known_by_parent : (f : List Character) (p origin : Option Id) → is_parent p origin ≡ true → IsKnown none f p
      → IsKnown none f origin
  known_by_parent f None None e k = k
  known_by_parent f (Some q) None e k = absurd (false≢true e)
  known_by_parent f None (Some o) e k = absurd (false≢true e)
  known_by_parent f (Some q) (Some o) e k = rw (same_equal q o e) at k

  pub below_parents_first : (f : List Character) (p : Option Id) (cs : List Character) → IsKnown none f p
      → HaveParentsFirst none f (below p cs)
  below_parents_first f p [] k = tt
  below_parents_first f p (c ∷ cs) k =
      HaveParentsFirst-append f (below p cs) _ (below_parents_first f p cs k)
      (elim (cases_Bool (is_parent p c.origin)) [
        | inl e ↦ rw e (known_by_parent f p c.origin e k, below_parents_first (f ++ c ∷ []) (Some c.id) cs (last_there f c))
        | inr e ↦ rw e tt
      ])

  pub known_in_front : (f front rest : List Character) (c : Character) → HaveParentsFirst none f (front ++ c ∷ rest)
      → IsKnown none (f ++ front) c.origin
  known_in_front f [] rest c h = rw append-nil h.0
  known_in_front f (d ∷ front) rest c h = rw append_assoc at (known_in_front (f ++ d ∷ []) front rest c h.1)

pub parents_in_front : (cs front rest : List Character) (c : Character) (origin : Id)
    → below None cs ≡ front ++ c ∷ rest → c.origin ≡ Some origin → has_id front origin ≡ true
parents_in_front cs front rest c origin e f = rw f at (known_in_front (Unit {0}) [] front rest c (rw e at (below_parents_first (Unit {0}) [] None cs tt)))

pub walk_parents_first : (ops : List Op) (doc : ℕ) (front rest : List Character) (c : Character) (origin : Id)
    → walk ops doc ≡ front ++ c ∷ rest → c.origin ≡ Some origin → has_id front origin ≡ true
walk_parents_first ops doc front rest c origin e f = parents_in_front (characters ops doc) front rest c origin e f

pub orderly_families : (ops : List Op) (doc : ℕ) (parent : Option Id) → IsOrderly ops doc
    → below parent (characters ops doc) ≡ families (characters ops doc) (children parent (characters ops doc))
orderly_families ops doc parent h =
    let s : AreSound (characters ops doc) = orderly_sound ops doc h in below_families (characters ops doc) parent (characters ops doc) s.rising s.grounded

pub orderly_falling : (ops : List Op) (doc : ℕ) (parent : Option Id) → IsOrderly ops doc
    → IsFalling (children parent (characters ops doc))
orderly_falling ops doc parent h = children_fall parent (characters ops doc) (orderly_sound ops doc h).rising

pub orderly_members : (ops : List Op) (doc : ℕ) (id : Id) → IsOrderly ops doc
    → times id (walk ops doc) ≡ times id (characters ops doc)
orderly_members ops doc id h =
    let s : AreSound (characters ops doc) = orderly_sound ops doc h in below_has_all id (characters ops doc) s.rising s.grounded

pub orderly_once : (ops : List Op) (doc : ℕ) (id : Id) → IsOrderly ops doc → times id (walk ops doc) ≤ 1
orderly_once ops doc id h = rw (orderly_members ops doc id h) (rising_once id (characters ops doc) (orderly_sound ops doc h).rising)
