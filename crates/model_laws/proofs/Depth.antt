-- The walk has the properties by which it is known.
use Rattle.std.proofs.Common.{◌≡◌, ℕ, zero, suc, ◌+◌, ◌*◌, ◌≤◌, true, false, cond, ◌⊎◌, inl, inr}
use Rattle.std.proofs.Common.{List, [], ◌∷◌, ◌++◌, Option, Some, None, arith, ap, refl, append-nil}
use Rattle.std.proofs.lemmas.Bool.{cases_Bool, or_left, or_right, false≢true, both_ways}
use Rattle.std.proofs.lemmas.List.Folds.{list_any-append}
use Rattle.op_ids.specs.Id.{Id, is_same, is_below}
use Rattle.op_model.specs.declared.op.Op.{Op}
use Rattle.op_model.specs.declared.character.Character.{Character}
use Rattle.op_model.specs.Characters.{characters}
use Rattle.op_model.specs.Walk.{walk, below, is_parent, times}
use Rattle.op_model.specs.Placing.{has_id, IsOrderly}
use Rattle.model_laws.specs.IsWalk.{HasCharacter, IsOneOf, AreDescendants, IsWalk}
use Rattle.model_laws.proofs.Ids.{same_itself, same_equal}
use Rattle.model_laws.proofs.Put.{AllAbove, AllAbove-below, IsRising, HasNoChild}
use Rattle.model_laws.proofs.Count.{count, total, total_more, total_none, below_has_all, rising_once}
use Rattle.model_laws.proofs.Grow.{AreSound}
use Rattle.model_laws.proofs.Family.{IsKnown, HaveParentsFirst, below_parents_first, parents_in_front}
use Rattle.model_laws.proofs.Member.{has_counted, present_counted, counted_found, one_of_id, has_below}
use Rattle.model_laws.proofs.Unique.{walks_equal}
use Rattle.model_laws.proofs.Ops.{orderly_sound}

parent_equal : (p origin : Option Id) → is_parent p origin ≡ true → p ≡ origin
parent_equal None None e = refl
parent_equal (Some a) (Some b) e = ap Some (same_equal a b e)
parent_equal (Some a) None e = absurd (false≢true e)
parent_equal None (Some b) e = absurd (false≢true e)

-- parents that lie outside of these characters, each once
record AreOutside (ps : List (Option Id)) (cs : List Character) : Type 0 where
  some : (id : Id) → count ps (Some id) + times id cs ≤ 1
  none : count ps None ≤ 1

outside_count : (ps : List (Option Id)) (cs : List Character) → AreOutside ps cs → (origin : Option Id)
    → count ps origin ≤ 1
outside_count ps cs h None = h.none
outside_count ps cs h (Some o) = omega (arith, h.some o)

outside_more : (ps : List (Option Id)) (c : Character) (cs : List Character) → AreOutside ps (c ∷ cs)
    → AreOutside (Some c.id ∷ ps) cs
outside_more ps c cs h = record { some = λ id. omega (arith, h.some id); none = omega (arith, h.none) }

outside_rest : (ps : List (Option Id)) (c : Character) (cs : List Character) → AreOutside ps (c ∷ cs)
    → AreOutside ps cs
outside_rest ps c cs h = record { some = λ id. omega (arith, h.some id); none = h.none }

outside_child : (p : Option Id) (c : Character) (cs : List Character) → AreOutside (p ∷ []) (c ∷ cs)
    → AreOutside (Some c.id ∷ []) cs
outside_child p c cs h = record { some = λ id. omega (arith, h.some id); none = omega arith }

outside_both : (p : Option Id) (c : Character) (cs : List Character) → AreOutside (p ∷ []) (c ∷ cs)
    → AreOutside (p ∷ Some c.id ∷ []) cs
outside_both p c cs h = record { some = λ id. omega (arith, h.some id); none = omega (arith, h.none) }

at_most_once : (k n : ℕ) → k ≤ 1 → k * n ≤ n
at_most_once zero n h = omega arith
at_most_once (suc zero) n h = omega arith
at_most_once (suc (suc k)) n h = absurd (omega arith)

total_within : (id : Id) (ps : List (Option Id)) (cs : List Character) → AreOutside ps cs
    → total id ps cs ≤ times id cs
total_within id ps [] h = rw (total_none id ps) (omega arith)
total_within id ps (c ∷ cs) h =
    let t : times id (below (Some c.id) cs) + total id ps cs ≤ times id cs = total_within id (Some c.id ∷ ps) cs (outside_more ps c cs h) in
    let k : count ps c.origin * times id (c ∷ below (Some c.id) cs) ≤ times id (c ∷ below (Some c.id) cs) = at_most_once (count ps c.origin) (times id (c ∷ below (Some c.id) cs)) (outside_count ps (c ∷ cs) h c.origin) in
    rw (total_more id ps c cs) (omega arith)

-- an origin is this parent, or one of these
abbrev InFamily : Option Id → List Character → Option Id → Type 0
InFamily p ds origin = (is_parent p origin ≡ true) ⊎ IsKnown ⊥ ds origin

in_family_counted : (p : Option Id) (ds : List Character) (id : Id) → InFamily p ds (Some id)
    → 1 ≤ cond (is_parent p (Some id)) 1 0 + times id ds
in_family_counted p ds id (inl e) = rw e (omega arith)
in_family_counted p ds id (inr h) = omega (arith, present_counted ds id h)

-- what lies below two parents outside has no origin in common
families_disjoint : (p : Option Id) (id : Id) (cs : List Character) → AreOutside (p ∷ Some id ∷ []) cs
    → (origin : Option Id) → InFamily p (below p cs) origin → InFamily (Some id) (below (Some id) cs) origin → ⊥
families_disjoint p id cs h None (inl e) (inl f) = false≢true f
families_disjoint p id cs h None (inl e) (inr g) = g
families_disjoint p id cs h None (inr e) g = e
families_disjoint p id cs h (Some o) e f =
    omega (arith, in_family_counted p (below p cs) o e, in_family_counted (Some id) (below (Some id) cs) o f, total_within o (p ∷ Some id ∷ []) cs h, h.some o)

-- the origins of these have a property
abbrev AllOrigins : (Option Id → Type 0) → List Character → Type 0
AllOrigins P [] = Unit {0}
AllOrigins P (c ∷ cs) = P c.origin × AllOrigins P cs

AllOrigins-append : (P : Option Id → Type 0) (cs ds : List Character) → AllOrigins P cs → AllOrigins P ds
    → AllOrigins P (cs ++ ds)
AllOrigins-append P [] ds h k = k
AllOrigins-append P (c ∷ cs) ds h k = (h.0, AllOrigins-append P cs ds h.1 k)

AllOrigins-weaker : (P Q : Option Id → Type 0) → ((origin : Option Id) → P origin → Q origin) → (cs : List Character)
    → AllOrigins P cs → AllOrigins Q cs
AllOrigins-weaker P Q says [] h = tt
AllOrigins-weaker P Q says (c ∷ cs) h = (says c.origin h.0, AllOrigins-weaker P Q says cs h.1)

known_left : (cs ds : List Character) (origin : Option Id) → IsKnown ⊥ cs origin → IsKnown ⊥ (cs ++ ds) origin
known_left cs ds None h = h
known_left cs ds (Some o) h = rw (list_any-append (λ d. is_same d.id o) cs ds) (or_left (has_id cs o) (has_id ds o) h)

known_right : (cs ds : List Character) (origin : Option Id) → IsKnown ⊥ ds origin → IsKnown ⊥ (cs ++ ds) origin
known_right cs ds None h = h
known_right cs ds (Some o) h = rw (list_any-append (λ d. is_same d.id o) cs ds) (or_right (has_id cs o) (has_id ds o) h)

known_tail : (c : Character) (ds : List Character) (origin : Option Id) → IsKnown ⊥ ds origin
    → IsKnown ⊥ (c ∷ ds) origin
known_tail c ds None h = h
known_tail c ds (Some o) h = or_right (is_same c.id o) (has_id ds o) h

known_head : (c : Character) (ds : List Character) (origin : Option Id) → is_parent (Some c.id) origin ≡ true
    → IsKnown ⊥ (c ∷ ds) origin
known_head c ds None e = false≢true e
known_head c ds (Some o) e = or_left (is_same c.id o) (has_id ds o) e

-- the origins of what lies below a parent are that parent or lie below it too
below_origins : (p : Option Id) (cs : List Character) → AllOrigins (InFamily p (below p cs)) (below p cs)
below_origins p [] = tt
below_origins p (c ∷ cs) =
    elim (cases_Bool (is_parent p c.origin)) [
      | inl e ↦ rw e (AllOrigins-append (InFamily p (below p cs ++ c ∷ below (Some c.id) cs)) (below p cs) (c ∷ below (Some c.id) cs)
          (AllOrigins-weaker (InFamily p (below p cs)) (InFamily p (below p cs ++ c ∷ below (Some c.id) cs))
          (λ o. elim [ inl f ↦ inl f | inr h ↦ inr (known_left (below p cs) (c ∷ below (Some c.id) cs) o h) ])
          (below p cs) (below_origins p cs)) (
            inl e,
            AllOrigins-weaker (InFamily (Some c.id) (below (Some c.id) cs)) (InFamily p (below p cs ++ c ∷ below (Some c.id) cs))
                (λ o. elim [
                  | inl f ↦ inr (known_right (below p cs) (c ∷ below (Some c.id) cs) o (known_head c (below (Some c.id) cs) o f))
                  | inr h ↦ inr (known_right (below p cs) (c ∷ below (Some c.id) cs) o (known_tail c (below (Some c.id) cs) o h))
                ])
                (below (Some c.id) cs) (below_origins (Some c.id) cs),
          ))
      | inr e ↦ rw (e, append-nil) (below_origins p cs)
    ]

-- of what stands behind a character, the front has its origins there, and the rest has no child of it
abbrev IsLed : List Character → Id → List Character → Type 0
IsLed front id [] = Unit {0}
IsLed front id (d ∷ ds) = (IsKnown ⊥ front d.origin × IsLed (front ++ d ∷ []) id ds) ⊎ HasNoChild id (d ∷ ds)

abbrev AreTogether : List Character → Type 0
AreTogether [] = Unit {0}
AreTogether (c ∷ cs) = IsLed (c ∷ []) c.id cs × AreTogether cs

IsLed-from_descendants : (front : List Character) (id : Id) (ds : List Character) → HaveParentsFirst ⊥ front ds
    → IsLed front id ds
IsLed-from_descendants front id [] h = tt
IsLed-from_descendants front id (d ∷ ds) h = inl (h.0, IsLed-from_descendants (front ++ d ∷ []) id ds h.1)

HasNoChild-append : (id : Id) (cs ds : List Character) → HasNoChild id cs → HasNoChild id ds
    → HasNoChild id (cs ++ ds)
HasNoChild-append id [] ds h k = k
HasNoChild-append id (c ∷ cs) ds h k = (h.0, HasNoChild-append id cs ds h.1 k)

IsLed-none : (front : List Character) (id : Id) (ds : List Character) → HasNoChild id ds → IsLed front id ds
IsLed-none front id [] h = tt
IsLed-none front id (d ∷ ds) h = inr h

IsLed-append : (front : List Character) (id : Id) (cs ds : List Character) → IsLed front id cs → HasNoChild id ds
    → IsLed front id (cs ++ ds)
IsLed-append front id [] ds h k = IsLed-none front id ds k
IsLed-append front id (c ∷ cs) ds (inl h) k = inl (h.0, IsLed-append (front ++ c ∷ []) id cs ds h.1 k)
IsLed-append front id (c ∷ cs) ds (inr h) k = inr (HasNoChild-append id (c ∷ cs) ds h k)

AreTogether-append : (cs ds : List Character) → AreTogether cs → AreTogether ds
    → ((id : Id) → has_id cs id ≡ true → HasNoChild id ds) → AreTogether (cs ++ ds)
AreTogether-append [] ds h k n = k
AreTogether-append (c ∷ cs) ds h k n = (
  IsLed-append (c ∷ []) c.id cs ds h.0 (n c.id (or_left (is_same c.id c.id) (has_id cs c.id) (same_itself c.id))),
  AreTogether-append cs ds h.1 k (λ id e. n id (or_right (is_same c.id id) (has_id cs id) e)),
)

not_parent : (id : Id) (origin : Option Id) (P : Option Id → Type 0) → P origin → (P (Some id) → ⊥)
    → is_parent (Some id) origin ≡ false
not_parent id origin P h n =
    elim (cases_Bool (is_parent (Some id) origin)) [ inl e ↦ absurd (n (rw (← (parent_equal (Some id) origin e)) at h)) | inr e ↦ e ]

no_child_by : (id : Id) (P : Option Id → Type 0) (ds : List Character) → AllOrigins P ds → (P (Some id) → ⊥)
    → HasNoChild id ds
no_child_by id P [] h n = tt
no_child_by id P (d ∷ ds) h n = (not_parent id d.origin P h.0 n, no_child_by id P ds h.1 n)

-- the later siblings of a character have smaller ids
abbrev HasSmaller : Character → List Character → Type 0
HasSmaller c [] = Unit {0}
HasSmaller c (d ∷ ds) = (c.origin ≡ d.origin → is_below d.id c.id ≡ true) × HasSmaller c ds

abbrev HaveSmaller : List Character → Type 0
HaveSmaller [] = Unit {0}
HaveSmaller (c ∷ cs) = HasSmaller c cs × HaveSmaller cs

HasSmaller-append : (c : Character) (ds es : List Character) → HasSmaller c ds → HasSmaller c es
    → HasSmaller c (ds ++ es)
HasSmaller-append c [] es h k = k
HasSmaller-append c (d ∷ ds) es h k = (h.0, HasSmaller-append c ds es h.1 k)

no_siblings : (c : Character) (P Q : Option Id → Type 0) → ((origin : Option Id) → P origin → Q origin → ⊥)
    → P c.origin → (ds : List Character) → AllOrigins Q ds → HasSmaller c ds
no_siblings c P Q apart p [] h = tt
no_siblings c P Q apart p (d ∷ ds) h = (λ e. absurd (apart d.origin (rw e at p) h.0), no_siblings c P Q apart p ds h.1)

HaveSmaller-append : (P Q : Option Id → Type 0) → ((origin : Option Id) → P origin → Q origin → ⊥)
    → (c : Character) (ds : List Character) → AllOrigins Q ds → HaveSmaller (c ∷ ds) → (cs : List Character)
    → AllAbove c.id cs → AllOrigins P cs → HaveSmaller cs → HaveSmaller (cs ++ c ∷ ds)
HaveSmaller-append P Q apart c ds q k [] a h s = k
HaveSmaller-append P Q apart c ds q k (b ∷ cs) a h s = (
  HasSmaller-append b cs (c ∷ ds) s.0 (λ e. a.0, no_siblings b P Q apart h.0 ds q),
  HaveSmaller-append P Q apart c ds q k cs a.1 h.1 s.1,
)

-- both properties of what lies below a parent
record IsDeep (ds : List Character) : Type 0 where
  together : AreTogether ds
  smaller : HaveSmaller ds

parent_not_below : (p : Option Id) (id : Id) (cs : List Character) → AreOutside (p ∷ []) cs
    → is_parent p (Some id) ≡ true → has_id (below p cs) id ≡ true → ⊥
parent_not_below p id cs h e m =
    let t : times id (below p cs) + 0 ≤ times id cs = total_within id (p ∷ []) cs h in
    let s : (1 + 0) + times id cs ≤ 1 = rw e at (h.some id) in
    omega (arith, present_counted (below p cs) id m)

-- a child and what lies below it, behind what lies below its parent among greater inserts
deep_more : (p : Option Id) (c : Character) (cs : List Character) → AllAbove c.id cs → AreOutside (p ∷ []) (c ∷ cs)
    → is_parent p c.origin ≡ true → IsDeep (below p cs) → IsDeep (below (Some c.id) cs)
    → IsDeep (below p cs ++ c ∷ below (Some c.id) cs)
deep_more p c cs a h e d k = record {
  together = AreTogether-append (below p cs) (c ∷ below (Some c.id) cs) d.together
      (IsLed-from_descendants (c ∷ []) c.id (below (Some c.id) cs) (below_parents_first ⊥ (c ∷ []) (Some c.id) cs (or_left (is_same c.id c.id) false (same_itself c.id))), k.together)
      (λ id m. (
        not_parent id c.origin (λ o. is_parent p o ≡ true) e (λ f. parent_not_below p id cs (outside_rest (p ∷ []) c cs h) f m),
        no_child_by id (InFamily (Some c.id) (below (Some c.id) cs)) (below (Some c.id) cs) (below_origins (Some c.id) cs) (λ f. apart (Some id) (inr m) f),
      ));
  smaller = HaveSmaller-append (InFamily p (below p cs)) (InFamily (Some c.id) (below (Some c.id) cs)) apart c (below (Some c.id) cs) (below_origins (Some c.id) cs)
      (no_siblings c (InFamily p (below p cs)) (InFamily (Some c.id) (below (Some c.id) cs)) apart (inl e) (below (Some c.id) cs) (below_origins (Some c.id) cs), k.smaller)
      (below p cs) (AllAbove-below c.id p cs a) (below_origins p cs) d.smaller;
}
  where
    apart : (origin : Option Id) → InFamily p (below p cs) origin → InFamily (Some c.id) (below (Some c.id) cs) origin
        → ⊥
    apart = families_disjoint p c.id cs (outside_both p c cs h)

below_deep : (p : Option Id) (cs : List Character) → IsRising cs → AreOutside (p ∷ []) cs → IsDeep (below p cs)
below_deep p [] h o = record { together = tt; smaller = tt }
below_deep p (c ∷ cs) h o =
    let d : IsDeep (below p cs) = below_deep p cs h.1 (outside_rest (p ∷ []) c cs o) in
    let k : IsDeep (below (Some c.id) cs) = below_deep (Some c.id) cs h.1 (outside_child p c cs o) in
    elim (cases_Bool (is_parent p c.origin)) [
      | inl e ↦ rw e (deep_more p c cs h.0 o e d k)
      | inr e ↦ rw (e, append-nil) d
    ]

-- what was said one character after another, said of two places
not_child : (front rest : List Character) (d : Character) (id : Id) → d.origin ≡ Some id
    → HasNoChild id (front ++ d ∷ rest) → ⊥
not_child [] rest d id e h = both_ways (is_same id id) (rw e at h.0) (same_itself id)
not_child (x ∷ front) rest d id e h = not_child front rest d id e h.1

known_is_one : (cs : List Character) (origin : Option Id) → IsKnown ⊥ cs origin → IsOneOf cs origin
known_is_one cs None h = h
known_is_one cs (Some o) h = h

descendants_between : (front between rest : List Character) (d : Character) (id : Id) → d.origin ≡ Some id
    → IsLed front id (between ++ d ∷ rest) → AreDescendants front between
descendants_between front [] rest d id e h = tt
descendants_between front (x ∷ between) rest d id e (inl h) = (known_is_one front x.origin h.0, descendants_between (front ++ x ∷ []) between rest d id e h.1)
descendants_between front (x ∷ between) rest d id e (inr h) = absurd (not_child (x ∷ between) rest d id e h)

together_at : (front between rest : List Character) (c d : Character)
    → AreTogether (front ++ c ∷ (between ++ d ∷ rest)) → d.origin ≡ Some c.id → AreDescendants (c ∷ []) between
together_at [] between rest c d h e = descendants_between (c ∷ []) between rest d c.id e h.0
together_at (x ∷ front) between rest c d h e = together_at front between rest c d h.1 e

smaller_behind : (between rest : List Character) (c d : Character) → HasSmaller c (between ++ d ∷ rest)
    → c.origin ≡ d.origin → is_below d.id c.id ≡ true
smaller_behind [] rest c d h e = h.0 e
smaller_behind (x ∷ between) rest c d h e = smaller_behind between rest c d h.1 e

smaller_at : (front between rest : List Character) (c d : Character)
    → HaveSmaller (front ++ c ∷ (between ++ d ∷ rest)) → c.origin ≡ d.origin → is_below d.id c.id ≡ true
smaller_at [] between rest c d h e = smaller_behind between rest c d h.0 e
smaller_at (x ∷ front) between rest c d h e = smaller_at front between rest c d h.1 e

below_has : (cs : List Character) → AreSound cs → (c : Character) → HasCharacter cs c → HasCharacter (below None cs) c
below_has cs s c h =
    let (d, k, e) = counted_found (below None cs) c.id (rw (below_has_all c.id cs s.rising s.grounded) (has_counted cs c h)) in
    rw (one_of_id cs d c (rising_once c.id cs s.rising) (has_below None cs d k) h e) at k

outside_all : (cs : List Character) → IsRising cs → AreOutside (None ∷ []) cs
outside_all cs h = record { some = λ id. omega (arith, rising_once id cs h); none = omega arith }

sound_is_walk : (cs : List Character) → AreSound cs → IsWalk cs (below None cs)
sound_is_walk cs s = record {
  members = λ c. (has_below None cs c, below_has cs s c);
  once = λ id. rw (below_has_all id cs s.rising s.grounded) (rising_once id cs s.rising);
  parents = λ front rest c origin e f. parents_in_front cs front rest c origin e f;
  together = λ front between rest c d e f. together_at front between rest c d (rw e at deep.together) f;
  falling = λ front between rest c d e f. smaller_at front between rest c d (rw e at deep.smaller) f;
}
  where
    deep : IsDeep (below None cs)
    deep = below_deep None cs s.rising (outside_all cs s.rising)

pub orderly_is_walk : (ops : List Op) (doc : ℕ) → IsOrderly ops doc → IsWalk (characters ops doc) (walk ops doc)
orderly_is_walk ops doc h = sound_is_walk (characters ops doc) (orderly_sound ops doc h)

pub orderly_walk_only : (ops : List Op) (doc : ℕ) (cs : List Character) → IsOrderly ops doc
    → IsWalk (characters ops doc) cs → cs ≡ walk ops doc
orderly_walk_only ops doc cs h k = walks_equal (characters ops doc) cs (walk ops doc) k (orderly_is_walk ops doc h)
