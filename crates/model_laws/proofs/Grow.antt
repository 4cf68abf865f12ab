-- What one more operation does to the characters of a document.
use Rattle.std.proofs.Common.{◌≡◌, suc, ◌≤◌, Bool, true, false, ◌||◌, inl, inr, List, [], ◌∷◌, Option, Some, None, arith, ap, refl, ◌∙◌}
use Rattle.std.proofs.lemmas.Bool.{cases_Bool, both_ways, or_parts, or_right}
use Rattle.op_ids.specs.Id.{Id, is_below, is_same}
use Rattle.op_model.specs.declared.character.Character.{Character}
use Rattle.op_model.specs.Characters.{in_order}
use Rattle.op_model.specs.Walk.{below, is_parent, times}
use Rattle.op_model.specs.Placing.{has_id, behind, behind_origin}
use Rattle.model_laws.proofs.Ids.{below_chain, below_other, below_turned, same_swapped, same_equal}
use Rattle.model_laws.proofs.Put.{AllAbove, AllAbove-chain, IsRising, HasNoChild, IsOriginBelow, put, put_below, below_placed}
use Rattle.model_laws.proofs.Count.{IsAmong, AreGrounded, below_has_all, rising_once}

or_swapped : (a b c : Bool) → (a || (b || c)) ≡ (b || (a || c))
or_swapped true true c = refl
or_swapped true false c = refl
or_swapped false true c = refl
or_swapped false false c = refl

not_below_twice : (a b c : Id) → is_below a c ≡ true → is_below b c ≡ false → is_below b a ≡ false
not_below_twice a b c e f = elim (cases_Bool (is_below b a)) [ inl g ↦ let k : is_below b c ≡ true = below_chain b a c g e in cc | inr g ↦ g ]

in_order_first : (a b : Character) (cs : List Character) → is_below a.id b.id ≡ true
    → in_order a (b ∷ cs) ≡ a ∷ b ∷ cs
in_order_first a b cs e = rw e

in_order_later : (a b : Character) (cs : List Character) → is_below a.id b.id ≡ false
    → in_order a (b ∷ cs) ≡ b ∷ in_order a cs
in_order_later a b cs e = rw e

-- the order in which two characters come doesn't matter
pub in_order_swapped : (a b : Character) (cs : List Character) → is_same a.id b.id ≡ false
    → in_order a (in_order b cs) ≡ in_order b (in_order a cs)
in_order_swapped a b [] d =
    elim (cases_Bool (is_below a.id b.id)) [
      | inl e ↦ rw (e, below_turned a.id b.id e) refl
      | inr e ↦ rw (e, below_other a.id b.id e d) refl
    ]
in_order_swapped a b (c ∷ cs) d =
    elim (cases_Bool (is_below a.id c.id)) [
      | inl e ↦ elim (cases_Bool (is_below b.id c.id)) [
        | inl f ↦ rw (e, f) (elim (cases_Bool (is_below a.id b.id)) [
          | inl g ↦ rw (g, below_turned a.id b.id g) refl
          | inr g ↦ rw (g, below_other a.id b.id g d, e) refl
        ])
        | inr f ↦ rw (e, f) (rw (e, not_below_twice a.id b.id c.id e f) refl)
      ]
      | inr e ↦ elim (cases_Bool (is_below b.id c.id)) [
        | inl f ↦ rw (e, f) (rw (not_below_twice b.id a.id c.id f e, e) refl)
        | inr f ↦ rw (e, f) (rw e (ap (λ x. c ∷ x) (in_order_swapped a b cs d)))
      ]
    ]

pub AllAbove-in_order : (id : Id) (n : Character) (cs : List Character) → is_below id n.id ≡ true → AllAbove id cs
    → AllAbove id (in_order n cs)
AllAbove-in_order id n [] e h = (e, tt)
AllAbove-in_order id n (c ∷ cs) e h =
    elim (cases_Bool (is_below n.id c.id)) [
      | inl f ↦ rw f (e, h)
      | inr f ↦ rw f (h.0, AllAbove-in_order id n cs e h.1)
    ]

pub IsRising-in_order : (n : Character) (cs : List Character) → has_id cs n.id ≡ false → IsRising cs
    → IsRising (in_order n cs)
IsRising-in_order n [] k h = (tt, tt)
IsRising-in_order n (c ∷ cs) k h =
    elim (cases_Bool (is_below n.id c.id)) [
      | inl f ↦ rw f ((f, AllAbove-chain n.id c.id cs f h.0), h)
      | inr f ↦ rw f (
        AllAbove-in_order c.id n cs (below_other n.id c.id f (same_swapped n.id c.id ∙ (or_parts (is_same c.id n.id) (has_id cs n.id) k).0)) h.0,
        IsRising-in_order n cs (or_parts (is_same c.id n.id) (has_id cs n.id) k).1 h.1,
      )
    ]

pub has_id-in_order : (n : Character) (cs : List Character) (id : Id)
    → has_id (in_order n cs) id ≡ (is_same n.id id || has_id cs id)
has_id-in_order n [] id = refl
has_id-in_order n (c ∷ cs) id =
    elim (cases_Bool (is_below n.id c.id)) [
      | inl f ↦ rw f refl
      | inr f ↦ rw (f, has_id-in_order n cs id) (or_swapped (is_same c.id id) (is_same n.id id) (has_id cs id))
    ]

pub has_id-more : (n : Character) (cs : List Character) (id : Id) → has_id cs id ≡ true
    → has_id (in_order n cs) id ≡ true
has_id-more n cs id e = rw (has_id-in_order n cs id, e) (or_right (is_same n.id id) true refl)

IsAmong-more : (n : Character) (all : List Character) (id : Id) (origin : Option Id) → IsAmong all id origin
    → IsAmong (in_order n all) id origin
IsAmong-more n all id None g = tt
IsAmong-more n all id (Some o) g = (has_id-more n all o g.0, g.1)

AreGrounded-more : (n : Character) (all cs : List Character) → AreGrounded all cs → AreGrounded (in_order n all) cs
AreGrounded-more n all [] h = tt
AreGrounded-more n all (c ∷ cs) h = (IsAmong-more n all c.id c.origin h.0, AreGrounded-more n all cs h.1)

AreGrounded-in_order : (all : List Character) (n : Character) (cs : List Character) → IsAmong all n.id n.origin
    → AreGrounded all cs → AreGrounded all (in_order n cs)
AreGrounded-in_order all n [] g h = (g, tt)
AreGrounded-in_order all n (c ∷ cs) g h =
    elim (cases_Bool (is_below n.id c.id)) [
      | inl f ↦ rw f (g, h)
      | inr f ↦ rw f (h.0, AreGrounded-in_order all n cs g h.1)
    ]

-- the inserts of a document as they should be: each id once, origins among them, and smaller
pub record AreSound (cs : List Character) : Type 0 where
  pub rising : IsRising cs
  pub grounded : AreGrounded cs cs

pub AreSound-in_order : (n : Character) (cs : List Character) → has_id cs n.id ≡ false → IsAmong cs n.id n.origin
    → AreSound cs → AreSound (in_order n cs)
AreSound-in_order n cs k g s = record {
  rising = IsRising-in_order n cs k s.rising;
  grounded = AreGrounded-in_order (in_order n cs) n cs (IsAmong-more n cs n.id n.origin g) (AreGrounded-more n cs cs s.grounded);
}

-- an id that is not among the inserts has no children among them
no_parent : (all : List Character) (id low : Id) (origin : Option Id) → has_id all id ≡ false → IsAmong all low origin
    → is_parent (Some id) origin ≡ false
no_parent all id low None k g = refl
no_parent all id low (Some o) k g =
    elim (cases_Bool (is_same id o)) [
      | inl e ↦ absurd (both_ways (has_id all o) (rw (same_equal id o e) at k) g.0)
      | inr e ↦ e
    ]

HasNoChild-from : (all : List Character) (id : Id) (cs : List Character) → has_id all id ≡ false → AreGrounded all cs
    → HasNoChild id cs
HasNoChild-from all id [] k h = tt
HasNoChild-from all id (c ∷ cs) k h = (no_parent all id c.id c.origin k h.0, HasNoChild-from all id cs k h.1)

put_zero : (o : Id) (n : Character) (ds : List Character) → times o ds ≡ 0 → put (Some o) n ds ≡ ds
put_zero o n [] z = refl
put_zero o n (d ∷ ds) z =
    elim (cases_Bool (is_same d.id o)) [
      | inl e ↦ let w : suc (times o ds) ≡ 0 = omega (arith, rw e at z) in absurd (omega arith)
      | inr e ↦ rw (e, put_zero o n ds (omega (arith, rw e at z))) refl
    ]

put_once : (o : Id) (n : Character) (ds : List Character) → times o ds ≤ 1 → put (Some o) n ds ≡ behind o n ds
put_once o n [] z = refl
put_once o n (d ∷ ds) z =
    elim (cases_Bool (is_same d.id o)) [
      | inl e ↦ rw (e, put_zero o n ds (omega (arith, rw e at z))) refl
      | inr e ↦ rw (e, put_once o n ds (omega (arith, rw e at z))) refl
    ]

put_none : (n : Character) (ds : List Character) → put None n ds ≡ ds
put_none n [] = refl
put_none n (d ∷ ds) = ap (λ x. d ∷ x) (put_none n ds)

pub is_origin_below : (all : List Character) (id : Id) (origin : Option Id) → IsAmong all id origin
    → IsOriginBelow origin id
is_origin_below all id None g = tt
is_origin_below all id (Some o) g = g.1

put_is_placed : (n : Character) (origin : Option Id) (cs : List Character) → AreSound cs
    → put_below None origin n (below None cs) ≡ behind_origin origin n (below None cs)
put_is_placed n None cs s = rw (put_none n (below None cs)) refl
put_is_placed n (Some o) cs s = put_once o n (below None cs) (rw (below_has_all o cs s.rising s.grounded) (rising_once o cs s.rising))

-- the walk with one more character is the walk before it with that character placed
pub walk_placed : (n : Character) (cs : List Character) → has_id cs n.id ≡ false → IsAmong cs n.id n.origin
    → AreSound cs → below None (in_order n cs) ≡ behind_origin n.origin n (below None cs)
walk_placed n cs k g s =
    below_placed n cs (is_origin_below cs n.id n.origin g) s.rising (HasNoChild-from cs n.id cs k s.grounded) None
    ∙ put_is_placed n n.origin cs s
