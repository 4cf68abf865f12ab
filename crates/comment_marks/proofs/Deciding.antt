-- A comment stands exactly where the mark operation about it that has the greatest id adds it.
use Rattle.std.proofs.Common.{◌≡◌, ℕ, Bool, true, false, ◌⊎◌, inl, inr, List, [], ◌∷◌, Option, Some, None, ap, refl, ◌∙◌, arith}
use Rattle.std.specs.Prelude.{filter_map, filter, Contains, is_some, option_and_then, IsSome}
use Rattle.std.proofs.lemmas.Bool.{cases_Bool, both_ways, eq-eqb, eqb-true}
use Rattle.std.proofs.lemmas.Bool.Decides.{nat_tests}
use Rattle.op_ids.specs.Id.{Id, is_below}
use Rattle.op_ids.proofs.IdLemmas.{below_irreflexive, below_total}
use Rattle.op_model.specs.declared.mark.MarkKey.{MarkKey}
use Rattle.op_model.specs.declared.mark.MarkKey.TheVariants as key
use Rattle.op_model.specs.declared.marking.Marking.{Marking}
use Rattle.op_model.specs.Marks.{is_key, greater, greatest}
use Rattle.op_model.specs.Spans.{comment_of, comment_ids}
use Rattle.comment_marks.specs.Greatest.{HasDistinctIds, IsGreatestAbout}
use Rattle.comment_marks.specs.Standing.{decided, deciding, standing}
use Rattle.comment_marks.proofs.Members.{Has, contains_from_has, filtered_has, has_filtered, has_from_contains, rising_has}

-- a mark operation is about a comment
abbrev is_about : ℕ → Marking → Bool
is_about id m = is_key m.key (key.Comment id)

pub key_from_test : (k : MarkKey) (id : ℕ) → is_key k (key.Comment id) ≡ true → k ≡ key.Comment id
key_from_test key.Strong id e = absurd (both_ways false refl e)
key_from_test key.Em id e = absurd (both_ways false refl e)
key_from_test key.Link id e = absurd (both_ways false refl e)
key_from_test (key.Comment a) id e = ap key.Comment (eqb-true a id e)

test_from_key : (k : MarkKey) (id : ℕ) → k ≡ key.Comment id → is_key k (key.Comment id) ≡ true
test_from_key k id e = rw e (eq-eqb id id refl)

named_or_not : (k : MarkKey) → ((a : ℕ) × (comment_of k ≡ Some a)) ⊎ (comment_of k ≡ None)
named_or_not key.Strong = inr refl
named_or_not key.Em = inr refl
named_or_not key.Link = inr refl
named_or_not (key.Comment a) = inl (a, refl)

-- a comment that a mark operation is about is named
named_by_set : (set : List Marking) (m : Marking) (id : ℕ) → Has set m → m.key ≡ key.Comment id → Has (filter_map (λ n. comment_of n.key) set) id
named_by_set [] m id h e = absurd h
named_by_set (n ∷ ns) m id (inl f) e = let same : n.key ≡ key.Comment id = ap (λ (o : Marking). o.key) f ∙ e in rw same (inl refl)
named_by_set (n ∷ ns) m id (inr h) e =
    elim (named_or_not n.key) [
      | inl q ↦ rw q.1 (inr (named_by_set ns m id h e))
      | inr none ↦ rw none (named_by_set ns m id h e)
    ]

below_turned : (a b : Id) → is_below a b ≡ true → is_below b a ≡ false
unfolding is_below
below_turned a b e = grind (arith, nat_tests)

not_below_chain : (a b c : Id) → is_below a b ≡ false → is_below b c ≡ false → is_below a c ≡ false
unfolding is_below
not_below_chain a b c e f = grind (arith, nat_tests)

pub greater_is_one : (m : Marking) (o : Option Marking) (r : Marking) → greater m o ≡ r → (m ≡ r) ⊎ (o ≡ Some r)
greater_is_one m None r e = inl e
greater_is_one m (Some n) r e = elim (cases_Bool (is_below m.id n.id)) [ inl f ↦ inr (ap Some (rw f at e)) | inr f ↦ inl (rw f at e) ]

pub greatest_has : (ms : List Marking) (r : Marking) → greatest ms ≡ Some r → Has ms r
greatest_has [] r e = let f : ⊥ = cc in f
greatest_has (m ∷ ms) r e =
    elim (greater_is_one m (greatest ms) r (let f : greater m (greatest ms) ≡ r = cc in f)) [ inl f ↦ inl f | inr f ↦ inr (greatest_has ms r f) ]

not_above_first : (m : Marking) (o : Option Marking) → is_below (greater m o).id m.id ≡ false
not_above_first m None = below_irreflexive m.id
not_above_first m (Some n) =
    elim (cases_Bool (is_below m.id n.id)) [ inl f ↦ rw f (below_turned m.id n.id f) | inr f ↦ rw f (below_irreflexive m.id) ]

not_above_rest : (m n x : Marking) → is_below n.id x.id ≡ false → is_below (greater m (Some n)).id x.id ≡ false
not_above_rest m n x e = elim (cases_Bool (is_below m.id n.id)) [ inl f ↦ rw f e | inr f ↦ rw f (not_below_chain m.id n.id x.id f e) ]

-- where there is any, there is a greatest, and none has a greater id
greatest_above : (ms : List Marking) (x : Marking) → Has ms x → (r : Marking) × (greatest ms ≡ Some r) × (is_below r.id x.id ≡ false)
greatest_above [] x h = absurd h
greatest_above (m ∷ ms) x (inl e) = (greater m (greatest ms), refl, rw (← e) (not_above_first m (greatest ms)))
greatest_above (m ∷ ms) x (inr h) =
    let (r, e, f) = greatest_above ms x h in (greater m (greatest ms), refl, rw e (not_above_rest m r x f))

added : (o : Option Marking) → is_some (option_and_then (λ (m : Marking). m.mark) o) ≡ true → (m : Marking) × (o ≡ Some m) × IsSome m.mark
added None e = absurd (both_ways false refl e)
added (Some m) e = (m, refl, e)

-- what is decided about a comment
is_decided : (set : List Marking) (id : ℕ) (m : Marking) → HasDistinctIds set → deciding set (key.Comment id) ≡ Some m → IsGreatestAbout set id m
is_decided set id m distinct e =
    let here = has_filtered (is_about id) set m (greatest_has (filter (is_about id) set) m e) in
    let member = contains_from_has set m here.0 in
    record {
      member = member;
      about = key_from_test m.key id here.1;
      greatest = λ n inside same.
          let (r, f, g) = greatest_above (filter (is_about id) set) n
          (filtered_has (is_about id) set n (has_from_contains set n inside) (test_from_key n.key id same)) in
          let one : r ≡ m = cc in
          elim (below_total n.id m.id) [
            | inl below ↦ inr below
            | inr o ↦ elim o [
              | inl equal ↦ inl (distinct n m inside member equal)
              | inr above ↦ absurd (both_ways (is_below m.id n.id) (rw one at g) above)
            ]
          ];
    }

decides : (set : List Marking) (id : ℕ) (m : Marking) → IsGreatestAbout set id m → deciding set (key.Comment id) ≡ Some m
decides set id m g =
    let (r, e, f) = greatest_above (filter (is_about id) set) m
    (filtered_has (is_about id) set m (has_from_contains set m g.member) (test_from_key m.key id g.about)) in
    let here = has_filtered (is_about id) set r (greatest_has (filter (is_about id) set) r e) in
    elim (g.greatest r (contains_from_has set r here.0) (key_from_test r.key id here.1)) [
      | inl same ↦ e ∙ ap Some same
      | inr below ↦ absurd (both_ways (is_below r.id m.id) f below)
    ]

pub standing_decided : (set : List Marking) (id : ℕ) → HasDistinctIds set → Contains (standing set) id
    → (m : Marking) × IsGreatestAbout set id m × IsSome m.mark
standing_decided set id distinct inside =
    let here = has_filtered (λ n. is_some (decided set (key.Comment n))) (comment_ids set) id (has_from_contains (standing set) id inside) in
    let (m, e, some) = added (deciding set (key.Comment id)) here.1 in
    (m, is_decided set id m distinct e, some)

pub decided_stands : (set : List Marking) (id : ℕ) (m : Marking) → IsGreatestAbout set id m → IsSome m.mark → Contains (standing set) id
decided_stands set id m g some =
    let named = rising_has (filter_map (λ n. comment_of n.key) set) id (named_by_set set m id (has_from_contains set m g.member) g.about) in
    let stands : is_some (decided set (key.Comment id)) ≡ true = rw (decides set id m g) some in
    contains_from_has (standing set) id (filtered_has (λ n. is_some (decided set (key.Comment n))) (comment_ids set) id named stands)
