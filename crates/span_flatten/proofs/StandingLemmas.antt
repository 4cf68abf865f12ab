-- The comments that are kept are those that stand.
use Rattle.std.proofs.Common.{◌≡◌, ℕ, ◌<◌, ◌==◌, Bool, true, false, ◌&&◌, ◌⊎◌, inl, inr, List, [], ◌∷◌, None, refl, sym, ◌∙◌, ap, arith}
use Rattle.std.specs.Prelude.{filter, filter_map, is_some, option_and_then}
use Rattle.std.specs.List.{AllByRecursion, list_any}
use Rattle.std.specs.List.Sorted.{IsStrictlySortedBy}
use Rattle.std.specs.BTreeMap.{is_at}
use Rattle.std.specs.BTreeSet.{contains, IsOrdered}
use Rattle.std.specs.Ordering.{nat_cmp}
use Rattle.std.specs.declared.cmp.Ordering.TheVariants.{Less, Equal, Greater}
use Rattle.std.proofs.lemmas.Bool.{cases_Bool, cases_order, eq-eqb, ne_eqb, le-ltb, true≢false}
use Rattle.op_model.specs.declared.mark.MarkKey.{MarkKey}
use Rattle.op_model.specs.declared.mark.MarkKey.TheVariants as key
use Rattle.op_model.specs.declared.marking.Marking.{Marking}
use Rattle.op_model.specs.Marks.{is_key, greatest}
use Rattle.op_model.specs.Spans.{comment_ids, comment_of}
use Rattle.op_model.specs.Rising.{AllOver, IsUp}
use Rattle.op_model.proofs.RisingLemmas.{rising_up}
use Rattle.model_laws.proofs.Up.{has, has-filter, has-rising, same_members, up_filter}
use Rattle.comment_marks.specs.Standing.{decided, standing}
use Rattle.span_flatten.specs.declared.discussed.Discussed.{Discussed}
use Rattle.span_flatten.specs.Deciding.{AreDiscussed}
use Rattle.span_flatten.specs.Picking.{picked}
use Rattle.op_model.proofs.QueryLemmas.{found_from}

contains_has : (ns : List ℕ) (n : ℕ) → list_any (is_at (nat_cmp n)) ns ≡ has n ns
contains_has [] n = refl
contains_has (m ∷ ns) n = rw (found_from n m, contains_has ns n) refl

less_first : (a b : ℕ) → nat_cmp a b ≡ Less → a < b
less_first a b h =
    elim (cases_order a b) [
      | inl same ↦ absurd (not_less (sym h ∙ simp (le-ltb a b (omega arith), eq-eqb a b same) refl))
      | inr o ↦ elim o [
        | inl below ↦ below
        | inr above ↦ absurd (not_less_too (sym h ∙ simp (le-ltb a b (omega arith), ne_eqb a b (omega arith)) refl))
      ]
    ]
  where
    not_less : Less ≡ Equal → ⊥
    not_less e = cc

    not_less_too : Less ≡ Greater → ⊥
    not_less_too e = cc

over_all : (n : ℕ) (ns : List ℕ) → AllByRecursion (λ m. nat_cmp n m ≡ Less) ns → AllOver n ns
over_all n [] all = tt
over_all n (m ∷ ns) all = (less_first n m all.0, over_all n ns all.1)

up_keys : (ns : List ℕ) → IsStrictlySortedBy nat_cmp ns → IsUp ns
unfolding IsStrictlySortedBy
up_keys [] sorted = tt
up_keys (n ∷ ns) sorted = (over_all n ns sorted.0, up_keys ns sorted.1)

named_or_not : (k : MarkKey) → ((a : ℕ) × (k ≡ key.Comment a)) ⊎ ((comment_of k ≡ None) × ((id : ℕ) → is_key k (key.Comment id) ≡ false))
named_or_not key.Strong = inr (refl, (λ id. refl))
named_or_not key.Em = inr (refl, (λ id. refl))
named_or_not key.Link = inr (refl, (λ id. refl))
named_or_not (key.Comment a) = inl (a, refl)

-- where no mark operation names a comment, none is about it
none_about : (set : List Marking) (id : ℕ) → has id (filter_map (λ m. comment_of m.key) set) ≡ false
    → filter (λ m. is_key m.key (key.Comment id)) set ≡ []
none_about [] id none = refl
none_about (m ∷ set) id none =
    elim (named_or_not m.key) [
      | inl q ↦ elim (cases_Bool (q.0 == id)) [
        | inl here ↦ absurd (true≢false (rw (q.1, here) at none))
        | inr other ↦ rw (q.1, other) (none_about set id (rw (q.1, other) at none))
      ]
      | inr q ↦ rw (q.1 id) (none_about set id (rw q.0 at none))
    ]

-- what stands is named
stands_named : (set : List Marking) (id : ℕ) → (is_some (decided set (key.Comment id)) && has id (comment_ids set)) ≡ is_some (decided set (key.Comment id))
stands_named set id =
    elim (cases_Bool (has id (filter_map (λ m. comment_of m.key) set))) [
      | inl named ↦ rw (has-rising id (filter_map (λ m. comment_of m.key) set), named) (and_true (is_some (decided set (key.Comment id))))
      | inr none ↦ (let nothing : is_some (decided set (key.Comment id)) ≡ false =
          ap (λ ms. is_some (option_and_then (λ (m : Marking). m.mark) (greatest ms))) (none_about set id none) in rw nothing refl)
    ]
  where
    and_true : (a : Bool) → (a && true) ≡ a
    and_true true = refl
    and_true false = refl

-- the comments that stand rise
pub up_standing : (set : List Marking) → IsUp (standing set)
up_standing set =
    up_filter (λ id. is_some (decided set (key.Comment id))) (comment_ids set) (rising_up (filter_map (λ m. comment_of m.key) set))

-- a comment that stands is one of them
pub has_standing : (d : Discussed) (ms : List Marking) (set : List ℕ) → AreDiscussed d ms set
    → (id : ℕ) → contains nat_cmp d.standing id ≡ has id (standing (picked ms set))
has_standing d ms set are id =
    are.standing id ∙ sym (has-filter (λ n. is_some (decided (picked ms set) (key.Comment n))) id (comment_ids (picked ms set))
    ∙ stands_named (picked ms set) id)

pub standing_keys : (d : Discussed) (ms : List Marking) (set : List ℕ) → IsOrdered nat_cmp d.standing → AreDiscussed d ms set
    → d.standing.keys ≡ standing (picked ms set)
standing_keys d ms set ordered are =
    same_members d.standing.keys (standing (picked ms set)) (up_keys d.standing.keys ordered) (up_standing (picked ms set))
    (λ id. sym (contains_has d.standing.keys id) ∙ has_standing d ms set are id)
