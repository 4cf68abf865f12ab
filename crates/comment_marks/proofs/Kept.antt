-- What is kept of each comment is what decides it.
use Rattle.std.proofs.Common.{◌≡◌, ◌<◌, ℕ, Bool, true, false, ◌⊎◌, inl, inr, List, [], ◌∷◌, Option, Some, None, ap, refl, sym, ◌∙◌, arith}
use Rattle.std.specs.Prelude.{filter, is_some, option_and_then, option_map, ◌==◌, cond, if◌then◌else◌}
use Rattle.std.specs.BTreeMap.{insert_entry}
use Rattle.std.specs.Map.{keys_of}
use Rattle.std.specs.Ordering.{nat_cmp}
use Rattle.std.proofs.lemmas.Bool.{cases_Bool, cases_order, eq-eqb, eqb-true, ne_eqb, lt-ltb, le-ltb}
use Rattle.op_ids.specs.Id.{is_below}
use Rattle.op_model.specs.declared.mark.MarkKey.{MarkKey}
use Rattle.op_model.specs.declared.mark.MarkKey.TheVariants as key
use Rattle.op_model.specs.declared.marking.Marking.{Marking}
use Rattle.op_model.specs.Marks.{is_key, greater as greater_marking, greatest}
use Rattle.op_model.specs.Spans.{comment_of, comment_ids, with_number}
use Rattle.comment_marks.specs.declared.decisions.Decision.{Decision}
use Rattle.comment_marks.specs.Decisions.{says, greater, about, decisions, with_decision, is_added}
use Rattle.comment_marks.specs.Standing.{decided, deciding, standing}
use Rattle.op_model.proofs.QueryLemmas.{found_at}

-- one more entry is one more number
keys_with : (entries : List (ℕ × Decision)) (k : ℕ) (d : Decision) → keys_of (insert_entry nat_cmp entries k d) ≡ with_number k (keys_of entries)
keys_with [] k d = refl
keys_with (e ∷ entries) k d =
    elim (cases_order k e.0) [
      | inl same ↦ simp (le-ltb k e.0 (omega arith), eq-eqb k e.0 same) refl
      | inr o ↦ elim o [
        | inl below ↦ simp (lt-ltb k e.0 below) refl
        | inr above ↦ simp (le-ltb k e.0 (omega arith), ne_eqb k e.0 (omega arith)) (ap (λ ns. e.0 ∷ ns) (keys_with entries k d))
      ]
    ]

-- what is found behind one more entry
about_with : (id k : ℕ) (d : Decision) (entries : List (ℕ × Decision))
    → about id (insert_entry nat_cmp entries k d) ≡ cond (id == k) (Some d) (about id entries)
about_with id k d [] = rw (found_at id k) refl
about_with id k d (e ∷ entries) =
    elim (cases_order k e.0) [
      | inl same ↦ simp (le-ltb k e.0 (omega arith), eq-eqb k e.0 same, found_at id e.0) (there same)
      | inr o ↦ elim o [
        | inl below ↦ simp (lt-ltb k e.0 below, found_at id k) refl
        | inr above ↦ simp (le-ltb k e.0 (omega arith), ne_eqb k e.0 (omega arith), found_at id e.0, about_with id k d entries) (apart above)
      ]
    ]
  where
    there : k ≡ e.0 → cond (id == e.0) (Some d) (about id entries) ≡ cond (id == k) (Some d) (cond (id == e.0) (Some e.1) (about id entries))
    there same = rw same (twice (id == e.0))
      where
        twice : (t : Bool) → cond t (Some d) (about id entries) ≡ cond t (Some d) (cond t (Some e.1) (about id entries))
        twice true = refl
        twice false = refl

    apart : e.0 < k → cond (id == e.0) (Some e.1) (cond (id == k) (Some d) (about id entries))
        ≡ cond (id == k) (Some d) (cond (id == e.0) (Some e.1) (about id entries))
    apart above =
        elim (cases_Bool (id == k)) [
          | inl same ↦ (let is = eqb-true id k same in simp (same, ne_eqb id e.0 (omega (arith, is))) refl)
          | inr other ↦ simp other refl
        ]

named_or_not : (k : MarkKey) → ((a : ℕ) × (k ≡ key.Comment a)) ⊎ ((comment_of k ≡ None) × ((id : ℕ) → is_key k (key.Comment id) ≡ false))
named_or_not key.Strong = inr (refl, (λ id. refl))
named_or_not key.Em = inr (refl, (λ id. refl))
named_or_not key.Link = inr (refl, (λ id. refl))
named_or_not (key.Comment a) = inl (a, refl)

-- the comments that are kept are those that are named
kept_keys : (ms : List Marking) → keys_of (decisions ms) ≡ comment_ids ms
kept_keys [] = refl
kept_keys (m ∷ ms) =
    elim (named_or_not m.key) [
      | inl q ↦ rw q.1 (keys_with (decisions ms) q.0 (greater (says m) (about q.0 (decisions ms))) ∙ ap (with_number q.0) (kept_keys ms))
      | inr none ↦ rw none.0 (kept_keys ms)
    ]

greater_says : (m : Marking) (o : Option Marking) → greater (says m) (option_map says o) ≡ says (greater_marking m o)
greater_says m None = refl
greater_says m (Some n) = elim (cases_Bool (is_below m.id n.id)) [ inl below ↦ rw below refl | inr other ↦ rw other refl ]

abbrev with_if : Bool → Marking → List Marking → List Marking
with_if is m ms = if is then m ∷ ms else ms

-- what one more mark operation about a comment makes of what is kept of another or of the same one
kept_by_number : (m : Marking) (ms : List Marking) (id a : ℕ) → about id (decisions ms) ≡ option_map says (deciding ms (key.Comment id))
    → cond (id == a) (Some (greater (says m) (about a (decisions ms)))) (about id (decisions ms))
    ≡ option_map says (greatest (with_if (a == id) m (filter (λ n. is_key n.key (key.Comment id)) ms)))
kept_by_number m ms id a before =
    elim (cases_order id a) [
      | inl same ↦ simp (eq-eqb id a same, eq-eqb a id (sym same))
          (ap Some (ap (greater (says m)) (ap (λ n. about n (decisions ms)) (sym same) ∙ before) ∙ greater_says m (deciding ms (key.Comment id))))
      | inr o ↦ elim o [
        | inl below ↦ simp (ne_eqb id a (omega arith), ne_eqb a id (omega arith)) before
        | inr above ↦ simp (ne_eqb id a (omega arith), ne_eqb a id (omega arith)) before
      ]
    ]

-- what is kept of a comment is what its deciding mark operation says
kept_about : (ms : List Marking) (id : ℕ) → about id (decisions ms) ≡ option_map says (deciding ms (key.Comment id))
kept_about [] id = refl
kept_about (m ∷ ms) id =
    elim (named_or_not m.key) [
      | inl q ↦
          ap (λ k. about id (with_decision (comment_of k) (says m) (decisions ms))) q.1
          ∙ about_with id q.0 (greater (says m) (about q.0 (decisions ms))) (decisions ms)
          ∙ kept_by_number m ms id q.0 (kept_about ms id)
          ∙ sym (ap (λ k. option_map says (greatest (with_if (is_key k (key.Comment id)) m (filter (λ n. is_key n.key (key.Comment id)) ms)))) q.1)
      | inr none ↦ simp (none.0, none.1 id) (kept_about ms id)
    ]

says_added : (o : Option Marking) → is_added (option_map says o) ≡ is_some (option_and_then (λ (m : Marking). m.mark) o)
says_added None = refl
says_added (Some m) = refl

filter_alike : (p q : ℕ → Bool) (ns : List ℕ) → ((n : ℕ) → p n ≡ q n) → filter p ns ≡ filter q ns
filter_alike p q [] alike = refl
filter_alike p q (n ∷ ns) alike =
    elim (cases_Bool (q n)) [
      | inl kept ↦ simp (alike n, kept) (ap (λ l. n ∷ l) (filter_alike p q ns alike))
      | inr left ↦ simp (alike n, left) (filter_alike p q ns alike)
    ]

-- those that are added are those that stand
pub added_stand : (ms : List Marking) → filter (λ id. is_added (about id (decisions ms))) (keys_of (decisions ms)) ≡ standing ms
added_stand ms =
    filter_alike (λ id. is_added (about id (decisions ms))) (λ id. is_some (decided ms (key.Comment id))) (keys_of (decisions ms))
    (λ id. ap is_added (kept_about ms id) ∙ says_added (deciding ms (key.Comment id)))
    ∙ ap (filter (λ id. is_some (decided ms (key.Comment id)))) (kept_keys ms)
