-- The place of a token in lists that are joined, changed at an index, or sorted.
use Rattle.std.proofs.Common.{◌≡◌, ◌≢◌, ℕ, zero, suc, ◌<◌, ◌≤◌, true, false, inl, inr}
use Rattle.std.proofs.Common.{List, [], ◌∷◌, ◌++◌, length, get_or, take, filter, nat_lt, Equal, Bool, Bor}
use Rattle.std.proofs.Common.{Some, None, ap, refl, sym, ◌∙◌, arith, ◌==◌}
use Rattle.std.specs.BTreeMap.{is_at}
use Rattle.std.specs.List.{slice_get}
use Rattle.std.specs.List.Sorted.{ties, IsPartitionPoint, IsStableByKey, IsPartitionedBy}
use Rattle.std.specs.Option.{option_or}
use Rattle.std.specs.Ordering.{is_lt, nat_cmp}
use Rattle.std.specs.Prelude.{slice_set, not, ◌&&◌}
use Rattle.std.proofs.lemmas.Bool.{cases_Bool, cases_order, eq-eqb, eqb-true, eqb-false, ne_eqb, le-ltb, ltb-true, ltb-false}
use Rattle.std.proofs.lemmas.List.{get_or-take, length-take-le}
use Rattle.std.proofs.lemmas.Option.{cond_some, none-some}
use Rattle.std.proofs.lemmas.Map.Entries.{lookup-filter-keys}
use Rattle.edit_tokens.specs.declared.place.Place.{Place}
use Rattle.edit_tokens.specs.Places.{place_of, AreSorted, FindsAlike, IsFirst, Puts}
use Rattle.op_model.proofs.QueryLemmas.{found_at}
use Rattle.std.specs.Fn.{Called, ComputesKey}
use denote.Param.Members.{Mut}
use Rattle.std.proofs.lemmas.List.Sorted.{IsPartitionPoint-from_clause, IsPartitionedBy-ltb}

-- of two lists the first counts
pub place_append : (xs ys : List (ℕ × Place)) (t : ℕ) → place_of (xs ++ ys) t ≡ option_or (place_of xs t) (place_of ys t)
place_append [] ys t = refl
place_append (e ∷ es) ys t = elim (cases_Bool (is_at (nat_cmp t) e.0)) [
  | inl here ↦ rw here refl
  | inr other ↦ rw other (place_append es ys t)
]

-- a place that changes in the first list
pub puts_front : (xs new ys : List (ℕ × Place)) (t : ℕ) (p : Place) → Puts (Some t) (Some p) xs new → Puts (Some t) (Some p) (xs ++ ys) (new ++ ys)
puts_front xs new ys t p puts = λ other. elim (cases_Bool (t == other)) [
  | inl same ↦ place_append new ys other ∙ rw (puts other, same) refl
  | inr differs ↦ place_append new ys other ∙ rw (puts other, differs) (sym (place_append xs ys other))
]

-- and in the second, where the first has none
pub puts_behind : (xs ys new : List (ℕ × Place)) (t : ℕ) (p : Place) → place_of xs t ≡ None → Puts (Some t) (Some p) ys new
    → Puts (Some t) (Some p) (xs ++ ys) (xs ++ new)
puts_behind xs ys new t p none puts = λ other. elim (cases_Bool (t == other)) [
  | inl same ↦
      let is : t ≡ other = eqb-true t other same in
      place_append xs new other ∙ rw (puts other, same, ← is, none) refl
  | inr differs ↦ place_append xs new other ∙ rw (puts other, differs) (sym (place_append xs ys other))
]

-- and one that is taken out of both
pub puts_out : (xs newer ys new : List (ℕ × Place)) (t : ℕ) → Puts (Some t) None xs newer → Puts (Some t) None ys new
    → Puts (Some t) None (xs ++ ys) (newer ++ new)
puts_out xs newer ys new t first second = λ other. elim (cases_Bool (t == other)) [
  | inl same ↦ place_append newer new other ∙ rw (first other, second other, same) refl
  | inr differs ↦ place_append newer new other ∙ rw (first other, second other, differs) (sym (place_append xs ys other))
]

-- the entry at an index
pub entry_at : (es : List (ℕ × Place)) (i : ℕ) (e : ℕ × Place) → i < length es → e ≡ get_or es i e → slice_get es i ≡ Some e
entry_at [] i e here is = absurd (omega arith)
entry_at (x ∷ xs) zero e here is = let same : e ≡ x = is in rw same refl
entry_at (x ∷ xs) (suc i) e here is = entry_at xs i e (omega arith) is

pub at_entry : (es : List (ℕ × Place)) (i : ℕ) (e d : ℕ × Place) → slice_get es i ≡ Some e → get_or es i d ≡ e
at_entry [] i e d is = absurd (none-some e is)
at_entry (x ∷ xs) zero e d is = (cond_some true x e is).1
at_entry (x ∷ xs) (suc i) e d is = at_entry xs i e d is

-- the first index of a token has its place
pub first_found : (es : List (ℕ × Place)) (t i : ℕ) (p : Place) → slice_get es i ≡ Some (t, p) → place_of (take i es) t ≡ None → place_of es t ≡ Some p
first_found [] t i p here before = absurd (none-some (t, p) here)
first_found (e ∷ es) t zero p here before =
    let is : e ≡ (t, p) = (cond_some true e (t, p) here).1 in
    rw (is, found_at t t, eq-eqb t t refl) refl
first_found (e ∷ es) t (suc i) p here before = elim (cases_Bool (is_at (nat_cmp t) e.0)) [
  | inl found ↦ absurd (none-some e.1 (sym (rw found at before)))
  | inr other ↦ rw other (first_found es t i p here (rw other at before))
]

-- and a write there changes the place of this token alone
pub first_written : (es : List (ℕ × Place)) (t i : ℕ) (old new : Place) → slice_get es i ≡ Some (t, old) → place_of (take i es) t ≡ None
    → Puts (Some t) (Some new) es (slice_set es i (t, new))
first_written [] t i old new here before = absurd (none-some (t, old) here)
first_written (e ∷ es) t zero old new here before = λ other.
    let is : e ≡ (t, old) = (cond_some true e (t, old) here).1 in
    elim (cases_Bool (t == other)) [
      | inl same ↦ let at : t ≡ other = eqb-true t other same in rw (is, found_at other t, eq-eqb other t (sym at), same) refl
      | inr differs ↦ let at : other ≢ t = λ it. eqb-false t other differs (sym it) in rw (is, found_at other t, ne_eqb other t at, differs) refl
    ]
first_written (e ∷ es) t (suc i) old new here before = λ other.
    elim (cases_Bool (is_at (nat_cmp t) e.0)) [
      | inl found ↦ absurd (none-some e.1 (sym (rw found at before)))
      | inr not_here ↦
          let rest = first_written es t i old new here (rw not_here at before) other in
          elim (cases_Bool (is_at (nat_cmp other) e.0)) [
            | inl found ↦
                let is : other ≡ e.0 = eqb-true other e.0 (sym (found_at other e.0) ∙ found) in
                let differs : (t == other) ≡ false = rw is (sym (found_at t e.0) ∙ not_here) in
                rw (found, differs) refl
            | inr none ↦ rw none rest
          ]
    ]

-- a token that no index has
pub nowhere : (es : List (ℕ × Place)) (t : ℕ) → ((k : ℕ) (d : ℕ × Place) → k < length es → (get_or es k d).0 ≢ t) → place_of es t ≡ None
nowhere [] t differs = refl
nowhere (e ∷ es) t differs =
    let other : t ≢ e.0 = λ same. differs 0 e (omega arith) (sym same) in
    rw (found_at t e.0, ne_eqb t e.0 other) (nowhere es t (λ k d here. differs (suc k) d (omega arith)))

-- where a search by halves for a token ends
pub point_found : {F : Type 0} {g : Mut F (Bor (ℕ × Place) × Unit {0}) Bool} {f : F} (es read : List (ℕ × Place)) (t i : ℕ) → read ≡ es → AreSorted es
    → ((q : ℕ × Place → Bool) → ComputesKey g q f → IsPartitionedBy q read → IsPartitionPoint (λ y. q y ≡ true) (λ y. q y ≡ false) read i)
    → ((a : Bor (ℕ × Place) × Unit {0}) (r : Bool) (f' : F) → Called g f a r f' → (r ≡ nat_lt a.0.now.0 t) × (f' ≡ f))
    → IsPartitionPoint (λ (x : ℕ × Place). nat_lt x.0 t ≡ true) (λ (x : ℕ × Place). nat_lt x.0 t ≡ false) es i
point_found es read t i is sorted clause calls =
    rw is at (IsPartitionPoint-from_clause (λ (e : ℕ × Place). nat_lt e.0 t) read i clause (rw is (IsPartitionedBy-ltb (λ (e : ℕ × Place). e.0) es t sorted)) calls)

-- the first token that isn't below another one, among such that rise
pub index_first : (es : List (ℕ × Place)) (t i : ℕ) (e : ℕ × Place) → IsPartitionPoint (λ (x : ℕ × Place). nat_lt x.0 t ≡ true) (λ (x : ℕ × Place). nat_lt x.0 t ≡ false) es i
    → i < length es → e ≡ get_or es i e → e.0 ≡ t → IsFirst es t i
index_first es t i e point here is at = record {
  place = e.1;
  here = entry_at es i e here is ∙ ap (λ n. Some (n, e.1)) at;
  before = nowhere (take i es) t (λ k d below.
      let many : length (take i es) ≡ i = length-take-le i es (omega arith) in
      let less : (get_or es k d).0 < t = ltb-true (get_or es k d).0 t (point.0 k d (omega arith) (omega arith)) in
      λ same. let is_it : (get_or es k d).0 ≡ t = rw (get_or-take i es k d (omega arith)) at same in absurd (omega arith));
}

pub any_default : (es : List (ℕ × Place)) (i : ℕ) (d e : ℕ × Place) → i < length es → get_or es i d ≡ get_or es i e
any_default [] i d e here = absurd (omega arith)
any_default (x ∷ xs) zero d e here = refl
any_default (x ∷ xs) (suc i) d e here = any_default xs i d e (omega arith)

not_from : (es : List (ℕ × Place)) (t i : ℕ) → IsPartitionPoint (λ (x : ℕ × Place). nat_lt x.0 t ≡ true) (λ (x : ℕ × Place). nat_lt x.0 t ≡ false) es i
    → AreSorted es → ((e : ℕ × Place) → i < length es → e ≡ get_or es i e → e.0 ≢ t) → (k : ℕ) (d : ℕ × Place) → i ≤ k → k < length es → (get_or es k d).0 ≢ t
not_from es t i point up differs k d from here = λ is.
    let first : t ≤ (get_or es i d).0 = ltb-false (get_or es i d).0 t (point.1 i d (omega arith) (omega arith)) in
    let rise : (get_or es i d).0 ≤ (get_or es k d).0 = up i k d from here in
    differs (get_or es i d) (omega arith) (any_default es i d (get_or es i d) (omega arith)) (omega arith)

pub index_none : (es : List (ℕ × Place)) (t i : ℕ) → IsPartitionPoint (λ (x : ℕ × Place). nat_lt x.0 t ≡ true) (λ (x : ℕ × Place). nat_lt x.0 t ≡ false) es i
    → AreSorted es → ((e : ℕ × Place) → i < length es → e ≡ get_or es i e → e.0 ≢ t) → place_of es t ≡ None
index_none es t i point up differs = nowhere es t (λ k d here. elim (cases_order k i) [
  | inl same ↦ not_from es t i point up differs k d (omega arith) here
  | inr o ↦ elim o [
    | inl below ↦ λ is. let less : (get_or es k d).0 < t = ltb-true (get_or es k d).0 t (point.0 k d (omega arith) below) in absurd (omega arith)
    | inr above ↦ not_from es t i point up differs k d (omega arith) here
  ]
])

-- sorting stably leaves what is found
is_at_self : (k : ℕ) → nat_cmp k k ≡ Equal
is_at_self k = simp (le-ltb k k (omega arith), eq-eqb k k refl) refl

tied_here : (t k : ℕ) → is_at (nat_cmp t) k ≡ true → (not (is_lt (nat_cmp t k)) && not (is_lt (nat_cmp k t))) ≡ true
tied_here t k found =
    let is : t ≡ k = eqb-true t k (sym (found_at t k) ∙ found) in
    rw (is, is_at_self k) refl

found_tied : (t : ℕ) (d : Place) (es : List (ℕ × Place))
    → place_of (filter (ties (λ (x y : ℕ × Place). is_lt (nat_cmp x.0 y.0)) (t, d)) es) t ≡ place_of es t
found_tied t d es = lookup-filter-keys (is_at (nat_cmp t)) (λ k. not (is_lt (nat_cmp t k)) && not (is_lt (nat_cmp k t))) true (tied_here t) es

pub stable_alike : (xs ys : List (ℕ × Place)) → IsStableByKey (λ (e : ℕ × Place). e.0) nat_cmp xs ys → FindsAlike xs ys
stable_alike xs ys stable = λ t.
    let d : Place = record { end = 0; rev = 0 } in
    sym (found_tied t d ys) ∙ (ap (λ (es : List (ℕ × Place)). place_of es t) (stable (t, d)) ∙ found_tied t d xs)

-- a token that is filtered out
pub kept_out : (t : ℕ) (es : List (ℕ × Place)) → Puts (Some t) None es (filter (λ (e : ℕ × Place). not (e.0 == t)) es)
kept_out t es = λ other. elim (cases_Bool (t == other)) [
  | inl same ↦
      let is : t ≡ other = eqb-true t other same in
      rw same (lookup-filter-keys (is_at (nat_cmp other)) (λ k. not (k == t)) false (λ k found.
      let at : other ≡ k = eqb-true other k (sym (found_at other k) ∙ found) in
      rw (eq-eqb k t (sym at ∙ sym is)) refl) es)
  | inr differs ↦
      let is : t ≢ other = eqb-false t other differs in
      rw differs (lookup-filter-keys (is_at (nat_cmp other)) (λ k. not (k == t)) true (λ k found.
      let at : other ≡ k = eqb-true other k (sym (found_at other k) ∙ found) in
      rw (ne_eqb k t (λ it. is (sym it ∙ sym at))) refl) es)
]

-- one that isn't there
pub puts_none : (t : ℕ) (es : List (ℕ × Place)) → place_of es t ≡ None → Puts (Some t) None es es
puts_none t es none = λ other. elim (cases_Bool (t == other)) [
  | inl same ↦ rw same (rw (eqb-true t other same) at none)
  | inr differs ↦ rw differs refl
]
