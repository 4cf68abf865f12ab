-- Flags, and the indexes of those that are set.
use Rattle.std.proofs.Common.{◌≡◌, ◌≢◌, ℕ, zero, suc, ◌+◌, ◌<◌, ◌≤◌, ◌==◌, Bool, true, false, not, ◌&&◌, ◌||◌, nat_lt, inl, inr, List, [], ◌∷◌}
use Rattle.std.proofs.Common.{length, get_or, replicate, set, refl, sym, ◌∙◌, ap, arith, get_or-set_other, get_or-set_same}
use Rattle.std.specs.Prelude.{filter}
use Rattle.std.proofs.lemmas.Bool.{cases_order, cases_lt, eq-eqb, ne_eqb, lt-ltb, le-ltb, both_ways}
use Rattle.op_model.specs.Spans.{with_number}
use Rattle.op_model.specs.Rising.{IsUp}
use Rattle.op_model.proofs.RisingLemmas.{up_with}
use Rattle.model_laws.proofs.Up.{has, has-filter, has-with, same_members, up_filter}
use Rattle.span_flatten.specs.declared.active.Active.{Active}
use Rattle.span_flatten.specs.Sweeping.{flagged, indexes, passes, IsActive}
use Rattle.span_flatten.proofs.ActiveLemmas.{and_false, flag_kept, flag_set, past_end}
use Rattle.span_flatten.proofs.IndexLemmas.{has_indexes, up_indexes}

flag_at : (flags : List Bool) (j : ℕ) → passes (λ f. f) flags j ≡ get_or flags j false
flag_at [] j = refl
flag_at (f ∷ flags) zero = refl
flag_at (f ∷ flags) (suc j) = flag_at flags j

pub has_flagged : (flags : List Bool) (j : ℕ) → has j (flagged flags) ≡ get_or flags j false
has_flagged flags j = let same : 0 + j ≡ j = omega arith in rw same at (has_indexes (λ f. f) 0 flags j) ∙ flag_at flags j

pub up_flagged : (flags : List Bool) → IsUp (flagged flags)
up_flagged flags = up_indexes (λ f. f) 0 flags

unset_past : (flags : List Bool) (i : ℕ) → length flags ≤ i → get_or flags i false ≡ false
unset_past [] i past = refl
unset_past (f ∷ flags) zero past = absurd (omega arith)
unset_past (f ∷ flags) (suc i) past = unset_past flags i (omega arith)

pub set_past : (flags : List Bool) (i : ℕ) (f : Bool) → length flags ≤ i → set flags i f ≡ flags
set_past [] i f past = refl
set_past (g ∷ flags) zero f past = absurd (omega arith)
set_past (g ∷ flags) (suc i) f past = ap (λ rest. g ∷ rest) (set_past flags i f (omega arith))

-- one more flag is set
pub flagged_with : (flags : List Bool) (i : ℕ) → i < length flags → flagged (set flags i true) ≡ with_number i (flagged flags)
flagged_with flags i within =
    same_members (flagged (set flags i true)) (with_number i (flagged flags)) (up_flagged (set flags i true)) (up_with i (flagged flags) (up_flagged flags))
    (λ j. has_flagged (set flags i true) j ∙ (at j ∙ sym (has-with j i (flagged flags) ∙ ap (λ b. (i == j) || b) (has_flagged flags j))))
  where
    at : (j : ℕ) → get_or (set flags i true) j false ≡ ((i == j) || get_or flags j false)
    at j =
        elim (cases_order i j) [
          | inl same ↦ rw (← same, eq-eqb i i refl) (get_or-set_same flags i true false within)
          | inr o ↦ let apart : (i == j) ≡ false = elim o [ inl l ↦ ne_eqb i j (omega arith) | inr l ↦ ne_eqb i j (omega arith) ] in
              let ne : j ≢ i = elim o [ inl l ↦ omega arith | inr l ↦ omega arith ] in
              rw apart (get_or-set_other flags i j true false ne)
        ]

-- one flag less is set
pub flagged_without : (flags : List Bool) (i : ℕ) → flagged (set flags i false) ≡ filter (λ j. not (j == i)) (flagged flags)
flagged_without flags i =
    same_members (flagged (set flags i false)) (filter (λ j. not (j == i)) (flagged flags)) (up_flagged (set flags i false))
    (up_filter (λ j. not (j == i)) (flagged flags) (up_flagged flags))
    (λ j. has_flagged (set flags i false) j
    ∙ (at j ∙ sym (has-filter (λ k. not (k == i)) j (flagged flags) ∙ ap (λ b. not (j == i) && b) (has_flagged flags j))))
  where
    here : get_or (set flags i false) i false ≡ false
    here =
        elim (cases_lt i (length flags)) [
          | inl within ↦ get_or-set_same flags i false false within
          | inr past ↦ rw (set_past flags i false past) (unset_past flags i past)
        ]

    at : (j : ℕ) → get_or (set flags i false) j false ≡ (not (j == i) && get_or flags j false)
    at j =
        elim (cases_order i j) [
          | inl same ↦ rw (← same, eq-eqb i i refl) here
          | inr o ↦ let apart : (j == i) ≡ false = elim o [ inl l ↦ ne_eqb j i (omega arith) | inr l ↦ ne_eqb j i (omega arith) ] in
              let ne : j ≢ i = elim o [ inl l ↦ omega arith | inr l ↦ omega arith ] in
              rw apart (get_or-set_other flags i j false false ne)
        ]

-- what a flag that is set at a place, if it is there, makes of the others
pub flag_put : (flags : List Bool) (i j : ℕ) → j < length flags → get_or (set flags i true) j true ≡ (get_or flags j true || i == j)
flag_put flags i j within =
    elim (cases_lt i (length flags)) [
      | inl here ↦ flag_set flags i j here within
      | inr past ↦ rw (set_past flags i true past) (flag_kept flags i j past within)
    ]

-- what the test says whether a mark operation begins
pub may_begin : (a : Active) (i : ℕ) → (nat_lt i (length a.in_force.items) && not (get_or a.ended.items i true)) ≡ true
    → (i < length a.in_force.items) × (get_or a.ended.items i true ≡ false)
may_begin a i h =
    elim (cases_lt i (length a.in_force.items)) [
      | inl within ↦ (within, unset (get_or a.ended.items i true) (rw (lt-ltb i (length a.in_force.items) within) at h))
      | inr past ↦ absurd (both_ways false refl (rw (le-ltb i (length a.in_force.items) past) at h))
    ]
  where
    unset : (b : Bool) → not b ≡ true → b ≡ false
    unset true e = absurd (both_ways false refl e)
    unset false e = refl

pub may_not_begin : (a : Active) (n i : ℕ) (begun ended : ℕ → Bool)
    → (nat_lt i (length a.in_force.items) && not (get_or a.ended.items i true)) ≡ false → IsActive a n begun ended
    → get_or a.ended.items i true ≡ true
may_not_begin a n i begun ended h are =
    elim (cases_lt i (length a.in_force.items)) [
      | inl within ↦ is_set (get_or a.ended.items i true) (rw (lt-ltb i (length a.in_force.items) within) at h)
      | inr past ↦ past_end a.ended.items i (let long = are.long in let wide = are.wide in omega arith)
    ]
  where
    is_set : (b : Bool) → not b ≡ false → b ≡ true
    is_set true e = refl
    is_set false e = sym e

-- where none is set, there is no index
pub none_flagged : (n : ℕ) → flagged (replicate n false) ≡ []
none_flagged n = from n 0
  where
    from : (n k : ℕ) → indexes (λ f. f) k (replicate n false) ≡ []
    from zero k = refl
    from (suc n) k = from n (k + 1)

pub none_has : (i n : ℕ) → false ≡ (nat_lt i n && (false && not false))
none_has i n = sym (and_false (nat_lt i n))
