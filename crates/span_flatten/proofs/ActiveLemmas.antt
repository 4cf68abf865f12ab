-- What an edge, or several, make of the mark operations that have begun and not ended.
use Rattle.std.proofs.Common.{◌≡◌, ◌≢◌, ℕ, zero, suc, ◌+◌, ◌<◌, ◌≤◌, ◌==◌, Bool, true, false, not, ◌&&◌, ◌||◌, nat_lt, inl, inr, List, [], ◌∷◌, ◌++◌}
use Rattle.std.proofs.Common.{length, take, get_or, set, refl, sym, ◌∙◌, ap, arith, get_or-set_other, get_or-set_same}
use Rattle.std.specs.Prelude.{filter}
use mathlib.Core.Bool.{beq}
use Rattle.std.specs.List.{list_any}
use Rattle.std.proofs.lemmas.Bool.{cases_order, cases_lt, eq-eqb, ne_eqb, lt-ltb, le-ltb, true≢false, false≢true}
use Rattle.std.proofs.lemmas.List.{take_more}
use Rattle.op_model.specs.Spans.{is_same_bool, with_number}
use Rattle.model_laws.proofs.Up.{has, has-filter, has-with}
use Rattle.mark_anchors.specs.declared.edge.Edge.{Edge}
use Rattle.span_flatten.specs.declared.active.Active.{Active}
use Rattle.span_flatten.specs.Sweeping.{flagged, is_edge, kept, with_edges, HasSameFlags, IsActive}

pub or_false : (a : Bool) → (a || false) ≡ a
or_false true = refl
or_false false = refl

or_true : (a : Bool) → (a || true) ≡ true
or_true true = refl
or_true false = refl

pub and_false : (a : Bool) → (a && false) ≡ false
and_false true = refl
and_false false = refl

pub or_assoc : (a b c : Bool) → (a || (b || c)) ≡ ((a || b) || c)
or_assoc true b c = refl
or_assoc false b c = refl

-- tests that agree say the same
pub active_same : (a : Active) (n : ℕ) (begun ended begun_too ended_too : ℕ → Bool) → ((i : ℕ) → begun i ≡ begun_too i) → ((i : ℕ) → ended i ≡ ended_too i)
    → IsActive a n begun ended → IsActive a n begun_too ended_too
active_same a n begun ended begun_too ended_too same_begun same_ended are = record {
  long = are.long;
  flags = λ i within. are.flags i within ∙ same_ended i;
  wide = are.wide;
  members = λ i. are.members i ∙ (ap (λ b. nat_lt i n && (b && not (ended i))) (same_begun i) ∙ ap (λ e. nat_lt i n && (begun_too i && not e)) (same_ended i));
}

-- the same flags say the same
pub active_alike : (a b : Active) (n : ℕ) (begun ended : ℕ → Bool) → HasSameFlags a b → IsActive a n begun ended → IsActive b n begun ended
active_alike a b n begun ended same are = record {
  long = ap (λ flags. length flags.items) same.0 ∙ are.long;
  wide = ap (λ flags. length flags.items) same.1 ∙ are.wide;
  flags = λ i within. ap (λ flags. get_or flags.items i true) same.0 ∙ are.flags i within;
  members = λ i. ap (λ flags. list_any (λ m. m == i) (flagged flags.items)) same.1 ∙ are.members i;
}

-- what has ended, or isn't there, isn't kept
none_kept : (n i j : ℕ) (b e flag : Bool) → i ≡ j → (j < n → flag ≡ e) → flag ≡ true
    → (nat_lt j n && (b && not e)) ≡ (nat_lt j n && ((b || true) && not e))
none_kept n i j b e flag same flags over =
    elim (cases_lt j n) [
      | inl within ↦ let gone : e ≡ true = sym (flags within) ∙ over in
          rw gone (ap (λ x. nat_lt j n && x) (and_false b) ∙ sym (ap (λ x. nat_lt j n && x) (and_false (b || true))))
      | inr past ↦ rw (le-ltb j n past) refl
    ]

pub begin_none : (a : Active) (n i : ℕ) (begun ended : ℕ → Bool) → get_or a.ended.items i true ≡ true → IsActive a n begun ended
    → IsActive a n (λ j. begun j || i == j) ended
begin_none a n i begun ended over are = record {
  long = are.long;
  flags = are.flags;
  wide = are.wide;
  members = λ j. are.members j ∙ at j;
}
  where
    at : (j : ℕ) → (nat_lt j n && (begun j && not (ended j))) ≡ (nat_lt j n && ((begun j || i == j) && not (ended j)))
    at j =
        elim (cases_order i j) [
          | inl same ↦ rw (eq-eqb i j same)
              (none_kept n i j (begun j) (ended j) (get_or a.ended.items j true) same (are.flags j) (ap (λ k. get_or a.ended.items k true) (sym same) ∙ over))
          | inr o ↦ let apart : (i == j) ≡ false = elim o [ inl l ↦ ne_eqb i j (omega arith) | inr l ↦ ne_eqb i j (omega arith) ] in
              rw (apart, or_false (begun j)) refl
        ]

pub past_end : (xs : List Bool) (i : ℕ) → length xs ≤ i → get_or xs i true ≡ true
past_end [] i past = refl
past_end (x ∷ xs) zero past = absurd (omega arith)
past_end (x ∷ xs) (suc i) past = past_end xs i (omega arith)

there : (xs : List Bool) (i n : ℕ) → length xs ≡ n → get_or xs i true ≡ false → i < n
there xs i n long flag =
    elim (cases_lt i n) [
      | inl within ↦ within
      | inr past ↦ absurd (true≢false (sym (past_end xs i (omega arith)) ∙ flag))
    ]

pub begin_more : (a b : Active) (n i : ℕ) (begun ended : ℕ → Bool) → get_or a.ended.items i true ≡ false → b.ended.items ≡ a.ended.items
    → length b.in_force.items ≡ length a.in_force.items → kept b ≡ with_number i (kept a) → IsActive a n begun ended → IsActive b n (λ j. begun j || i == j) ended
begin_more a b n i begun ended free same_ended same_wide is_set are = record {
  long = ap length same_ended ∙ are.long;
  flags = λ j within. ap (λ xs. get_or xs j true) same_ended ∙ are.flags j within;
  wide = same_wide ∙ are.wide;
  members = λ j. ap (λ s. has j s) is_set ∙ (has-with j i (kept a) ∙ at j);
}
  where
    within : i < n
    within = there a.ended.items i n are.long free

    at : (j : ℕ) → ((i == j) || has j (kept a)) ≡ (nat_lt j n && ((begun j || i == j) && not (ended j)))
    at j =
        elim (cases_order i j) [
          | inl same ↦ let less = within in
              let here : j < n = omega arith in
              let not_over : ended j ≡ false = sym (are.flags j here) ∙ (ap (λ k. get_or a.ended.items k true) (sym same) ∙ free) in
              rw (eq-eqb i j same, lt-ltb j n here, not_over, or_true (begun j)) refl
          | inr o ↦ let apart : (i == j) ≡ false = elim o [ inl l ↦ ne_eqb i j (omega arith) | inr l ↦ ne_eqb i j (omega arith) ] in
              rw (apart, or_false (begun j)) (are.members j)
        ]

and_not : (l b e : Bool) → (l && (b && false)) ≡ false
and_not true b e = and_false b
and_not false b e = refl

pub end_more : (a b : Active) (n i : ℕ) (begun ended : ℕ → Bool) → length b.ended.items ≡ length a.ended.items
    → length b.in_force.items ≡ length a.in_force.items
    → ((j : ℕ) → j < length a.ended.items → get_or b.ended.items j true ≡ (get_or a.ended.items j true || i == j))
    → kept b ≡ filter (λ j. not (j == i)) (kept a) → IsActive a n begun ended → IsActive b n begun (λ j. ended j || i == j)
end_more a b n i begun ended same_long same_wide same_flags is_set are = record {
  long = same_long ∙ are.long;
  flags = λ j within. same_flags j (let long = are.long in omega arith) ∙ ap (λ e. e || i == j) (are.flags j within);
  wide = same_wide ∙ are.wide;
  members = λ j. ap (λ s. has j s) is_set ∙ (has-filter (λ k. not (k == i)) j (kept a) ∙ (ap (λ h. not (j == i) && h) (are.members j) ∙ at j));
}
  where
    at : (j : ℕ) → (not (j == i) && (nat_lt j n && (begun j && not (ended j)))) ≡ (nat_lt j n && (begun j && not (ended j || i == j)))
    at j =
        elim (cases_order i j) [
          | inl same ↦ rw (eq-eqb i j same, eq-eqb j i (sym same), or_true (ended j)) (sym (and_not (nat_lt j n) (begun j) (ended j)))
          | inr o ↦ let apart : (i == j) ≡ false = elim o [ inl l ↦ ne_eqb i j (omega arith) | inr l ↦ ne_eqb i j (omega arith) ] in
              let too : (j == i) ≡ false = elim o [ inl l ↦ ne_eqb j i (omega arith) | inr l ↦ ne_eqb j i (omega arith) ] in
              rw (apart, too, or_false (ended j)) refl
        ]

-- a flag that is set
pub flag_set : (xs : List Bool) (i j : ℕ) → i < length xs → j < length xs → get_or (set xs i true) j true ≡ (get_or xs j true || i == j)
flag_set xs i j here within =
    elim (cases_order i j) [
      | inl same ↦ rw (← same, eq-eqb i i refl, or_true (get_or xs i true)) (get_or-set_same xs i true true here)
      | inr o ↦ let apart : (i == j) ≡ false = elim o [ inl l ↦ ne_eqb i j (omega arith) | inr l ↦ ne_eqb i j (omega arith) ] in
          let ne : j ≢ i = elim o [ inl l ↦ omega arith | inr l ↦ omega arith ] in
          rw (apart, or_false (get_or xs j true), get_or-set_other) refl
    ]

-- none is set past the end
pub flag_kept : (xs : List Bool) (i j : ℕ) → length xs ≤ i → j < length xs → get_or xs j true ≡ (get_or xs j true || i == j)
flag_kept xs i j past within = rw (ne_eqb i j (omega arith)) (sym (or_false (get_or xs j true)))

-- an edge of an end, and one of a start
pub end_same : (a : Active) (n i : ℕ) (is_end : Bool) (begun ended : ℕ → Bool) → is_end ≡ true → IsActive a n begun (λ j. ended j || i == j)
    → IsActive a n (λ j. begun j || (not is_end && i == j)) (λ j. ended j || (is_end && i == j))
end_same a n i is_end begun ended is are =
    rw is (active_same a n begun (λ j. ended j || i == j) (λ j. begun j || false) (λ j. ended j || i == j) (λ j. sym (or_false (begun j))) (λ j. refl) are)

pub begin_same : (a : Active) (n i : ℕ) (is_end : Bool) (begun ended : ℕ → Bool) → is_end ≡ false → IsActive a n (λ j. begun j || i == j) ended
    → IsActive a n (λ j. begun j || (not is_end && i == j)) (λ j. ended j || (is_end && i == j))
begin_same a n i is_end begun ended is are =
    rw is (active_same a n (λ j. begun j || i == j) ended (λ j. begun j || i == j) (λ j. ended j || false) (λ j. refl) (λ j. sym (or_false (ended j))) are)

any_more : (p : Edge → Bool) (es : List Edge) (k : ℕ) (e : Edge) → k < length es → e ≡ get_or es k e
    → list_any p (take (k + 1) es) ≡ (list_any p (take k es) || p e)
any_more p es k e within is_it =
    ap (list_any p) (take_more es k e within ∙ ap (λ d. take k es ++ d ∷ []) (sym is_it)) ∙ any_append (take k es)
  where
    any_append : (fs : List Edge) → list_any p (fs ++ e ∷ []) ≡ (list_any p fs || p e)
    any_append [] = or_false (p e)
    any_append (f ∷ fs) = rw (any_append fs) (or_assoc (p f) (list_any p fs) (p e))

bool_here : (a : Bool) → is_same_bool a a ≡ true
bool_here true = refl
bool_here false = refl

bool_not : (a b : Bool) → (a ≡ b → ⊥) → is_same_bool a b ≡ false
bool_not true true apart = absurd (apart refl)
bool_not true false apart = refl
bool_not false true apart = refl
bool_not false false apart = absurd (apart refl)

bool_false : (a : Bool) → is_same_bool a false ≡ not a
bool_false true = refl
bool_false false = refl

bool_true : (a : Bool) → is_same_bool a true ≡ a
bool_true true = refl
bool_true false = refl

-- what a test of two sides says
pub same_side : (a b : Bool) → not (beq a b) ≡ false → a ≡ b
same_side true true h = refl
same_side true false h = absurd (cc)
same_side false true h = absurd (cc)
same_side false false h = refl

pub other_side : (a b : Bool) → not (beq a b) ≡ true → a ≡ b → ⊥
other_side true true h = absurd (cc)
other_side true false h = true≢false
other_side false true h = false≢true
other_side false false h = absurd (cc)

-- an edge on this side of the character, and one on the other side
pub side_same : (a : Active) (n : ℕ) (is_after : Bool) (e : Edge) (begun ended : ℕ → Bool) → e.is_after ≡ is_after
    → IsActive a n (λ i. begun i || (not e.is_end && e.marking == i)) (λ i. ended i || (e.is_end && e.marking == i))
    → IsActive a n (λ i. begun i || is_edge is_after false i e) (λ i. ended i || is_edge is_after true i e)
side_same a n is_after e begun ended side are =
    active_same a n (λ i. begun i || (not e.is_end && e.marking == i)) (λ i. ended i || (e.is_end && e.marking == i))
    (λ i. begun i || is_edge is_after false i e) (λ i. ended i || is_edge is_after true i e)
    (λ i. rw (side, bool_here is_after, bool_false e.is_end) refl) (λ i. rw (side, bool_here is_after, bool_true e.is_end) refl) are

pub side_other : (a : Active) (n : ℕ) (is_after : Bool) (e : Edge) (begun ended : ℕ → Bool) → (e.is_after ≡ is_after → ⊥) → IsActive a n begun ended
    → IsActive a n (λ i. begun i || is_edge is_after false i e) (λ i. ended i || is_edge is_after true i e)
side_other a n is_after e begun ended side are =
    active_same a n begun ended (λ i. begun i || is_edge is_after false i e) (λ i. ended i || is_edge is_after true i e)
    (λ i. rw (bool_not e.is_after is_after side) (sym (or_false (begun i)))) (λ i. rw (bool_not e.is_after is_after side) (sym (or_false (ended i)))) are

-- one more edge
taken : (is_after is_end : Bool) (es : List Edge) (k : ℕ) (e : Edge) (was : ℕ → Bool) → k < length es → e ≡ get_or es k e
    → (i : ℕ) → (with_edges is_after is_end (take k es) was i || is_edge is_after is_end i e) ≡ with_edges is_after is_end (take (k + 1) es) was i
taken is_after is_end es k e was within is_it i =
    sym (ap (λ b. was i || b) (any_more (λ f. is_edge is_after is_end i f) es k e within is_it)
    ∙ or_assoc (was i) (list_any (λ f. is_edge is_after is_end i f) (take k es)) (is_edge is_after is_end i e))

pub active_taken : (a b : Active) (n : ℕ) (begun ended : ℕ → Bool) (is_after : Bool) (es : List Edge) (k : ℕ) (e : Edge) → k < length es → e ≡ get_or es k e
    → ((m : ℕ) (begun_so ended_so : ℕ → Bool) → IsActive a m begun_so ended_so
    → IsActive b m (λ i. begun_so i || is_edge is_after false i e) (λ i. ended_so i || is_edge is_after true i e))
    → IsActive a n (with_edges is_after false (take k es) begun) (with_edges is_after true (take k es) ended)
    → IsActive b n (with_edges is_after false (take (k + 1) es) begun) (with_edges is_after true (take (k + 1) es) ended)
active_taken a b n begun ended is_after es k e within is_it passed are =
    active_same b n (λ i. with_edges is_after false (take k es) begun i || is_edge is_after false i e)
    (λ i. with_edges is_after true (take k es) ended i || is_edge is_after true i e)
    (with_edges is_after false (take (k + 1) es) begun) (with_edges is_after true (take (k + 1) es) ended)
    (taken is_after false es k e begun within is_it) (taken is_after true es k e ended within is_it)
    (passed n (with_edges is_after false (take k es) begun) (with_edges is_after true (take k es) ended) are)

-- before the first edge, and behind the last
pub active_first : (a : Active) (n : ℕ) (begun ended : ℕ → Bool) → IsActive a n begun ended → IsActive a n (λ i. begun i || false) (λ i. ended i || false)
active_first a n begun ended are =
    active_same a n begun ended (λ i. begun i || false) (λ i. ended i || false) (λ i. sym (or_false (begun i))) (λ i. sym (or_false (ended i))) are
