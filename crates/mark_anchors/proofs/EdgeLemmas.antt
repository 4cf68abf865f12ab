-- Edges in order, and what one more mark operation makes of them.
use Rattle.std.proofs.Common.{◌≡◌, ℕ, zero, suc, ◌+◌, ◌-◌, ◌<◌, ◌≤◌, Bool, true, false, not, ◌&&◌, ◌||◌, inl, inr, List, [], ◌∷◌, ◌++◌, length, take}
use Rattle.std.proofs.Common.{drop, get_or, refl, sym, ◌∙◌, ap, arith, append_assoc, append-nil}
use Rattle.std.specs.Prelude.{filter}
use Rattle.std.specs.List.{insert, list_any}
use Rattle.std.specs.List.Sorted.{IsPermutation, IsPartitionPoint, IsPartitionedBy}
use Rattle.std.specs.Cmp.{IsStrictWeakOrder}
use Rattle.std.proofs.lemmas.Bool.{cases_Bool, cases_order, cases_lt, true≢false}
use Rattle.std.proofs.lemmas.Bool.Decides.{nat_tests}
use Rattle.std.proofs.lemmas.List.Edits.{get_or-insert_at, get_or-insert_below, get_or-insert_above}
use Rattle.std.proofs.lemmas.List.Sorted.{sorted_far, list_any-IsPermutation, IsPermutation-trans, IsPermutation-append_comm}
use Rattle.std.proofs.lemmas.List.Sorted.{IsPermutation-append_right}
use Rattle.op_ids.specs.Id.{Id, is_below, is_same}
use Rattle.op_model.specs.declared.marking.Marking.{Marking}
use Rattle.op_model.specs.declared.anchor.Anchor.TheVariants.{Before, After}
use Rattle.op_model.specs.declared.anchor.Start.{Start}
use Rattle.op_model.specs.declared.anchor.Start.TheVariants as start
use Rattle.op_model.specs.declared.anchor.End.{End}
use Rattle.op_model.specs.declared.anchor.End.TheVariants as end
use Rattle.op_model.specs.Made.{is_end_after}
use Rattle.mark_anchors.specs.declared.edge.Edge.{Edge}
use Rattle.mark_anchors.specs.Edges.{comes_before, edges_from, edges_of, end_edges, start_edges, AreEdges, AreInOrder}

pub one_way : (a b : Id) → is_below a b ≡ true → is_below b a ≡ false
unfolding is_below
one_way a b h = grind (arith, nat_tests)

below_chain : (a b c : Id) → is_below a b ≡ false → is_below b c ≡ false → is_below a c ≡ false
unfolding is_below
below_chain a b c h k = grind (arith, nat_tests)

-- neither is below the other exactly where they are one id
pub same_between : (a b : Id) → is_same a b ≡ (not (is_below b a) && not (is_below a b))
unfolding is_below is_same
same_between a b = grind (arith, nat_tests)

-- ids compare
pub order_of_edges : IsStrictWeakOrder comes_before
order_of_edges = record { one_way = λ x y h. one_way x.id y.id h; chain = λ x y z h k. below_chain x.id y.id z.id h k }

pub below_first : (a b c : Id) → is_below b c ≡ true → is_below b a ≡ false → is_below a c ≡ true
unfolding is_below
below_first a b c h k = grind (arith, nat_tests)

above_first : (c a b : Id) → not (is_below c b) ≡ true → is_below b a ≡ false → not (is_below c a) ≡ true
unfolding is_below
above_first c a b h k = grind (arith, nat_tests)

-- below an id stand first ones
pub below_parts : (es : List Edge) (id : Id) → AreInOrder es → IsPartitionedBy (λ e. is_below e.id id) es
below_parts es id order i j d le within h =
    below_first (get_or es i d).id (get_or es j d).id id h (sorted_far comes_before order_of_edges es order i j d le within)

-- and not above it, too
pub not_above_parts : (es : List Edge) (id : Id) → AreInOrder es → IsPartitionedBy (λ e. not (is_below id e.id)) es
not_above_parts es id order i j d le within h =
    above_first id (get_or es i d).id (get_or es j d).id h (sorted_far comes_before order_of_edges es order i j d le within)

pub not_true : (b : Bool) → not b ≡ true → b ≡ false
not_true true h = absurd (cc)
not_true false h = refl

pub not_false : (b : Bool) → not b ≡ false → b ≡ true
not_false true h = refl
not_false false h = absurd (cc)

-- the same, said without `not`
pub not_above_place : (es : List Edge) (id : Id) (n : ℕ) → IsPartitionPoint (λ e. not (is_below id e.id) ≡ true) (λ e. not (is_below id e.id) ≡ false) es n
    → IsPartitionPoint (λ e. is_below id e.id ≡ false) (λ e. is_below id e.id ≡ true) es n
not_above_place es id n place = (
  λ k d low high. not_true (is_below id (get_or es k d).id) (place.0 k d low high),
  λ k d low high. not_false (is_below id (get_or es k d).id) (place.1 k d low high),
)

-- those not above an id are at least those below it
pub bounds_rise : (es : List Edge) (id : Id) (from to : ℕ) → from ≤ length es
    → IsPartitionPoint (λ e. is_below e.id id ≡ true) (λ e. is_below e.id id ≡ false) es from
    → IsPartitionPoint (λ e. is_below id e.id ≡ false) (λ e. is_below id e.id ≡ true) es to
    → from ≤ to
bounds_rise [] id from to within low high = omega arith
bounds_rise (e ∷ es) id from to within low high =
    elim (cases_lt to from) [
      | inl less ↦ absurd (true≢false (sym (low.0 to e (omega arith) less)
          ∙ one_way id (get_or (e ∷ es) to e).id (high.1 to e (omega arith) (omega arith))))
      | inr more ↦ more
    ]

pub none_same : (es : List Edge) (id : Id) → ((k : ℕ) (d : Edge) → k < length es → is_below id (get_or es k d).id ≡ true) → filter (λ e. is_same e.id id) es ≡ []
none_same [] id above = refl
none_same (e ∷ es) id above =
    let here : is_same e.id id ≡ false = same_between e.id id ∙ ap (λ b. not b && not (is_below e.id id)) (above 0 e (omega arith)) in
    rw here (none_same es id (λ k d within. above (suc k) d (omega arith)))

-- between both bounds stand those of the id
pub edges_between : (es : List Edge) (id : Id) (from to : ℕ) → from ≤ length es → to ≤ length es
    → IsPartitionPoint (λ e. is_below e.id id ≡ true) (λ e. is_below e.id id ≡ false) es from
    → IsPartitionPoint (λ e. is_below id e.id ≡ false) (λ e. is_below id e.id ≡ true) es to
    → take (to - from) (drop from es) ≡ filter (λ e. is_same e.id id) es
edges_between [] id zero zero f t low high = refl
edges_between [] id zero (suc to) f t low high = absurd (omega arith)
edges_between [] id (suc from) to f t low high = absurd (omega arith)
edges_between (e ∷ es) id zero zero f t low high =
    sym (none_same (e ∷ es) id (λ k d within. high.1 k d (omega arith) within))
edges_between (e ∷ es) id zero (suc to) f t low high =
    let above : is_below id e.id ≡ false = high.0 0 e (omega arith) (omega arith) in
    let below : is_below e.id id ≡ false = low.1 0 e (omega arith) (omega arith) in
    let here : is_same e.id id ≡ true = same_between e.id id ∙ rw (above, below) refl in
    let less : to - 0 ≡ to = omega arith in
    let more : suc to - 0 ≡ suc to = omega arith in
    rw (more, here) (ap (λ rest. e ∷ rest) (rw less at (edges_between es id 0 to (omega arith) (omega arith)
    (λ k d l h. low.0 (suc k) d (omega arith) (omega arith), λ k d l h. low.1 (suc k) d (omega arith) (omega arith))
    (λ k d l h. high.0 (suc k) d (omega arith) (omega arith), λ k d l h. high.1 (suc k) d (omega arith) (omega arith)))))
edges_between (e ∷ es) id (suc from) zero f t low high =
    absurd (true≢false (sym (low.0 0 e (omega arith) (omega arith)) ∙ one_way id e.id (high.1 0 e (omega arith) (omega arith))))
edges_between (e ∷ es) id (suc from) (suc to) f t low high =
    let below : is_below e.id id ≡ true = low.0 0 e (omega arith) (omega arith) in
    let apart : is_same e.id id ≡ false = same_between e.id id ∙ (ap (λ b. not (is_below id e.id) && not b) below ∙ and_none (not (is_below id e.id))) in
    let less : suc to - suc from ≡ to - from = omega arith in
    rw (apart, less) (edges_between es id from to (omega arith) (omega arith)
    (λ k d l h. low.0 (suc k) d (omega arith) (omega arith), λ k d l h. low.1 (suc k) d (omega arith) (omega arith))
    (λ k d l h. high.0 (suc k) d (omega arith) (omega arith), λ k d l h. high.1 (suc k) d (omega arith) (omega arith)))
  where
    and_none : (a : Bool) → (a && false) ≡ false
    and_none true = refl
    and_none false = refl

behind_it : (es : List Edge) (e : Edge) (n k : ℕ) (d : Edge) → n < k → n ≤ length es → get_or (insert es n e) k d ≡ get_or es (k - 1) d
behind_it es e n k d behind within =
    let back : k ≡ k - 1 + 1 = omega arith in
    ap (λ m. get_or (insert es n e) m d) back ∙ get_or-insert_above es n e d (k - 1) (omega arith) within

order_at : (es : List Edge) (e : Edge) (n : ℕ) → AreInOrder es → n ≤ length es
    → IsPartitionPoint (λ f. is_below e.id f.id ≡ false) (λ f. is_below e.id f.id ≡ true) es n
    → (long : ℕ) → long ≡ length es + 1 → (k : ℕ) (d : Edge) → k + 1 < long
    → comes_before (get_or (insert es n e) (k + 1) d) (get_or (insert es n e) k d) ≡ false
order_at es e n order within place long is_long k d more =
    elim (cases_order (k + 1) n) [
      | inl last ↦ let below : k < n = omega arith in
          rw (last, get_or-insert_at es n e d within, get_or-insert_below es n e d k below within) (place.0 k d (omega arith) below)
      | inr o ↦ elim o [
        | inl less ↦ let below : k < n = omega arith in
            rw (get_or-insert_below es n e d (k + 1) less within, get_or-insert_below es n e d k below within) (order k d (omega arith) (omega arith))
        | inr behind ↦ elim (cases_order k n) [
          | inl here ↦ rw (get_or-insert_above es n e d k (omega arith) within) (rw (here, get_or-insert_at es n e d within)
              (one_way e.id (get_or es n d).id (place.1 n d (omega arith) (omega arith))))
          | inr p ↦ elim p [
            | inl l ↦ absurd (omega arith)
            | inr g ↦ let back : k - 1 + 1 ≡ k = omega arith in
                rw (get_or-insert_above es n e d k (omega arith) within, behind_it es e n k d g within)
                (ap (λ m. comes_before (get_or es m d) (get_or es (k - 1) d)) (sym back) ∙ order (k - 1) d (omega arith) (omega arith))
          ]
        ]
      ]
    ]

-- an edge that is put where greater ids begin leaves all in order
pub order_with : (es all : List Edge) (e : Edge) (n : ℕ) → AreInOrder es → n ≤ length es
    → IsPartitionPoint (λ f. is_below e.id f.id ≡ false) (λ f. is_below e.id f.id ≡ true) es n
    → all ≡ insert es n e → length all ≡ length es + 1 → AreInOrder all
order_with es all e n order within place is_all is_long k d low more =
    rw is_all (order_at es e n order within place (length all) is_long k d more)

-- the edges of one more mark operation come behind those of the others
edges_more : (i : ℕ) (ms : List Marking) (m : Marking) → edges_from i (ms ++ m ∷ []) ≡ edges_from i ms ++ edges_of (i + length ms) m
edges_more i [] m = let same : i + 0 ≡ i = omega arith in rw same (append-nil (edges_of i m))
edges_more i (n ∷ ms) m =
    let same : i + suc (length ms) ≡ i + 1 + length ms = omega arith in
    rw (same, edges_more (i + 1) ms m) (sym (append_assoc (edges_of i n) (edges_from (i + 1) ms) (edges_of (i + 1 + length ms) m)))

-- its two edges, put among the others
pub are_edges_more : (ms : List Marking) (m : Marking) (es all first second : List Edge) (i : ℕ) → i ≡ length ms → AreEdges ms es
    → first ≡ start_edges i m.start → second ≡ end_edges i m.end → IsPermutation (second ++ (first ++ es)) all → AreEdges (ms ++ m ∷ []) all
are_edges_more ms m es all first second i is_i are is_first is_second put =
    let E = edges_from 0 ms in
    let front : IsPermutation (E ++ first) (first ++ es) =
    IsPermutation-trans (E ++ first) (first ++ E) (first ++ es) (IsPermutation-append_comm E first) (IsPermutation-append_right first E es are.all) in
    let both : IsPermutation ((E ++ first) ++ second) (second ++ (first ++ es)) =
    IsPermutation-trans ((E ++ first) ++ second) (second ++ (E ++ first)) (second ++ (first ++ es)) (IsPermutation-append_comm (E ++ first) second)
    (IsPermutation-append_right second (E ++ first) (first ++ es) front) in
    let listed : edges_from 0 (ms ++ m ∷ []) ≡ (E ++ first) ++ second =
    edges_more 0 ms m ∙ (let zero_more : 0 + length ms ≡ i = omega arith in
    rw (zero_more, is_first, is_second) (sym (append_assoc E (start_edges i m.start) (end_edges i m.end)))) in
    record { all = rw listed (IsPermutation-trans ((E ++ first) ++ second) (second ++ (first ++ es)) all both put) }

-- one of those that pass a test
pub any_filter : (p q : Edge → Bool) (es : List Edge) → list_any p (filter q es) ≡ list_any (λ e. q e && p e) es
any_filter p q [] = refl
any_filter p q (e ∷ es) =
    elim (cases_Bool (q e)) [
      | inl h ↦ rw h (ap (λ rest. p e || rest) (any_filter p q es))
      | inr h ↦ rw h (any_filter p q es)
    ]

-- one of these or of those
pub any_append : (p : Edge → Bool) (es fs : List Edge) → list_any p (es ++ fs) ≡ (list_any p es || list_any p fs)
any_append p [] fs = refl
any_append p (e ∷ es) fs = rw (any_append p es fs) (or_assoc (p e) (list_any p es) (list_any p fs))
  where
    or_assoc : (a b c : Bool) → (a || (b || c)) ≡ ((a || b) || c)
    or_assoc true b c = refl
    or_assoc false b c = refl

and_false : (a : Bool) → (a && false) ≡ false
and_false true = refl
and_false false = refl

or_false : (a : Bool) → (a || false) ≡ a
or_false true = refl
or_false false = refl

and_true : (a : Bool) → (a && true) ≡ a
and_true true = refl
and_true false = refl

no_start_ends : (id : Id) (i : ℕ) (s : Start) → list_any (λ e. is_same e.id id && (e.is_end && e.is_after)) (start_edges i s) ≡ false
no_start_ends id i start.OfText = refl
no_start_ends id i (start.From (Before other)) = or_false (is_same other id && false) ∙ and_false (is_same other id)
no_start_ends id i (start.From (After other)) = or_false (is_same other id && false) ∙ and_false (is_same other id)

end_ends : (id : Id) (i : ℕ) (e : End) → list_any (λ f. is_same f.id id && (f.is_end && f.is_after)) (end_edges i e) ≡ is_end_after id e
end_ends id i end.OfText = refl
end_ends id i (end.To (Before other)) = or_false (is_same other id && false) ∙ and_false (is_same other id)
end_ends id i (end.To (After other)) = or_false (is_same other id && true) ∙ and_true (is_same other id)

ends_listed : (id : Id) (i : ℕ) (ms : List Marking)
    → list_any (λ e. is_same e.id id && (e.is_end && e.is_after)) (edges_from i ms) ≡ list_any (λ m. is_end_after id m.end) ms
ends_listed id i [] = refl
ends_listed id i (m ∷ ms) =
    any_append (λ e. is_same e.id id && (e.is_end && e.is_after)) (edges_of i m) (edges_from (i + 1) ms)
    ∙ (ap (λ first. first || list_any (λ e. is_same e.id id && (e.is_end && e.is_after)) (edges_from (i + 1) ms))
    (any_append (λ e. is_same e.id id && (e.is_end && e.is_after)) (start_edges i m.start) (end_edges i m.end)
    ∙ rw (no_start_ends id i m.start) (end_ends id i m.end))
    ∙ ap (λ rest. is_end_after id m.end || rest) (ends_listed id (i + 1) ms))

-- some edge of a character is an end just after it where some mark operation ends just after it
pub ends_at : (ms : List Marking) (es : List Edge) (id : Id) → AreEdges ms es
    → list_any (λ e. e.is_end && e.is_after) (filter (λ e. is_same e.id id) es) ≡ list_any (λ m. is_end_after id m.end) ms
ends_at ms es id are =
    any_filter (λ e. e.is_end && e.is_after) (λ e. is_same e.id id) es
    ∙ (sym (list_any-IsPermutation (λ e. is_same e.id id && (e.is_end && e.is_after)) (edges_from 0 ms) es are.all) ∙ ends_listed id 0 ms)
