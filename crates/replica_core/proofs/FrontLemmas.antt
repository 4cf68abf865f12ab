-- The clock of the front of a list, from that of the list.
use Rattle.std.proofs.Common.{◌≡◌, ℕ, ◌+◌, ◌≤◌, ◌<◌, if◌then◌else◌, true, false, inl, inr, List, [], ◌∷◌, ◌++◌, length, take, drop, get_or}
use Rattle.std.proofs.Common.{refl, sym, ◌∙◌, ap, append_assoc, append-nil, arith}
use Rattle.std.specs.Prelude.{◌==◌, nat_lt}
use Rattle.std.proofs.lemmas.Bool.{cases_Bool, eqb-true, eq-eqb, lt-ltb}
use Rattle.std.proofs.lemmas.Bool.Decides.{nat_tests}
use Rattle.std.proofs.lemmas.List.{at_drop_all, drop_more, length-take}
use Rattle.op_ids.specs.Clock.{count_of, is_clock, is_rising_above}
use Rattle.op_ids.proofs.ClockLemmas.{advanced-set, count_of-low, is_clock_made, is_clock_parts, rising-with_count, rising_cons, rising_lower, rising_parts}
use Rattle.op_ids.proofs.EqualityLemmas.{same_from_counts}
use Rattle.op_model.specs.declared.op.Op.{Op}
use Rattle.op_model.specs.Causality.{clock_of, made_by, IsCausallyClosed}
use Rattle.model_laws.proofs.Ready.{count_made}
use Rattle.replica_core.proofs.IndexLemmas.{made_shorter}
use Rattle.replica_core.proofs.OwnLemmas.{count_within}
use Rattle.replica_core.proofs.RevLemmas.{few_operations}

-- the entries with other counts, but for those with none
abbrev pub recounted : (ℕ → ℕ) → List (ℕ × ℕ) → List (ℕ × ℕ)
recounted count [] = []
recounted count (e ∷ es) = if nat_lt 0 (count e.0) then (e.0, count e.0) ∷ recounted count es else recounted count es

some_of : (n : ℕ) → nat_lt 0 n ≡ true → 1 ≤ n
some_of n some = grind (arith, nat_tests)

none_of : (n : ℕ) → nat_lt 0 n ≡ false → n ≡ 0
none_of n none = grind (arith, nat_tests)

recounted-rises : (count : ℕ → ℕ) (es : List (ℕ × ℕ)) (low : ℕ) → ((r : ℕ) → count r ≤ 16777216) → is_rising_above low es ≡ true
    → is_rising_above low (recounted count es) ≡ true
recounted-rises count [] low few rises = refl
recounted-rises count (e ∷ es) low few rises =
    let parts = rising_parts low e es rises in
    let rest = recounted-rises count es e.0 few parts.rest in
    elim (cases_Bool (nat_lt 0 (count e.0))) [
      | inl some ↦ rw some (rising_cons low (e.0, count e.0) (recounted count es) parts.above (some_of (count e.0) some) (few e.0) rest)
      | inr none ↦ rw none (rising_lower (recounted count es) low e.0 (let above = parts.above in omega arith) rest)
    ]

recounted-shorter : (count : ℕ → ℕ) (es : List (ℕ × ℕ)) → length (recounted count es) ≤ length es
recounted-shorter count [] = omega arith
recounted-shorter count (e ∷ es) =
    let rest = recounted-shorter count es in
    elim (cases_Bool (nat_lt 0 (count e.0))) [ inl some ↦ rw some (omega arith) | inr none ↦ rw none (omega arith) ]

recounted-counts : (count : ℕ → ℕ) (es : List (ℕ × ℕ)) (r : ℕ) → (0 < count r → 0 < count_of es r) → count_of (recounted count es) r ≡ count r
recounted-counts count [] r counted =
    elim (cases_Bool (nat_lt 0 (count r))) [
      | inl some ↦ let never : 0 < 0 = counted (some_of (count r) some) in absurd (omega arith)
      | inr none ↦ sym (none_of (count r) none)
    ]
recounted-counts count (e ∷ es) r counted =
    elim (cases_Bool (e.0 == r)) [
      | inl own ↦ let same : e.0 ≡ r = eqb-true e.0 r own in
          elim (cases_Bool (nat_lt 0 (count e.0))) [
            | inl some ↦ rw (some, own, same) refl
            | inr none ↦ let nothing : count r ≡ 0 = rw same at (none_of (count e.0) none) in
                rw none (recounted-counts count es r (λ some. absurd (omega arith)))
          ]
      | inr other ↦ let rest = recounted-counts count es r (rw other at counted) in
          elim (cases_Bool (nat_lt 0 (count e.0))) [ inl some ↦ rw (some, other) rest | inr none ↦ rw none rest ]
    ]

more_made : (x : Op) (ops : List Op) (r : ℕ) → length (made_by r ops) ≤ length (made_by r (x ∷ ops))
more_made x ops r = elim (cases_Bool (x.id.replica == r)) [ inl own ↦ rw own (omega arith) | inr other ↦ rw other (omega arith) ]

own_made : (x : Op) (ops : List Op) → 0 < length (made_by x.id.replica (x ∷ ops))
own_made x ops = rw (eq-eqb x.id.replica x.id.replica refl) (omega arith)

-- where no replica is nil, the clock of a list that is short enough rises
clock_rises : (ops : List Op) → ((r : ℕ) → 0 < length (made_by r ops) → 0 < r) → length ops ≤ 16777216 → is_rising_above 0 (clock_of ops) ≡ true
clock_rises [] named few = refl
clock_rises (x ∷ ops) named few =
    let rest = clock_rises ops (λ r some. named r (let more = more_made x ops r in omega arith)) (omega arith) in
    let counts = count_made ops x.id.replica in
    let within = made_shorter x.id.replica ops in
    let above = named x.id.replica (own_made x ops) in
    rw (advanced-set (clock_of ops) 0 x.id.replica rest)
    (rising-with_count (clock_of ops) 0 x.id.replica (count_of (clock_of ops) x.id.replica + 1) rest above (omega arith) (omega arith))

-- how many operations a replica has in the front of a list
abbrev pub made_in_front : List Op → ℕ → ℕ → ℕ
made_in_front ops n r = length (made_by r (take n ops))

-- no replica with operations is nil
never_nil : (ops : List Op) (r : ℕ) → is_rising_above 0 (clock_of ops) ≡ true → 0 < length (made_by r ops) → 0 < r
never_nil ops r rises some =
    let made = count_made ops r in
    elim (cases_Bool (nat_lt 0 r)) [
      | inl above ↦ some_of r above
      | inr nil ↦ let none = count_of-low (clock_of ops) 0 r rises (let is_0 = none_of r nil in omega arith) in absurd (omega arith)
    ]

few_made : (ops : List Op) (n r : ℕ) → IsCausallyClosed ops → made_in_front ops n r ≤ 16777216
few_made ops n r closed =
    let all = few_operations ops closed in
    let within = count_within ops r n in
    let shorter = made_shorter r ops in
    omega arith

-- the clock of a list, counted anew for its front
pub record IsFront (ops : List Op) (n : ℕ) (counts : List (ℕ × ℕ)) : Type 0 where
  pub is_it : is_clock (recounted (made_in_front ops n) counts) ≡ true
  pub clock : recounted (made_in_front ops n) counts ≡ clock_of (take n ops)

front_of_clock : (ops : List Op) (n : ℕ) → IsCausallyClosed ops → is_clock (clock_of ops) ≡ true → IsFront ops n (clock_of ops)
front_of_clock ops n closed is_it =
    let parts = is_clock_parts (clock_of ops) is_it in
    let few = few_operations ops closed in
    let shorter = recounted-shorter (made_in_front ops n) (clock_of ops) in
    let rises = recounted-rises (made_in_front ops n) (clock_of ops) 0 (λ r. few_made ops n r closed) parts.0 in
    let named : (r : ℕ) → 0 < length (made_by r (take n ops)) → 0 < r = λ r some.
    never_nil ops r parts.0 (let within = count_within ops r n in omega arith) in
    record {
      is_it = is_clock_made (recounted (made_in_front ops n) (clock_of ops)) rises (let long = parts.1 in omega arith);
      clock = same_from_counts (recounted (made_in_front ops n) (clock_of ops)) (clock_of (take n ops)) 0 0 rises
          (clock_rises (take n ops) named (let short = length-take n ops in omega arith))
          (λ r. recounted-counts (made_in_front ops n) (clock_of ops) r (λ some. let within = count_within ops r n in let made = count_made ops r in omega arith)
          ∙ sym (count_made (take n ops) r));
    }

pub is_front : (ops : List Op) (n : ℕ) (counts : List (ℕ × ℕ)) → IsCausallyClosed ops → counts ≡ clock_of ops → is_clock counts ≡ true → IsFront ops n counts
is_front ops n counts closed counted is_it = rw counted (front_of_clock ops n closed (rw counted at is_it))

-- those that were passed are counted anew, one entry on
pub recounted_some : (count : ℕ → ℕ) (es found after all : List (ℕ × ℕ)) (i made : ℕ) (e : ℕ × ℕ) → all ≡ found ++ recounted count (drop i es) → i < length es → e ≡ get_or es i e
    → made ≡ count e.0 → 0 < made → after ≡ found ++ (e.0, made) ∷ [] → all ≡ after ++ recounted count (drop (i + 1) es)
recounted_some count es found after all i made e counted there is_it is_made some is_after =
    let yes : nat_lt 0 (count e.0) ≡ true = lt-ltb 0 (count e.0) (omega arith) in
    let one : recounted count (drop i es) ≡ (e.0, count e.0) ∷ recounted count (drop (i + 1) es) = rw (drop_more es i e there, ← is_it, yes) refl in
    counted
    ∙ (ap (λ rest. found ++ rest) one
    ∙ (sym (append_assoc found ((e.0, count e.0) ∷ []) (recounted count (drop (i + 1) es)))
    ∙ ap (λ front. front ++ recounted count (drop (i + 1) es)) (ap (λ n. found ++ (e.0, n) ∷ []) (sym is_made) ∙ sym is_after)))

pub recounted_none : (count : ℕ → ℕ) (es found all : List (ℕ × ℕ)) (i made : ℕ) (e : ℕ × ℕ) → all ≡ found ++ recounted count (drop i es) → i < length es → e ≡ get_or es i e
    → made ≡ count e.0 → made ≤ 0 → all ≡ found ++ recounted count (drop (i + 1) es)
recounted_none count es found all i made e counted there is_it is_made none =
    let nothing : count e.0 ≡ 0 = omega arith in
    let rest : recounted count (drop i es) ≡ recounted count (drop (i + 1) es) = rw (drop_more es i e there, ← is_it, nothing) refl in
    counted ∙ ap (λ behind. found ++ behind) rest

pub recounted_all : (count : ℕ → ℕ) (es found all : List (ℕ × ℕ)) (i : ℕ) → all ≡ found ++ recounted count (drop i es) → length es ≤ i → all ≡ found
recounted_all count es found all i counted end =
    counted ∙ (ap (λ rest. found ++ rest) (at_drop_all (recounted count) es i end) ∙ append-nil found)
