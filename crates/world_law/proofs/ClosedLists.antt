-- Causally closed lists: their fronts, and the one place that each operation has.
use Rattle.std.proofs.Common.{◌≡◌, ℕ, ◌+◌, ◌≤◌, ◌<◌, eqb, true, false, inl, inr, List}
use Rattle.std.proofs.Common.{[], ◌∷◌, ◌++◌, length, take, drop, arith, ap}
use Rattle.std.proofs.Common.{refl, ◌∙◌, sym, length-append}
use Rattle.std.specs.Prelude.{◌==◌}
use Rattle.std.proofs.lemmas.Bool.{cases_Bool, cases_order, eq-eqb, eqb-true, and_parts, both_ways}
use Rattle.std.proofs.lemmas.List.{take-append-drop}
use Rattle.std.proofs.lemmas.List.Elements.{filter-append}
use Rattle.op_ids.specs.Id.{is_same}
use Rattle.op_ids.specs.Clock.{count_of, is_within}
use Rattle.op_model.specs.declared.op.Op.{Op}
use Rattle.op_model.specs.Causality.{clock_of, made_by}
use Rattle.op_model.specs.Causality.{HasOp, MayFollow, FollowInTurn}
use Rattle.op_model.specs.Causality.{IsCausallyClosed}
use Rattle.model_laws.proofs.Growth.{closed_front}
use Rattle.model_laws.proofs.Ids.{equal_same}
use Rattle.model_laws.proofs.Ready.{count_made}
use Rattle.model_laws.proofs.Same.{AreDistinct, closed_distinct}
use Rattle.world_law.specs.Counts.{own_count}

pub closed_take : (ops : List Op) (n : ℕ) → IsCausallyClosed ops → IsCausallyClosed (take n ops)
closed_take ops n closed = closed_front (take n ops) (drop n ops) (rw (take-append-drop n ops) closed)

one_distinct : (ops : List Op) (x y : Op) → AreDistinct ops → HasOp ops x → HasOp ops y → x.id ≡ y.id → x ≡ y
one_distinct [] x y d h k e = absurd h
one_distinct (z ∷ zs) x y d (inl f) (inl g) e = sym f ∙ g
one_distinct (z ∷ zs) x y d (inl f) (inr k) e =
    absurd (both_ways (is_same y.id z.id) (d.0 y k) (equal_same y.id z.id (sym e ∙ ap (λ o. o.id) (sym f))))
one_distinct (z ∷ zs) x y d (inr h) (inl g) e =
    absurd (both_ways (is_same x.id z.id) (d.0 x h) (equal_same x.id z.id (e ∙ ap (λ o. o.id) (sym g))))
one_distinct (z ∷ zs) x y d (inr h) (inr k) e = one_distinct zs x y d.1 h k e

-- in a causally closed list an id has one operation
pub closed_one : (ops : List Op) (x y : Op) → IsCausallyClosed ops → HasOp ops x → HasOp ops y → x.id ≡ y.id → x ≡ y
closed_one ops x y closed h k e = one_distinct ops x y (closed_distinct ops closed) h k e

-- how many operations of a replica there are
abbrev made_count : ℕ → List Op → ℕ
made_count replica ops = length (made_by replica ops)

made_count-append : (replica : ℕ) (a b : List Op) → made_count replica (a ++ b) ≡ made_count replica a + made_count replica b
made_count-append replica a b =
    ap length (filter-append (λ (op : Op). op.id.replica == replica) a b) ∙ length-append (made_by replica a) (made_by replica b)

made_count-one : (replica : ℕ) (op : Op) → op.id.replica ≡ replica → made_count replica (op ∷ []) ≡ 1
made_count-one replica op e = let t : eqb op.id.replica replica ≡ true = eq-eqb op.id.replica replica e in rw t refl

made_count-other : (replica : ℕ) (op : Op) → (op.id.replica == replica) ≡ false → made_count replica (op ∷ []) ≡ 0
made_count-other replica op e = rw e refl

-- an operation that may follow depends on all of its replica's operations before it
own_of-follows : (before : List Op) (op : Op) → MayFollow before op → own_count op ≡ made_count op.id.replica before
own_of-follows before op follows =
    let count : ℕ = count_of (clock_of before) op.id.replica in
    let e = (and_parts (count == own_count op) (is_within op.deps (clock_of before)) follows.ready).0 in
    sym (eqb-true count (own_count op) e) ∙ count_made before op.id.replica

own_above : (before ops : List Op) (op : Op) → FollowInTurn before ops → HasOp ops op → made_count op.id.replica before ≤ own_count op
own_above before [] op h k = absurd k
own_above before (x ∷ ops) op h (inl e) = let f = own_of-follows before op (rw e at h.0) in omega arith
own_above before (x ∷ ops) op h (inr k) =
    let rest = own_above (before ++ x ∷ []) ops op h.1 k in
    let more = made_count-append op.id.replica before (x ∷ []) in
    omega arith

-- two in a row: the second depends on the first
own_apart : (before ops : List Op) (x y : Op) → MayFollow before x → FollowInTurn (before ++ x ∷ []) ops → HasOp ops y
    → x.id.replica ≡ y.id.replica → own_count x < own_count y
own_apart before ops x y follows h k r =
    let first = own_of-follows before x follows in
    let above : made_count y.id.replica (before ++ x ∷ []) ≤ own_count y = own_above (before ++ x ∷ []) ops y h k in
    let more = made_count-append x.id.replica before (x ∷ []) in
    let one = made_count-one x.id.replica x refl in
    let same = ap (λ n. made_count n (before ++ x ∷ [])) r in
    omega arith

one_in_turn : (before ops : List Op) (x y : Op) → FollowInTurn before ops → HasOp ops x → HasOp ops y → x.id.replica ≡ y.id.replica
    → own_count x ≡ own_count y → x ≡ y
one_in_turn before [] x y h k l r e = absurd k
one_in_turn before (z ∷ ops) x y h (inl f) (inl g) r e = sym f ∙ g
one_in_turn before (z ∷ ops) x y h (inl f) (inr l) r e =
    let less = own_apart before ops z y h.0 h.1 l (ap (λ o. o.id.replica) f ∙ r) in
    let same : own_count z ≡ own_count y = ap own_count f ∙ e in
    absurd (omega arith)
one_in_turn before (z ∷ ops) x y h (inr k) (inl g) r e =
    let less = own_apart before ops z x h.0 h.1 k (ap (λ o. o.id.replica) g ∙ sym r) in
    let same : own_count z ≡ own_count x = ap own_count g ∙ sym e in
    absurd (omega arith)
one_in_turn before (z ∷ ops) x y h (inr k) (inr l) r e = one_in_turn (before ++ z ∷ []) ops x y h.1 k l r e

-- nor have two of a replica one number of operations that they depend on
pub closed_same : (ops : List Op) (x y : Op) → IsCausallyClosed ops → HasOp ops x → HasOp ops y → x.id.replica ≡ y.id.replica
    → own_count x ≡ own_count y → x ≡ y
closed_same ops x y closed h k r e = one_in_turn [] ops x y closed h k r e

under_in_turn : (before ops : List Op) (op : Op) → FollowInTurn before ops → HasOp ops op
    → own_count op < made_count op.id.replica before + made_count op.id.replica ops
under_in_turn before [] op h k = absurd k
under_in_turn before (x ∷ ops) op h (inl e) =
    let own = own_of-follows before op (rw e at h.0) in
    let first = made_count-one op.id.replica x (ap (λ o. o.id.replica) e) in
    let more = made_count-append op.id.replica (x ∷ []) ops in
    omega arith
under_in_turn before (x ∷ ops) op h (inr k) =
    let rest = under_in_turn (before ++ x ∷ []) ops op h.1 k in
    let behind = made_count-append op.id.replica before (x ∷ []) in
    let more = made_count-append op.id.replica (x ∷ []) ops in
    omega arith

-- the clock counts each operation
pub closed_counted : (ops : List Op) (op : Op) → IsCausallyClosed ops → HasOp ops op
    → own_count op < count_of (clock_of ops) op.id.replica
closed_counted ops op closed h =
    let under = under_in_turn [] ops op closed h in
    let count = count_made ops op.id.replica in
    omega arith

abbrev IsAt : List Op → ℕ → ℕ → Type 0
IsAt ops replica n = (op : Op) × HasOp ops op × (op.id.replica ≡ replica) × (own_count op ≡ n)

later : (x : Op) (ops : List Op) (replica n : ℕ) → IsAt ops replica n → IsAt (x ∷ ops) replica n
later x ops replica n h = (h.0, inr h.1, h.2, h.3)

at_in_turn : (before ops : List Op) (replica n : ℕ) → FollowInTurn before ops → made_count replica before ≤ n
    → n < made_count replica before + made_count replica ops → IsAt ops replica n
at_in_turn before [] replica n h low high = absurd (omega arith)
at_in_turn before (x ∷ ops) replica n h low high =
    let behind = made_count-append replica before (x ∷ []) in
    let more = made_count-append replica (x ∷ []) ops in
    elim (cases_Bool (x.id.replica == replica)) [
      | inl e ↦ let r : x.id.replica ≡ replica = eqb-true x.id.replica replica e in
          let one = made_count-one replica x r in
          elim (cases_Bool (made_count replica before == n)) [
            | inl f ↦ (x, inl refl, r, own_of-follows before x h.0 ∙ ap (λ k. made_count k before) r ∙ eqb-true (made_count replica before) n f)
            | inr f ↦ let above = differ (made_count replica before) n f low behind one in
                later x ops replica n (at_in_turn (before ++ x ∷ []) ops replica n h.1 above (omega arith))
          ]
      | inr e ↦ let none = made_count-other replica x e in
          later x ops replica n (at_in_turn (before ++ x ∷ []) ops replica n h.1 (omega arith) (omega arith))
    ]
  where
    differ : (k n : ℕ) → (k == n) ≡ false → k ≤ n → made_count replica (before ++ x ∷ []) ≡ k + made_count replica (x ∷ [])
        → made_count replica (x ∷ []) ≡ 1 → made_count replica (before ++ x ∷ []) ≤ n
    differ k n f low behind one = elim (cases_order k n) [
      | inl e ↦ absurd (both_ways (k == n) f (eq-eqb k n e))
      | inr o ↦ elim o [ inl l ↦ omega arith | inr l ↦ absurd (omega arith) ]
    ]

-- and each number below the clock's is that of one
pub closed_at : (ops : List Op) (replica n : ℕ) → IsCausallyClosed ops → n < count_of (clock_of ops) replica
    → (op : Op) × HasOp ops op × (op.id.replica ≡ replica) × (own_count op ≡ n)
closed_at ops replica n closed under =
    let count = count_made ops replica in
    at_in_turn [] ops replica n closed (omega arith) (omega arith)
