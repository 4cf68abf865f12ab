-- Where the operations of a replica stand in a list.
use Rattle.std.proofs.Common.{◌≡◌, ℕ, zero, suc, ◌+◌, ◌≤◌, ◌<◌, true, false, inl, inr, List, [], ◌∷◌, ◌++◌, length, take, get_or, refl, ap}
use Rattle.std.proofs.Common.{append_assoc, length-append, arith}
use Rattle.std.specs.Prelude.{◌==◌, nat_lt}
use Rattle.std.specs.List.Sorted.{IsNonDecreasing, IsPartitionPoint}
use Rattle.std.proofs.lemmas.Bool.{cases_Bool, eqb-true, eq-eqb}
use Rattle.std.proofs.lemmas.Bool.Decides.{nat_tests}
use Rattle.std.proofs.lemmas.List.{get_or_default}
use Rattle.op_model.specs.declared.op.Op.{Op}
use Rattle.op_model.specs.Causality.{made_by}
use Rattle.replica_core.specs.Makers.{at_places, places_from, AreBelow}
use Rattle.replica_core.proofs.PlaceLemmas.{get_behind}

-- a longer front has no fewer of them
pub count_rises : (ops : List Op) (r m n : ℕ) → m ≤ n → length (made_by r (take m ops)) ≤ length (made_by r (take n ops))
count_rises ops r zero n more = omega arith
count_rises [] r (suc m) n more = omega arith
count_rises (x ∷ ops) r (suc m) zero more = absurd (omega arith)
count_rises (x ∷ ops) r (suc m) (suc n) more =
    let rest = count_rises ops r m n (omega arith) in
    elim (cases_Bool (x.id.replica == r)) [ inl own ↦ rw own (omega arith) | inr other ↦ rw other rest ]

pub count_within : (ops : List Op) (r n : ℕ) → length (made_by r (take n ops)) ≤ length (made_by r ops)
count_within ops r zero = omega arith
count_within [] r (suc n) = omega arith
count_within (x ∷ ops) r (suc n) =
    let rest = count_within ops r n in
    elim (cases_Bool (x.id.replica == r)) [ inl own ↦ rw own (omega arith) | inr other ↦ rw other rest ]

-- and one that has another one of them has more
pub count_passes : (ops : List Op) (r m n : ℕ) (op : Op) → m < length ops → op ≡ get_or ops m op → op.id.replica ≡ r → m < n
    → length (made_by r (take m ops)) < length (made_by r (take n ops))
count_passes [] r m n op there is_it own less = absurd (omega arith)
count_passes (x ∷ ops) r m zero op there is_it own less = absurd (omega arith)
count_passes (x ∷ ops) r zero (suc n) op there is_it own less =
    let first : x.id.replica ≡ r = rw is_it at own in
    rw (eq-eqb x.id.replica r first) (omega arith)
count_passes (x ∷ ops) r (suc m) (suc n) op there is_it own less =
    let rest = count_passes ops r m n op (omega arith) is_it own (omega arith) in
    elim (cases_Bool (x.id.replica == r)) [ inl same ↦ rw same (omega arith) | inr other ↦ rw other rest ]

-- at index d stands an operation of replica r, behind j of its others
pub record IsPlace (ops : List Op) (r j d : ℕ) : Type 0 where
  pub there : d < length ops
  pub op : Op
  pub is_it : op ≡ get_or ops d op
  pub own : op.id.replica ≡ r
  pub before : length (made_by r (take d ops)) ≡ j

-- the j-th index is such a one
abbrev Placed : ℕ → List Op → ℕ → ℕ → Type 0
Placed first ops r j = (d : ℕ) × (get_or (places_from first ops r) j 0 ≡ first + d) × IsPlace ops r j d

placed_first : (first : ℕ) (x : Op) (ops : List Op) (r : ℕ) → (x.id.replica == r) ≡ true → Placed first (x ∷ ops) r 0
placed_first first x ops r own = (
  0,
  rw own (omega arith),
  record {
    there = omega arith;
    op = x;
    is_it = refl;
    own = eqb-true x.id.replica r own;
    before = refl;
  },
)

placed_behind : (first : ℕ) (x : Op) (ops : List Op) (r j : ℕ) → (x.id.replica == r) ≡ true → Placed (first + 1) ops r j → Placed first (x ∷ ops) r (suc j)
placed_behind first x ops r j own rest = (
  suc rest.0,
  rw own (let at = rest.1 in omega arith),
  record {
    there = let there = rest.2.there in omega arith;
    op = rest.2.op;
    is_it = rest.2.is_it;
    own = rest.2.own;
    before = rw own (ap suc rest.2.before);
  },
)

placed_other : (first : ℕ) (x : Op) (ops : List Op) (r j : ℕ) → (x.id.replica == r) ≡ false → Placed (first + 1) ops r j → Placed first (x ∷ ops) r j
placed_other first x ops r j other rest = (
  suc rest.0,
  rw other (let at = rest.1 in omega arith),
  record {
    there = let there = rest.2.there in omega arith;
    op = rest.2.op;
    is_it = rest.2.is_it;
    own = rest.2.own;
    before = rw other rest.2.before;
  },
)

place_from : (first : ℕ) (ops : List Op) (r j : ℕ) → j < length (places_from first ops r) → Placed first ops r j
place_from first [] r j there = absurd (omega arith)
place_from first (x ∷ ops) r zero there =
    elim (cases_Bool (x.id.replica == r)) [
      | inl own ↦ placed_first first x ops r own
      | inr other ↦ placed_other first x ops r zero other (place_from (first + 1) ops r zero (rw other at there))
    ]
place_from first (x ∷ ops) r (suc j) there =
    elim (cases_Bool (x.id.replica == r)) [
      | inl own ↦ let within : suc j < suc (length (places_from (first + 1) ops r)) = rw own at there in
          placed_behind first x ops r j own (place_from (first + 1) ops r j (omega arith))
      | inr other ↦ placed_other first x ops r (suc j) other (place_from (first + 1) ops r (suc j) (rw other at there))
    ]

-- what stands at a kept index
pub place_at : (ops : List Op) (r j p : ℕ) → j < length (places_from 0 ops r) → p ≡ get_or (places_from 0 ops r) j 0 → IsPlace ops r j p
place_at ops r j p there is_p =
    let placed = place_from 0 ops r j there in
    let at = placed.1 in
    let same : p ≡ placed.0 = omega arith in
    rw same placed.2

-- where an operation's index is kept
place_back : (first : ℕ) (ops : List Op) (r d : ℕ) (op : Op) → d < length ops → op ≡ get_or ops d op → op.id.replica ≡ r
    → (length (made_by r (take d ops)) < length (places_from first ops r))
place_back first [] r d op there is_it own = absurd (omega arith)
place_back first (x ∷ ops) r zero op there is_it own =
    let same : x.id.replica ≡ r = rw is_it at own in
    rw (eq-eqb x.id.replica r same) (omega arith)
place_back first (x ∷ ops) r (suc d) op there is_it own =
    let rest = place_back (first + 1) ops r d op (omega arith) is_it own in
    elim (cases_Bool (x.id.replica == r)) [ inl same ↦ rw same (omega arith) | inr other ↦ rw other rest ]

pub place_kept : (ops : List Op) (r d : ℕ) (op : Op) → d < length ops → op ≡ get_or ops d op → op.id.replica ≡ r
    → length (made_by r (take d ops)) < length (places_from 0 ops r)
place_kept ops r d op there is_it own = place_back 0 ops r d op there is_it own

length-places_from : (first : ℕ) (ops : List Op) (r : ℕ) → length (places_from first ops r) ≡ length (made_by r ops)
length-places_from first [] r = refl
length-places_from first (x ∷ ops) r =
    let rest = length-places_from (first + 1) ops r in
    elim (cases_Bool (x.id.replica == r)) [ inl own ↦ rw own (ap suc rest) | inr other ↦ rw other rest ]

pub count_nothing : (ops : List Op) (r n : ℕ) → places_from 0 ops r ≡ [] → length (made_by r (take n ops)) ≡ 0
count_nothing ops r n none =
    let all = count_within ops r n in
    let long = length-places_from 0 ops r in
    let empty = ap length none in
    omega arith

-- the kept indexes rise
pub places_rise : (ops : List Op) (r : ℕ) → IsNonDecreasing (places_from 0 ops r)
places_rise ops r = λ i j d below there.
    let a = place_at ops r i (get_or (places_from 0 ops r) i 0) (omega arith) refl in
    let b = place_at ops r j (get_or (places_from 0 ops r) j 0) there refl in
    let never : get_or (places_from 0 ops r) j 0 < get_or (places_from 0 ops r) i 0 → ⊥ = λ less.
    (let more = count_passes ops r _ _ b.op b.there b.is_it b.own less in let x = a.before in let y = b.before in omega arith) in
    let first = get_or_default (places_from 0 ops r) i d 0 (omega arith) in
    let second = get_or_default (places_from 0 ops r) j d 0 there in
    omega arith

below_from : (a b : ℕ) → nat_lt a b ≡ true → a < b
below_from a b less = grind (arith, nat_tests)

above_from : (a b : ℕ) → nat_lt a b ≡ false → b ≤ a
above_from a b not_less = grind (arith, nat_tests)

-- as many are below an index as the replica has operations before it
pub counted_below : (ops : List Op) (r n i : ℕ) → i ≤ length (places_from 0 ops r)
    → IsPartitionPoint (λ p. nat_lt p n ≡ true) (λ p. nat_lt p n ≡ false) (places_from 0 ops r) i → i ≡ length (made_by r (take n ops))
counted_below ops r n i within point =
    let m : ℕ = length (made_by r (take n ops)) in
    let all = count_within ops r n in
    let long = length-places_from 0 ops r in
    let not_fewer : i < m → ⊥ = λ fewer.
    (let there : i < length (places_from 0 ops r) = omega arith in
    let a = place_at ops r i (get_or (places_from 0 ops r) i 0) there refl in
    let from = count_rises ops r n (get_or (places_from 0 ops r) i 0) (above_from _ _ (point.1 i 0 (omega arith) there)) in
    let before = a.before in
    omega arith) in
    let not_more : m < i → ⊥ = λ more.
    (let there : m < length (places_from 0 ops r) = omega arith in
    let a = place_at ops r m (get_or (places_from 0 ops r) m 0) there refl in
    let less = count_passes ops r (get_or (places_from 0 ops r) m 0) n a.op a.there a.is_it a.own (below_from _ _ (point.0 m 0 (omega arith) more)) in
    let before = a.before in
    omega arith) in
    omega arith

-- the kept indexes are those of the list
below_from_first : (first : ℕ) (ops : List Op) (r n : ℕ) → first + length ops ≤ n → AreBelow n (places_from first ops r)
below_from_first first [] r n within = tt
below_from_first first (x ∷ ops) r n within =
    let rest = below_from_first (first + 1) ops r n (omega arith) in
    elim (cases_Bool (x.id.replica == r)) [ inl own ↦ rw own (omega arith, rest) | inr other ↦ rw other rest ]

pub places_below : (ops : List Op) (r : ℕ) → AreBelow (length ops) (places_from 0 ops r)
places_below ops r = below_from_first 0 ops r (length ops) (omega arith)

-- and the operations there are the replica's
made_from : (front ops : List Op) (r first : ℕ) → first ≡ length front → at_places (front ++ ops) (places_from first ops r) ≡ made_by r ops
made_from front [] r first long = refl
made_from front (x ∷ ops) r first long =
    let more = length-append front (x ∷ []) in
    let rest : at_places ((front ++ x ∷ []) ++ ops) (places_from (first + 1) ops r) ≡ made_by r ops = made_from (front ++ x ∷ []) ops r (first + 1) (omega arith) in
    let whole : at_places (front ++ x ∷ ops) (places_from (first + 1) ops r) ≡ made_by r ops = rw append_assoc at rest in
    elim (cases_Bool (x.id.replica == r)) [
      | inl own ↦ rw (own, long, get_behind front x ops) (ap (λ ys. x ∷ ys) (rw long at whole))
      | inr other ↦ rw other whole
    ]

pub places_made : (ops : List Op) (r : ℕ) → at_places ops (places_from 0 ops r) ≡ made_by r ops
places_made ops r = made_from [] ops r 0 refl

-- with one operation more
push_from : (first : ℕ) (ops : List Op) (op : Op) (r : ℕ) → op.id.replica ≡ r
    → places_from first (ops ++ op ∷ []) r ≡ places_from first ops r ++ (first + length ops) ∷ []
push_from first [] op r own = let here : first + 0 ≡ first = omega arith in rw (eq-eqb op.id.replica r own, here) refl
push_from first (x ∷ ops) op r own =
    let next : first + 1 + length ops ≡ first + suc (length ops) = omega arith in
    let rest : places_from (first + 1) (ops ++ op ∷ []) r ≡ places_from (first + 1) ops r ++ (first + suc (length ops)) ∷ [] =
    rw next at (push_from (first + 1) ops op r own) in
    elim (cases_Bool (x.id.replica == r)) [ inl same ↦ rw same (ap (λ ys. first ∷ ys) rest) | inr other ↦ rw other rest ]

pub places_push : (ops : List Op) (op : Op) (r : ℕ) → op.id.replica ≡ r → places_from 0 (ops ++ op ∷ []) r ≡ places_from 0 ops r ++ length ops ∷ []
places_push ops op r own = let none : 0 + length ops ≡ length ops = omega arith in rw none at (push_from 0 ops op r own)

other_from : (first : ℕ) (ops : List Op) (op : Op) (r : ℕ) → (op.id.replica == r) ≡ false
    → places_from first (ops ++ op ∷ []) r ≡ places_from first ops r
other_from first [] op r other = rw other refl
other_from first (x ∷ ops) op r other =
    let rest = other_from (first + 1) ops op r other in
    elim (cases_Bool (x.id.replica == r)) [ inl same ↦ rw same (ap (λ ys. first ∷ ys) rest) | inr differs ↦ rw differs rest ]

pub places_push_other : (ops : List Op) (op : Op) (r : ℕ) → (op.id.replica == r) ≡ false → places_from 0 (ops ++ op ∷ []) r ≡ places_from 0 ops r
places_push_other ops op r other = other_from 0 ops op r other
