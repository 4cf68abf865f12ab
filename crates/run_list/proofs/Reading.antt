-- Which operation stands where.
use Rattle.std.proofs.Common.{◌≡◌, ℕ, zero, suc, ◌+◌, ◌-◌, ◌<◌, ◌≤◌, true, false, nat_lt, List}
use Rattle.std.proofs.Common.{[], ◌∷◌, length, get_or, Option, Some, None, refl, sym, ap, ◌∙◌, inl, inr, arith}
use Rattle.std.proofs.lemmas.Bool.{cases_Bool}
use Rattle.std.proofs.lemmas.Bool.Decides.{nat_tests}
use Rattle.op_ids.specs.Clock.{advanced, advanced_by}
use Rattle.op_model.specs.declared.op.Op.{Op}
use Rattle.op_model.specs.declared.op.Body.TheVariants.{Insert}
use Rattle.op_pieces.specs.Cutting.{is_next, value_of}
use Rattle.op_pieces.specs.Pieces.{next_typed}
use Rattle.op_pieces.proofs.PieceLemmas.{next_is, advanced_by-more}
use Rattle.run_list.specs.Runs.{goes_on, marks_behind, firsts_behind, starts_behind}
use Rattle.run_list.specs.Reading.{below, typed_at, run_at, read_at}

-- one more behind an operation of a run is the next one of that run
pub typed_more : (first : Op) (n v w : ℕ) → next_typed (typed_at first n v) w ≡ typed_at first (suc n) w
typed_more first zero v w =
    let before : first.id.counter ≡ first.id.counter + 0 = omega arith in
    let next : first.id.counter + 1 ≡ first.id.counter + suc 0 = omega arith in
    λ i. record {
      id = record { counter = next i; replica = first.id.replica };
      doc = first.doc;
      token = first.token;
      deps = advanced first.deps first.id.replica;
      body = Insert (Some (record { counter = before i; replica = first.id.replica })) w;
    }
typed_more first (suc n) v w =
    let next : (first.id.counter + suc n) + 1 ≡ first.id.counter + suc (suc n) = omega arith in
    let deps : advanced (advanced_by first.deps first.id.replica (suc n)) first.id.replica
    ≡ advanced_by first.deps first.id.replica (suc (suc n)) = sym (advanced_by-more first.deps first.id.replica (suc n)) in
    λ i. record {
      id = record { counter = next i; replica = first.id.replica };
      doc = first.doc;
      token = first.token;
      deps = deps i;
      body = Insert (Some (record { counter = first.id.counter + suc n; replica = first.id.replica })) w;
    }

-- what goes on with a run stands one behind
goes_on_at : (first last op : Op) (n v : ℕ) → last ≡ typed_at first n v → is_next last op ≡ true → op ≡ typed_at first (suc n) (value_of op.body)
goes_on_at first last op n v is on =
    next_is last op on ∙ ap (λ (l : Op). next_typed l (value_of op.body)) is ∙ typed_more first n v (value_of op.body)

-- runs that begin later aren't looked at
stays : (at : ℕ) (run : Op × ℕ) (from : ℕ) (last : Option Op) (ops : List Op) → at < from
    → run_at at run (starts_behind last from ops) (firsts_behind last ops) ≡ run
stays at run from last [] lt = refl
stays at run from last (op ∷ ops) lt =
    elim (cases_Bool (goes_on last op)) [
      | inl on ↦ rw on (stays at run (suc from) (Some op) ops (omega arith))
      | inr off ↦ let upper : nat_lt from (suc at) ≡ false = grind (arith, nat_tests) in rw (off, upper) refl
    ]

-- the operation n behind a place, where a run goes on that began before
reads_behind : (ops : List Op) (n at place : ℕ) (first : Op) (start : ℕ) (last : Op) (v : ℕ) (d : Op) → n < length ops → place ≡ at + n
    → start < at → last ≡ typed_at first (at - suc start) v
    → get_or ops n d
    ≡ read_at place (run_at place (first, start) (starts_behind (Some last) at ops) (firsts_behind (Some last) ops)) (get_or (marks_behind (Some last) ops) n 0)
reads_behind [] n at place first start last v d lt is begun last_is = absurd (omega arith)
reads_behind (op ∷ ops) zero at place first start last v d lt is begun last_is =
    elim (cases_Bool (is_next last op)) [
      | inl on ↦
          let next = goes_on_at first last op (at - suc start) v last_is on in
          let far : suc (at - suc start) ≡ place - start = omega arith in
          rw (on, stays place (first, start) (suc at) (Some op) ops (omega arith))
          (next ∙ ap (λ (k : ℕ). typed_at first k (value_of op.body)) far)
      | inr off ↦
          let lower : nat_lt at (suc place) ≡ true = grind (arith, nat_tests) in
          let far : 0 ≡ place - at = omega arith in
          rw (off, lower, stays place (op, at) (suc at) (Some op) ops (omega arith)) (ap (λ (k : ℕ). typed_at op k 1114112) far)
    ]
reads_behind (op ∷ ops) (suc n) at place first start last v d lt is begun last_is =
    elim (cases_Bool (is_next last op)) [
      | inl on ↦
          let next = goes_on_at first last op (at - suc start) v last_is on in
          let far : suc (at - suc start) ≡ suc at - suc start = omega arith in
          rw on (reads_behind ops n (suc at) place first start op (value_of op.body) d (omega arith) (omega arith) (omega arith)
          (next ∙ ap (λ (k : ℕ). typed_at first k (value_of op.body)) far))
      | inr off ↦
          let lower : nat_lt at (suc place) ≡ true = grind (arith, nat_tests) in
          let far : 0 ≡ suc at - suc at = omega arith in
          rw (off, lower) (reads_behind ops n (suc at) place op at op 0 d (omega arith) (omega arith) (omega arith) (ap (λ (k : ℕ). typed_at op k 0) far))
    ]

-- each operation is read so
pub reads : (ops : List Op) (n : ℕ) (d e : Op) → n < length ops
    → get_or ops n d ≡ read_at n (run_at n (e, 0) (starts_behind None 0 ops) (firsts_behind None ops)) (get_or (marks_behind None ops) n 0)
reads [] n d e lt = absurd (omega arith)
reads (op ∷ ops) zero d e lt = rw (stays 0 (op, 0) 1 (Some op) ops (omega arith)) refl
reads (op ∷ ops) (suc n) d e lt =
    let lower : nat_lt 0 (suc (suc n)) ≡ true = grind (arith, nat_tests) in
    rw lower (reads_behind ops n 1 (suc n) op 0 op 0 d (omega arith) (omega arith) (omega arith) refl)

-- the run that a search by halves finds

none_is_one : {n : ℕ} → 0 ≡ suc n → ⊥
none_is_one {n} is = omega arith

none_found : (at : ℕ) (run : Op × ℕ) (ss : List ℕ) (fs : List Op) → below (suc at) ss ≡ 0 → run_at at run ss fs ≡ run
none_found at run [] fs none = refl
none_found at run (s ∷ ss) [] none = refl
none_found at run (s ∷ ss) (f ∷ fs) none =
    elim (cases_Bool (nat_lt s (suc at))) [
      | inl lower ↦ let never : suc (below (suc at) ss) ≡ 0 = rw lower at none in absurd (omega arith)
      | inr upper ↦ rw upper refl
    ]

pub run_found : (at : ℕ) (run : Op × ℕ) (ss : List ℕ) (fs : List Op) (j d : ℕ) (e : Op) → below (suc at) ss ≡ suc j → length fs ≡ length ss
    → run_at at run ss fs ≡ (get_or fs j e, get_or ss j d)
run_found at run [] fs j d e count long = absurd (omega arith)
run_found at run (s ∷ ss) [] j d e count long = absurd (omega arith)
run_found at run (s ∷ ss) (f ∷ fs) zero d e count long =
    elim (cases_Bool (nat_lt s (suc at))) [
      | inl lower ↦ let one : suc (below (suc at) ss) ≡ 1 = rw lower at count in rw lower (none_found at (f, s) ss fs (omega arith))
      | inr upper ↦ absurd (none_is_one (rw upper at count))
    ]
run_found at run (s ∷ ss) (f ∷ fs) (suc j) d e count long =
    elim (cases_Bool (nat_lt s (suc at))) [
      | inl lower ↦
          let more : suc (below (suc at) ss) ≡ suc (suc j) = rw lower at count in
          rw lower (run_found at (f, s) ss fs j d e (omega arith) (omega arith))
      | inr upper ↦ absurd (none_is_one (rw upper at count))
    ]

-- it begins up to there
pub found_below : (n : ℕ) (ss : List ℕ) (j d : ℕ) → below n ss ≡ suc j → (j < length ss) × (get_or ss j d < n)
found_below n [] j d count = absurd (omega arith)
found_below n (s ∷ ss) zero d count =
    elim (cases_Bool (nat_lt s n)) [
      | inl lower ↦ (omega arith, grind (arith, nat_tests))
      | inr upper ↦ absurd (none_is_one (rw upper at count))
    ]
found_below n (s ∷ ss) (suc j) d count =
    elim (cases_Bool (nat_lt s n)) [
      | inl lower ↦
          let more : suc (below n ss) ≡ suc (suc j) = rw lower at count in
          let rest = found_below n ss j d (omega arith) in
          (omega arith, rest.1)
      | inr upper ↦ absurd (none_is_one (rw upper at count))
    ]

-- the first operation begins a run
pub some_found : (ops : List Op) (n : ℕ) → 0 < length ops → 0 < below (suc n) (starts_behind None 0 ops)
some_found [] n some = absurd (omega arith)
some_found (op ∷ ops) n some = let lower : nat_lt 0 (suc n) ≡ true = grind (arith, nat_tests) in rw lower (omega arith)

pub below_within : (n : ℕ) (ss : List ℕ) → below n ss ≤ length ss
below_within n [] = omega arith
below_within n (s ∷ ss) =
    let rest = below_within n ss in
    elim (cases_Bool (nat_lt s n)) [ inl lower ↦ rw lower (omega arith) | inr upper ↦ rw upper (omega arith) ]
