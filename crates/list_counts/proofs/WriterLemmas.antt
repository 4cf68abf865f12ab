-- Who wrote in a document: the first replicas that did, as they are kept, are all that did where a store has room for them.
use Rattle.std.proofs.Common.{◌≡◌, ◌⊎◌, inl, inr, ℕ, suc, ◌+◌, ◌≤◌, ◌<◌, Bool, true, false, true≢false, ◌||◌, ◌&&◌, List, [], ◌∷◌, ◌++◌, length}
use Rattle.std.proofs.Common.{filter, map, take, get_or, refl, sym, ap, ◌∙◌, arith, append-nil, length-append}
use Rattle.std.specs.Prelude.{◌==◌, ◌≢◌, nat_lt, if◌then◌else◌}
use Rattle.std.specs.List.{list_any}
use Rattle.std.proofs.Math.Bool.{or-false}
use Rattle.std.proofs.lemmas.Bool.{cases_Bool, or_cases, or_left, or_parts, or_right}
use Rattle.std.proofs.lemmas.Bool.Decides.{nat_tests}
use Rattle.std.proofs.lemmas.List.{length-map, take_more}
use Rattle.std.proofs.lemmas.List.Elements.{filter-append}
use Rattle.std.proofs.lemmas.List.Folds.{list_any-append}
use Rattle.op_ids.specs.Clock.{advanced}
use Rattle.op_model.specs.declared.op.Op.{Op}
use Rattle.op_model.specs.Causality.{clock_of}
use Rattle.list_counts.specs.Documents.{first_writers, with_all, with_writer, wrote}

-- is one of these numbers
abbrev has : List ℕ → ℕ → Bool
has ns n = list_any (λ m. m == n) ns

-- operations after others are put after theirs
pub with_all-append : (known : List ℕ) (a b : List Op) → with_all known (a ++ b) ≡ with_all (with_all known a) b
with_all-append known [] b = refl
with_all-append known (op ∷ a) b = with_all-append (with_writer op.id.replica known) a b

-- operations so far, and one more
pub with_all-more : (known : List ℕ) (ops : List Op) (i : ℕ) (op : Op) → i < length ops → op ≡ get_or ops i op
    → with_all known (take (i + 1) ops) ≡ with_writer op.id.replica (with_all known (take i ops))
with_all-more known ops i op here is =
    ap (with_all known) (take_more ops i op here ∙ ap (λ o. take i ops ++ o ∷ []) (sym is)) ∙ with_all-append known (take i ops) (op ∷ [])

-- one more operation of the document
pub first_writers-push : (ops : List Op) (doc : ℕ) (op : Op) → op.doc ≡ doc
    → first_writers (ops ++ op ∷ []) doc ≡ with_writer op.id.replica (first_writers ops doc)
first_writers-push ops doc op same =
    let it : (op.doc == doc) ≡ true = grind (arith, nat_tests) in
    let one : filter (λ o. o.doc == doc) (op ∷ []) ≡ op ∷ [] = rw it refl in
    ap (with_all []) (filter-append (λ o. o.doc == doc) ops (op ∷ []) ∙ ap (λ xs. filter (λ o. o.doc == doc) ops ++ xs) one)
    ∙ with_all-append [] (filter (λ o. o.doc == doc) ops) (op ∷ [])

-- one more operation of another document
pub first_writers-other : (ops : List Op) (doc : ℕ) (op : Op) → (op.doc == doc) ≡ false
    → first_writers (ops ++ op ∷ []) doc ≡ first_writers ops doc
first_writers-other ops doc op other =
    let none : filter (λ o. o.doc == doc) (op ∷ []) ≡ [] = rw other refl in
    ap (with_all []) (filter-append (λ o. o.doc == doc) ops (op ∷ []) ∙ ap (λ xs. filter (λ o. o.doc == doc) ops ++ xs) none ∙ append-nil _)

-- these numbers without the first one that is this
abbrev without : ℕ → List ℕ → List ℕ
without n [] = []
without n (m ∷ ms) = if m == n then ms else m ∷ without n ms

-- it was one more
without-length : (ns : List ℕ) (n : ℕ) → has ns n ≡ true → length ns ≡ suc (length (without n ns))
without-length [] n h = absurd (true≢false (sym h))
without-length (m ∷ ms) n h =
    elim (cases_Bool (m == n)) [
      | inl same ↦ rw same refl
      | inr other ↦ let rest : has ms n ≡ true = rw other at h in rw other (ap suc (without-length ms n rest))
    ]

-- a number that is one of these after another one
has-cases : (m : ℕ) (ms : List ℕ) (n : ℕ) → has (m ∷ ms) n ≡ true → (m ≡ n) ⊎ (has ms n ≡ true)
has-cases m ms n h =
    elim (cases_Bool (m == n)) [ inl same ↦ inl (grind (arith, nat_tests)) | inr other ↦ inr (rw other at h) ]

has-first : (n : ℕ) (ns : List ℕ) → has (n ∷ ns) n ≡ true
has-first n ns = let same : (n == n) ≡ true = grind (arith, nat_tests) in rw same refl

has-later : (n q : ℕ) (ns : List ℕ) → has ns q ≡ true → has (n ∷ ns) q ≡ true
has-later n q ns h = or_right (n == q) (has ns q) h

-- the others are still there
without-has : (ns : List ℕ) (n q : ℕ) → has ns q ≡ true → n ≢ q → has (without n ns) q ≡ true
without-has [] n q h other = h
without-has (m ∷ ms) n q h other =
    elim (cases_Bool (m == n)) [
      | inl same ↦ rw same (elim (has-cases m ms q h) [
        | inl it ↦ absurd (other (grind (arith, nat_tests)))
        | inr rest ↦ rest
      ])
      | inr apart ↦ rw apart (elim (has-cases m ms q h) [
        | inl it ↦ rw it (has-first q (without n ms))
        | inr rest ↦ has-later m q (without n ms) (without-has ms n q rest other)
      ])
    ]

-- each stands there once
abbrev Distinct : List ℕ → Type 0
Distinct [] = Unit {0}
Distinct (n ∷ ns) = (has ns n ≡ false) × Distinct ns

-- all of them are among others
abbrev AreAmong : List ℕ → List ℕ → Type 0
AreAmong ns ms = (q : ℕ) → has ns q ≡ true → has ms q ≡ true

has-other : (n q : ℕ) (ns : List ℕ) → has ns n ≡ false → has ns q ≡ true → n ≢ q
has-other n q ns missing found same = true≢false (sym found ∙ ap (has ns) (sym same) ∙ missing)

-- distinct numbers that are among others are no more than these
at_most : (ns ms : List ℕ) → Distinct ns → AreAmong ns ms → length ns ≤ length ms
at_most [] ms distinct among = omega arith
at_most (n ∷ ns) ms distinct among =
    let first = without-length ms n (among n (has-first n ns)) in
    let rest = at_most ns (without n ms) distinct.1
    (λ q h. without-has ms n q (among q (has-later n q ns h)) (has-other n q ns distinct.0 h)) in
    omega (arith, rest, first)

-- numbers with one more after them
has-push : (ns : List ℕ) (n q : ℕ) → has (ns ++ n ∷ []) q ≡ (has ns q || (n == q))
has-push ns n q = list_any-append (λ m. m == q) ns (n ∷ []) ∙ ap (λ r. has ns q || r) (or-false (n == q))

Distinct-push : (ns : List ℕ) (n : ℕ) → Distinct ns → has ns n ≡ false → Distinct (ns ++ n ∷ [])
Distinct-push [] n distinct new = (refl, tt)
Distinct-push (m ∷ ms) n distinct new =
    let parts = or_parts (m == n) (has ms n) new in
    let apart : (n == m) ≡ false = grind (arith, nat_tests, parts.0) in
    (has-push ms n m ∙ rw (distinct.0, apart) refl, Distinct-push ms n distinct.1 parts.1)

-- a list of writers that is kept among the replicas of a store
record IsKept (known replicas : List ℕ) : Type 0 where
  distinct : Distinct known
  among : AreAmong known replicas

-- one more writer, which is one of the replicas, is kept
kept-writer : (known replicas : List ℕ) (w : ℕ) → length replicas ≤ 16 → has replicas w ≡ true → IsKept known replicas
    → IsKept (with_writer w known) replicas × ((q : ℕ) → has (with_writer w known) q ≡ (has known q || (w == q)))
kept-writer known replicas w few one kept =
    elim (cases_Bool (has known w)) [
      | inl there ↦ rw there (
        kept,
        λ q. elim (cases_Bool (w == q)) [
          | inl same ↦ let it : w ≡ q = grind (arith, nat_tests) in rw same (ap (has known) (sym it) ∙ there ∙ sym (or_right (has known q) true refl))
          | inr other ↦ rw other (sym (or-false (has known q)))
        ],
      )
      | inr new ↦
          let more : Distinct (w ∷ known) = (new, kept.distinct) in
          let all : AreAmong (w ∷ known) replicas = λ q h. elim (has-cases w known q h) [
            | inl it ↦ ap (has replicas) (sym it) ∙ one
            | inr rest ↦ kept.among q rest
          ] in
          let long = at_most (w ∷ known) replicas more all in
          let room : nat_lt (length known) 16 ≡ true = grind (arith, nat_tests, long, few) in
          rw (new, room) (
            record {
              distinct = Distinct-push known w kept.distinct new;
              among = λ q h. all q (elim (or_cases (has known q) (w == q) (sym (has-push known w q) ∙ h)) [
                | inl rest ↦ has-later w q known rest
                | inr same ↦ rw same refl
              ]);
            },
            has-push known w,
          )
    ]

or_joined : (a b c : Bool) → ((a || b) || c) ≡ (a || (b || c))
or_joined true b c = refl
or_joined false b c = refl

or_swapped : (a b c : Bool) → (a || (b || c)) ≡ (b || (a || c))
or_swapped true true c = refl
or_swapped true false c = refl
or_swapped false b c = refl

or_twice : (a b : Bool) → (a || b) ≡ (a || (a || b))
or_twice true b = refl
or_twice false b = refl

-- one of these operations is a replica's
abbrev is_by : List Op → ℕ → Bool
is_by ops replica = list_any (λ op. op.id.replica == replica) ops

-- the writers that are kept of operations by replicas of a store are all who made one
kept-all : (ops : List Op) (known replicas : List ℕ) → length replicas ≤ 16
    → ((r : ℕ) → is_by ops r ≡ true → has replicas r ≡ true) → IsKept known replicas
    → (q : ℕ) → has (with_all known ops) q ≡ (has known q || is_by ops q)
kept-all [] known replicas few among kept q = sym (or-false (has known q))
kept-all (op ∷ ops) known replicas few among kept q =
    let w = op.id.replica in
    let self : (w == w) ≡ true = grind (arith, nat_tests) in
    let one = kept-writer known replicas w few (among w (or_left (w == w) (is_by ops w) self)) kept in
    kept-all ops (with_writer w known) replicas few (λ r h. among r (or_right (w == r) (is_by ops r) h)) one.0 q
    ∙ ap (λ b. b || is_by ops q) (one.1 q) ∙ or_joined (has known q) (w == q) (is_by ops q)

-- a replica made one of a document's operations exactly where it wrote in it
is_by-filter : (ops : List Op) (doc q : ℕ) → is_by (filter (λ op. op.doc == doc) ops) q ≡ wrote ops doc q
is_by-filter [] doc q = refl
is_by-filter (op ∷ ops) doc q =
    let rest = is_by-filter ops doc q in
    elim (cases_Bool (op.doc == doc)) [
      | inl same ↦ rw same (ap (λ b. (op.id.replica == q) || b) rest)
      | inr other ↦ rw other rest
    ]

-- the replicas of a clock with one more operation of one of them
has-advanced : (es : List (ℕ × ℕ)) (w q : ℕ)
    → has (map (λ e. e.0) (advanced es w)) q ≡ ((w == q) || has (map (λ e. e.0) es) q)
has-advanced [] w q = refl
has-advanced (e ∷ es) w q =
    elim (cases_Bool (nat_lt w e.0)) [
      | inl below ↦ rw below refl
      | inr above ↦ elim (cases_Bool (e.0 == w)) [
        | inl same ↦
            let it : e.0 ≡ w = grind (arith, nat_tests) in
            rw (above, same) (or_twice (w == q) (has (map (λ x. x.0) es) q)
            ∙ ap (λ n. (w == q) || ((n == q) || has (map (λ x. x.0) es) q)) (sym it))
        | inr other ↦
            rw (above, other) (ap (λ b. (e.0 == q) || b) (has-advanced es w q)
            ∙ or_swapped (e.0 == q) (w == q) (has (map (λ x. x.0) es) q))
      ]
    ]

-- the replicas of a clock are those that made an operation
has-clock : (ops : List Op) (q : ℕ) → has (map (λ e. e.0) (clock_of ops)) q ≡ is_by ops q
has-clock [] q = refl
has-clock (op ∷ ops) q =
    has-advanced (clock_of ops) op.id.replica q ∙ ap (λ b. (op.id.replica == q) || b) (has-clock ops q)

-- who made one of a document's operations made an operation
by-filter : (ops : List Op) (doc q : ℕ) → is_by (filter (λ op. op.doc == doc) ops) q ≡ true → is_by ops q ≡ true
by-filter [] doc q h = h
by-filter (op ∷ ops) doc q h =
    elim (cases_Bool (op.doc == doc)) [
      | inl same ↦ elim (or_cases (op.id.replica == q) (is_by (filter (λ o. o.doc == doc) ops) q) (rw same at h)) [
        | inl it ↦ or_left (op.id.replica == q) (is_by ops q) it
        | inr rest ↦ or_right (op.id.replica == q) (is_by ops q) (by-filter ops doc q rest)
      ]
      | inr other ↦ or_right (op.id.replica == q) (is_by ops q) (by-filter ops doc q (rw other at h))
    ]

-- where a store has room for all replicas, the first writers that are kept are all
pub first_writers-all : (ops : List Op) (doc q : ℕ) → length (clock_of ops) ≤ 16
    → list_any (λ writer. writer == q) (first_writers ops doc) ≡ wrote ops doc q
first_writers-all ops doc q few =
    let own = filter (λ op. op.doc == doc) ops in
    let replicas = map (λ e. e.0) (clock_of ops) in
    let count : length replicas ≡ length (clock_of ops) = length-map (clock_of ops) (λ e. e.0) in
    kept-all own [] replicas (omega (arith, count, few))
    (λ r h. has-clock ops r ∙ by-filter ops doc r h)
    record { distinct = tt; among = λ r h. absurd (true≢false (sym h)) } q
    ∙ is_by-filter ops doc q
