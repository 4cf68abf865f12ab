-- Ranks that are kept, and which one of them decides.
use Rattle.std.proofs.Common.{◌≡◌, ℕ, ◌<◌, ◌==◌, Bool, true, false, ◌&&◌, ◌||◌, not, ◌⊎◌, inl, inr, List, [], ◌∷◌, Option, Some, None, cond}
use Rattle.std.proofs.Common.{refl, sym, ◌∙◌, ap, arith}
use Rattle.std.specs.Prelude.{filter, slice_get, option_and_then}
use Rattle.std.specs.BTreeMap.{is_at}
use Rattle.std.specs.Ordering.{is_lt}
use Rattle.std.proofs.lemmas.Bool.{cases_Bool, cases_order, eq-eqb, eqb-true, ne_eqb, both_ways}
use Rattle.std.proofs.lemmas.Bool.Decides.{nat_tests}
use Rattle.op_ids.specs.Id.{is_below, is_same}
use Rattle.op_ids.proofs.IdLemmas.{same_from_test, test_from_same}
use Rattle.op_model.specs.declared.mark.MarkKey.{MarkKey}
use Rattle.op_model.specs.declared.marking.Marking.{Marking}
use Rattle.op_model.specs.Marks.{is_key, greater, greatest}
use Rattle.op_model.specs.Spans.{with_number}
use Rattle.op_model.specs.Rising.{AllOver, IsUp}
use Rattle.op_model.proofs.RisingLemmas.{up_with}
use Rattle.model_laws.proofs.Up.{has, has-filter, has-with, same_members, up_filter}
use Rattle.comment_marks.specs.Standing.{decided}
use Rattle.comment_marks.proofs.Deciding.{greater_is_one}
use Rattle.span_flatten.specs.declared.rank.Rank.{Rank}
use Rattle.span_flatten.specs.Picking.{is_of_key, picked}
use Rattle.span_flatten.specs.Ranking.{is_ranked, rank_cmp, AreRanks}

-- a rank is found by just itself
at_same : (a b : Rank) → is_at (rank_cmp a) b ≡ (is_same a.id b.id && a.before.0 == b.before.0)
unfolding is_same
at_same a b = grind (arith, nat_tests)

-- an id that isn't below, and of equal ids the earlier one
not_below : (a b : Rank) → is_lt (rank_cmp a b) ≡ false → is_below a.id b.id ≡ false
unfolding is_below
not_below a b h = grind (arith, nat_tests)

earlier_below : (a b : Rank) → is_lt (rank_cmp a b) ≡ false → b.before.0 < a.before.0 → is_below b.id a.id ≡ true
unfolding is_below
earlier_below a b h less = grind (arith, nat_tests)

-- those of these mark operations that are about a key
abbrev of_key : List Marking → MarkKey → List ℕ → List Marking
of_key ms key set = filter (λ m. is_key m.key key) (picked ms set)

at_or_past : (i : ℕ) (ns : List ℕ) (j : ℕ) → AllOver i ns → has j ns ≡ true → i < j
at_or_past i [] j over h = absurd (both_ways false refl h)
at_or_past i (n ∷ ns) j over h =
    elim (cases_order n j) [
      | inl same ↦ let first = over.0 in omega arith
      | inr o ↦ let apart : (n == j) ≡ false = elim o [ inl l ↦ ne_eqb n j (omega arith) | inr l ↦ ne_eqb n j (omega arith) ] in
          at_or_past i ns j over.1 (rw apart at h)
    ]

there_behind : (i j : ℕ) (ns : List ℕ) → has j ns ≡ true → has j (i ∷ ns) ≡ true
there_behind i j ns h = elim (cases_Bool (i == j)) [ inl e ↦ rw e refl | inr e ↦ rw e h ]

there_first : (i : ℕ) (ns : List ℕ) → has i (i ∷ ns) ≡ true
there_first i ns = rw (eq-eqb i i refl) refl

-- a mark operation that is there, by its index
abbrev IsAt : List Marking → MarkKey → List ℕ → ℕ → Marking → Type 0
IsAt ms key set j n = (has j set ≡ true) × (slice_get ms j ≡ Some n) × (is_key n.key key ≡ true)

-- what is there by the first index, and by none of the others
one_of : (ms : List Marking) (key : MarkKey) (i : ℕ) (set : List ℕ)
    → ((m : Marking) × (slice_get ms i ≡ Some m) × (is_key m.key key ≡ true) × (of_key ms key (i ∷ set) ≡ m ∷ of_key ms key set))
    ⊎ ((is_of_key (slice_get ms i) key ≡ false) × (of_key ms key (i ∷ set) ≡ of_key ms key set))
one_of ms key i set =
    elim (some_or_none (slice_get ms i)) [
      | inl q ↦ elim (cases_Bool (is_key q.0.key key)) [
        | inl e ↦ inl (q.0, q.1, e, rw (q.1, e) refl)
        | inr e ↦ inr (rw (q.1, e) refl, rw (q.1, e) refl)
      ]
      | inr none ↦ inr (rw none refl, rw none refl)
    ]
  where
    some_or_none : (o : Option Marking) → ((m : Marking) × (o ≡ Some m)) ⊎ (o ≡ None)
    some_or_none None = inr refl
    some_or_none (Some m) = inl (m, refl)

-- the greatest is one of them
greatest_there : (ms : List Marking) (key : MarkKey) (set : List ℕ) (n : Marking) → greatest (of_key ms key set) ≡ Some n
    → (j : ℕ) × IsAt ms key set j n
greatest_there ms key [] n e = absurd (let f : ⊥ = cc in f)
greatest_there ms key (i ∷ set) n e =
    elim (one_of ms key i set) [
      | inl q ↦ elim (greater_is_one q.0 (greatest (of_key ms key set)) n
          (let f : Some (greater q.0 (greatest (of_key ms key set))) ≡ Some n = ap greatest (sym q.3) ∙ e in let g : greater q.0 (greatest (of_key ms key set)) ≡ n = cc in g)) [
            | inl first ↦ (i, (there_first i set, q.1 ∙ ap Some first, ap (λ (m : Marking). is_key m.key key) (sym first) ∙ q.2))
            | inr rest ↦ let (j, h) = greatest_there ms key set n rest in (j, (there_behind i j set h.0, h.1, h.2))
          ]
      | inr q ↦ let (j, h) = greatest_there ms key set n (ap greatest (sym q.1) ∙ e) in (j, (there_behind i j set h.0, h.1, h.2))
    ]

-- one that the earlier ones are below, and that isn't below the later ones, is the greatest
top_at : (ms : List Marking) (key : MarkKey) (m : Marking) (at : ℕ) (set : List ℕ) → IsUp set → IsAt ms key set at m
    → ((j : ℕ) (n : Marking) → IsAt ms key set j n → (j < at → is_below n.id m.id ≡ true) × (at < j → is_below m.id n.id ≡ false))
    → greatest (of_key ms key set) ≡ Some m
top_at ms key m at [] up is_at others = absurd (both_ways false refl is_at.0)
top_at ms key m at (i ∷ set) up is_at others =
    elim (cases_order i at) [
      | inl same ↦ elim (one_of ms key i set) [
        | inl q ↦ (let is_m : q.0 ≡ m = (let both : Some q.0 ≡ Some m = sym q.1 ∙ (ap (slice_get ms) same ∙ is_at.1) in cc) in
            ap greatest q.3 ∙ ap Some (ap (λ n. greater n (greatest (of_key ms key set))) is_m ∙ stays same (greatest (of_key ms key set)) refl))
        | inr q ↦ absurd (both_ways (is_of_key (slice_get ms i) key) q.0 (ap (λ o. is_of_key o key) (ap (slice_get ms) same ∙ is_at.1) ∙ is_at.2))
      ]
      | inr o ↦ let apart : (i == at) ≡ false = elim o [ inl l ↦ ne_eqb i at (omega arith) | inr l ↦ ne_eqb i at (omega arith) ] in
          let behind : has at set ≡ true = rw apart at is_at.0 in
          let rest = top_at ms key m at set up.1 (behind, is_at.1, is_at.2) (λ j n h. others j n (there_behind i j set h.0, h.1, h.2)) in
          elim (one_of ms key i set) [
            | inl q ↦ (let below : is_below q.0.id m.id ≡ true = (others i q.0 (there_first i set, q.1, q.2)).0 (at_or_past i set at up.0 behind) in
                ap greatest q.3 ∙ ap Some (ap (greater q.0) rest ∙ rw below refl))
            | inr q ↦ ap greatest q.1 ∙ rest
          ]
    ]
  where
    stays : i ≡ at → (o : Option Marking) → greatest (of_key ms key set) ≡ o → greater m o ≡ m
    stays same None e = refl
    stays same (Some n) e =
        let (j, h) = greatest_there ms key set n e in
        let past : i < j = at_or_past i set j up.0 h.0 in
        rw ((others j n (there_behind i j set h.0, h.1, h.2)).1 (omega arith)) refl

both_parts : (a b : Bool) → (a && b) ≡ true → (a ≡ true) × (b ≡ true)
both_parts true b h = (refl, h)
both_parts false b h = absurd (both_ways false refl h)

-- the mark operation with a rank that is kept
ranked_there : (ms : List Marking) (set : List ℕ) (key : MarkKey) (kept : Rank → Bool) (r : Rank) → AreRanks ms set key kept → kept r ≡ true
    → (m : Marking) × IsAt ms key set r.before.0 m × (m.id ≡ r.id)
ranked_there ms set key kept r are h = found (slice_get ms r.before.0) refl
  where
    parts : (has r.before.0 set ≡ true) × (is_ranked (slice_get ms r.before.0) key r ≡ true)
    parts = both_parts (has r.before.0 set) (is_ranked (slice_get ms r.before.0) key r) (sym (are r) ∙ h)

    found : (o : Option Marking) → slice_get ms r.before.0 ≡ o → (m : Marking) × IsAt ms key set r.before.0 m × (m.id ≡ r.id)
    found None e = absurd (both_ways false refl (rw e at parts.1))
    found (Some m) e =
        let two = both_parts (is_key m.key key) (is_same m.id r.id) (rw e at parts.1) in
        (m, (parts.0, e, two.0), same_from_test m.id r.id two.1)

-- the rank of a mark operation that is there is kept
kept_there : (ms : List Marking) (set : List ℕ) (key : MarkKey) (kept : Rank → Bool) (j : ℕ) (n : Marking) → AreRanks ms set key kept → IsAt ms key set j n
    → kept (record { id = n.id; before = record { 0 = j } }) ≡ true
kept_there ms set key kept j n are is_at =
    are (record { id = n.id; before = record { 0 = j } }) ∙ rw (is_at.0, is_at.1, is_at.2, test_from_same n.id n.id refl) refl

-- the greatest rank is the deciding mark operation's
pub decided_by_top : (ms : List Marking) (set : List ℕ) (key : MarkKey) (kept : Rank → Bool) (r : Rank) → IsUp set → AreRanks ms set key kept
    → kept r ≡ true → ((q : Rank) → kept q ≡ true → is_lt (rank_cmp r q) ≡ false)
    → option_and_then (λ (m : Marking). m.mark) (slice_get ms r.before.0) ≡ decided (picked ms set) key
decided_by_top ms set key kept r up are here most =
    let (m, is_at, same) = ranked_there ms set key kept r are here in
    let top : greatest (of_key ms key set) ≡ Some m = top_at ms key m r.before.0 set up is_at (others m same) in
    ap (option_and_then (λ (n : Marking). n.mark)) (is_at.1 ∙ sym top)
  where
    others : (m : Marking) → m.id ≡ r.id → (j : ℕ) (n : Marking) → IsAt ms key set j n
        → (j < r.before.0 → is_below n.id m.id ≡ true) × (r.before.0 < j → is_below m.id n.id ≡ false)
    others m same j n is_at =
        let least = most (record { id = n.id; before = record { 0 = j } }) (kept_there ms set key kept j n are is_at) in (
          λ less. ap (is_below n.id) same ∙ earlier_below r (record { id = n.id; before = record { 0 = j } }) least less,
          λ more. ap (λ a. is_below a n.id) same ∙ not_below r (record { id = n.id; before = record { 0 = j } }) least,
        )

-- where none is kept, none decides
pub decided_by_none : (ms : List Marking) (set : List ℕ) (key : MarkKey) (kept : Rank → Bool) → AreRanks ms set key kept
    → ((q : Rank) → kept q ≡ false) → None ≡ decided (picked ms set) key
decided_by_none ms set key kept are none = sym (ap (option_and_then (λ (m : Marking). m.mark)) (nothing (greatest (of_key ms key set)) refl))
  where
    nothing : (o : Option Marking) → greatest (of_key ms key set) ≡ o → greatest (of_key ms key set) ≡ None
    nothing None e = e
    nothing (Some n) e =
        let (j, is_at) = greatest_there ms key set n e in
        absurd (both_ways (kept (record { id = n.id; before = record { 0 = j } })) (none _) (kept_there ms set key kept j n are is_at))

no_and : (a : Bool) → (a && false) ≡ false
no_and true = refl
no_and false = refl

-- a rank that isn't found isn't that of the i-th mark operation
not_ranked : (ms : List Marking) (key : MarkKey) (m : Marking) (i : ℕ) (q r : Rank) → slice_get ms i ≡ Some m → r.id ≡ m.id → r.before.0 ≡ i
    → is_at (rank_cmp r) q ≡ false → i ≡ q.before.0 → is_ranked (slice_get ms q.before.0) key q ≡ false
not_ranked ms key m i q r there id before apart same =
    let found : (is_same r.id q.id && r.before.0 == q.before.0) ≡ false = sym (at_same r q) ∙ apart in
    let not_same : is_same m.id q.id ≡ false = rw (eq-eqb r.before.0 q.before.0 (before ∙ same), id, no_more (is_same m.id q.id)) at found in
    rw (← same, there, not_same) (no_and (is_key m.key key))
  where
    no_more : (a : Bool) → (a && true) ≡ a
    no_more true = refl
    no_more false = refl

-- the rank that is found is the i-th mark operation's
found_rank : (q r : Rank) → is_at (rank_cmp r) q ≡ true → (r.id ≡ q.id) × (r.before.0 ≡ q.before.0)
found_rank q r h =
    let both = both_parts (is_same r.id q.id) (r.before.0 == q.before.0) (sym (at_same r q) ∙ h) in
    (same_from_test r.id q.id both.0, eqb-true r.before.0 q.before.0 both.1)

-- one more of the key
pub ranks_with : (ms : List Marking) (set : List ℕ) (key : MarkKey) (kept now : Rank → Bool) (m : Marking) (i : ℕ) (r : Rank)
    → slice_get ms i ≡ Some m → is_key m.key key ≡ true → r.id ≡ m.id → r.before.0 ≡ i
    → ((q : Rank) → now q ≡ cond (is_at (rank_cmp r) q) true (kept q)) → AreRanks ms set key kept → AreRanks ms (with_number i set) key now
ranks_with ms set key kept now m i r there about id before is are q =
    elim (cases_Bool (is_at (rank_cmp r) q)) [
      | inl found ↦ (let one = found_rank q r found in
          let here : i ≡ q.before.0 = sym before ∙ one.1 in
          let same : m.id ≡ q.id = sym id ∙ one.0 in
          is q ∙ rw (found, has-with q.before.0 i set, eq-eqb i q.before.0 here, ← here, there, about, test_from_same m.id q.id same) refl)
      | inr apart ↦ is q ∙ rw (apart, has-with q.before.0 i set) (are q ∙ more apart)
    ]
  where
    more : is_at (rank_cmp r) q ≡ false → (has q.before.0 set && is_ranked (slice_get ms q.before.0) key q)
        ≡ (((i == q.before.0) || has q.before.0 set) && is_ranked (slice_get ms q.before.0) key q)
    more apart =
        elim (cases_Bool (i == q.before.0)) [
          | inl e ↦ rw (e, not_ranked ms key m i q r there id before apart (eqb-true i q.before.0 e)) (no_and (has q.before.0 set))
          | inr e ↦ rw e refl
        ]

-- one of the key less
pub ranks_without : (ms : List Marking) (set : List ℕ) (key : MarkKey) (kept now : Rank → Bool) (m : Marking) (i : ℕ) (r : Rank)
    → slice_get ms i ≡ Some m → r.id ≡ m.id → r.before.0 ≡ i
    → ((q : Rank) → now q ≡ cond (is_at (rank_cmp r) q) false (kept q)) → AreRanks ms set key kept
    → AreRanks ms (filter (λ j. not (j == i)) set) key now
ranks_without ms set key kept now m i r there id before is are q =
    elim (cases_Bool (is_at (rank_cmp r) q)) [
      | inl found ↦ (let one = found_rank q r found in
          is q ∙ rw (found, has-filter (λ j. not (j == i)) q.before.0 set, eq-eqb q.before.0 i (sym one.1 ∙ before)) refl)
      | inr apart ↦ is q ∙ rw (apart, has-filter (λ j. not (j == i)) q.before.0 set) (are q ∙ less apart)
    ]
  where
    less : is_at (rank_cmp r) q ≡ false → (has q.before.0 set && is_ranked (slice_get ms q.before.0) key q)
        ≡ ((not (q.before.0 == i) && has q.before.0 set) && is_ranked (slice_get ms q.before.0) key q)
    less apart =
        elim (cases_Bool (q.before.0 == i)) [
          | inl e ↦ rw (e, not_ranked ms key m i q r there id before apart (sym (eqb-true q.before.0 i e))) (no_and (has q.before.0 set))
          | inr e ↦ rw e refl
        ]

not_of_key : (o : Option Marking) (key : MarkKey) (q : Rank) → is_of_key o key ≡ false → is_ranked o key q ≡ false
not_of_key None key q h = refl
not_of_key (Some m) key q h = rw h refl

-- one more, and one less, that isn't about the key
pub ranks_with_other : (ms : List Marking) (set : List ℕ) (key : MarkKey) (kept : Rank → Bool) (i : ℕ) → is_of_key (slice_get ms i) key ≡ false
    → AreRanks ms set key kept → AreRanks ms (with_number i set) key kept
ranks_with_other ms set key kept i other are q =
    are q ∙ rw (has-with q.before.0 i set) (elim (cases_Bool (i == q.before.0)) [
      | inl e ↦ rw (e, not_of_key (slice_get ms q.before.0) key q (rw (eqb-true i q.before.0 e) at other)) (no_and (has q.before.0 set))
      | inr e ↦ rw e refl
    ])

pub ranks_without_other : (ms : List Marking) (set : List ℕ) (key : MarkKey) (kept : Rank → Bool) (i : ℕ) → is_of_key (slice_get ms i) key ≡ false
    → AreRanks ms set key kept → AreRanks ms (filter (λ j. not (j == i)) set) key kept
ranks_without_other ms set key kept i other are q =
    are q ∙ rw (has-filter (λ j. not (j == i)) q.before.0 set) (elim (cases_Bool (q.before.0 == i)) [
      | inl e ↦ rw (e, not_of_key (slice_get ms q.before.0) key q (rw (sym (eqb-true q.before.0 i e)) at other)) (no_and (has q.before.0 set))
      | inr e ↦ rw e refl
    ])

-- those about a key, by the indexes of these alone
of_filter : (ms : List Marking) (key : MarkKey) (set : List ℕ) → of_key ms key set ≡ picked ms (filter (λ j. is_of_key (slice_get ms j) key) set)
of_filter ms key [] = refl
of_filter ms key (i ∷ set) =
    elim (one_of ms key i set) [
      | inl q ↦ (let here : is_of_key (slice_get ms i) key ≡ true = rw q.1 q.2 in
          q.3 ∙ rw (here, q.1) (ap (λ rest. q.0 ∷ rest) (of_filter ms key set)))
      | inr q ↦ q.1 ∙ rw q.0 (of_filter ms key set)
    ]

-- indexes that differ by one that isn't of the key alone
of_alike : (ms : List Marking) (key : MarkKey) (i : ℕ) (set other : List ℕ) → IsUp set → IsUp other → is_of_key (slice_get ms i) key ≡ false
    → ((j : ℕ) → (i == j) ≡ false → has j set ≡ has j other) → decided (picked ms set) key ≡ decided (picked ms other) key
of_alike ms key i set other up up_other apart alike =
    ap (λ ns. option_and_then (λ (m : Marking). m.mark) (greatest ns))
    (of_filter ms key set ∙ (ap (picked ms) (same_members (filter (p) set) (filter (p) other) (up_filter p set up) (up_filter p other up_other)
    (λ j. has-filter p j set ∙ (at j ∙ sym (has-filter p j other)))) ∙ sym (of_filter ms key other)))
  where
    p : ℕ → Bool
    p = λ j. is_of_key (slice_get ms j) key

    at : (j : ℕ) → (p j && has j set) ≡ (p j && has j other)
    at j =
        elim (cases_Bool (i == j)) [
          | inl e ↦ (let none : p j ≡ false = rw (eqb-true i j e) at apart in rw none refl)
          | inr e ↦ ap (λ b. p j && b) (alike j e)
        ]

-- they change nothing of what is decided for it
pub decided_with_other : (ms : List Marking) (key : MarkKey) (i : ℕ) (set : List ℕ) → IsUp set → is_of_key (slice_get ms i) key ≡ false
    → decided (picked ms (with_number i set)) key ≡ decided (picked ms set) key
decided_with_other ms key i set up other =
    of_alike ms key i (with_number i set) set (up_with i set up) up other (λ j e. rw (has-with j i set, e) refl)

pub decided_without_other : (ms : List Marking) (key : MarkKey) (i : ℕ) (set : List ℕ) → IsUp set → is_of_key (slice_get ms i) key ≡ false
    → decided (picked ms (filter (λ j. not (j == i)) set)) key ≡ decided (picked ms set) key
decided_without_other ms key i set up other =
    of_alike ms key i (filter (λ j. not (j == i)) set) set (up_filter (λ j. not (j == i)) set up) up other
    (λ j e. has-filter (λ k. not (k == i)) j set ∙ rw (turned i j e) refl)
  where
    turned : (a b : ℕ) → (a == b) ≡ false → (b == a) ≡ false
    turned a b e = elim (cases_order a b) [ inl same ↦ absurd (both_ways (a == b) e (eq-eqb a b same)) | inr o ↦ elim o [ inl l ↦ ne_eqb b a (omega arith) | inr l ↦ ne_eqb b a (omega arith) ] ]
