-- The next operation that a clock doesn't count.
use Rattle.std.proofs.Common.{◌≡◌, ◌⊎◌, ℕ, zero, suc, ◌+◌, ◌≤◌, ◌<◌, max, min, Bool, true, false, inl, inr, List, [], ◌∷◌, length, take}
use Rattle.std.proofs.Common.{get_or, refl, sym, ◌∙◌, ap, arith}
use Rattle.std.specs.Prelude.{◌==◌, nat_lt}
use Rattle.std.specs.List.Sorted.{IsPartitionPoint}
use Rattle.std.proofs.lemmas.Bool.{cases_Bool, eqb-true, eq-eqb, lt-ltb, and_parts, false≢true}
use Rattle.std.proofs.lemmas.Bool.Decides.{nat_tests}
use Rattle.std.proofs.lemmas.List.{get_or_default}
use Rattle.op_ids.specs.Clock.{count_of, is_within}
use Rattle.op_model.specs.declared.op.Op.{Op}
use Rattle.op_model.specs.Causality.{clock_of, made_by, is_known, IsCausallyClosed}
use Rattle.model_laws.proofs.Ready.{count_made}
use Rattle.replica_core.specs.Makers.{places_from}
use Rattle.replica_core.specs.Telling.{IsNextUntold}
use Rattle.replica_core.proofs.FollowLemmas.{follows_front}
use Rattle.replica_core.proofs.OwnLemmas.{count_rises, count_within, count_passes, counted_below, place_at, place_kept}

-- in a causally closed list a clock counts an operation where it counts more of its replica than come before it
pub known_by_count : (ops : List Op) (k r : ℕ) (op : Op) (clock : List (ℕ × ℕ)) → IsCausallyClosed ops → k < length ops → op ≡ get_or ops k op
    → op.id.replica ≡ r → is_known clock op ≡ nat_lt (length (made_by r (take k ops))) (count_of clock r)
known_by_count ops k r op clock closed there is_it own =
    let ready = (follows_front ops k op closed there is_it).1.ready in
    let count : ℕ = count_of (clock_of (take k ops)) op.id.replica in
    let same : count ≡ count_of op.deps op.id.replica =
    eqb-true _ _ (and_parts (count == count_of op.deps op.id.replica) (is_within op.deps (clock_of (take k ops))) ready).0 in
    let made : count_of op.deps op.id.replica ≡ length (made_by op.id.replica (take k ops)) = sym same ∙ count_made (take k ops) op.id.replica in
    ap (λ n. nat_lt n (count_of clock op.id.replica)) made ∙ ap (λ s. nat_lt (length (made_by s (take k ops))) (count_of clock s)) own

not_more : (a b : ℕ) → nat_lt a b ≡ false → b ≤ a
not_more a b less = grind (arith, nat_tests)

less_from : (a b : ℕ) → nat_lt a b ≡ true → a < b
less_from a b less = grind (arith, nat_tests)

not_less : (a b : ℕ) → b ≤ a → nat_lt a b ≡ false
not_less a b more = grind (arith, nat_tests)

-- how many of a replica's operations need no look: those that the clock counts, and those before an index
pub record ArePassed (clock : List (ℕ × ℕ)) (ops : List Op) (r from at : ℕ) : Type 0 where
  pub closed : IsCausallyClosed ops
  pub passed : at ≡ max (length (made_by r (take from ops))) (count_of clock r)

-- an operation of the replica that the clock doesn't count has at least this number of others, at, before it
passed_before : (clock : List (ℕ × ℕ)) (ops : List Op) (r from at k : ℕ) (op : Op) → ArePassed clock ops r from at → from ≤ k → k < length ops → op ≡ get_or ops k op
    → op.id.replica ≡ r → is_known clock op ≡ false → at ≤ length (made_by r (take k ops))
passed_before clock ops r from at k op passed behind there is_it own new =
    let more = not_more (length (made_by r (take k ops))) (count_of clock r) (sym (known_by_count ops k r op clock passed.closed there is_it own) ∙ new) in
    let rises = count_rises ops r from k behind in
    let is_at = passed.passed in
    omega arith

known_unless : (clock : List (ℕ × ℕ)) (op : Op) → (is_known clock op ≡ false → ⊥) → is_known clock op ≡ true
known_unless clock op never = elim (cases_Bool (is_known clock op)) [ inl known ↦ known | inr new ↦ absurd (never new) ]

-- the index of the first one behind those is the next one
pub next_there : (clock : List (ℕ × ℕ)) (ops : List Op) (r from at p : ℕ) → ArePassed clock ops r from at → at < length (places_from 0 ops r)
    → p ≡ get_or (places_from 0 ops r) at 0 → IsNextUntold clock (λ op. op.id.replica == r) ops from p
next_there clock ops r from at p passed there is_p =
    let place = place_at ops r at p there is_p in
    let before = place.before in
    let is_at = passed.passed in
    record {
      within = let within = place.there in omega arith;
      known = λ k op behind less is_it asked.
          let own : op.id.replica ≡ r = eqb-true op.id.replica r asked in
          let here : k < length ops = let within = place.there in omega arith in
          known_unless clock op (λ new.
          let many = passed_before clock ops r from at k op passed behind here is_it own new in
          let more = count_passes ops r k p op here is_it own less in
          omega arith);
      behind = λ within.
          let never : p < from → ⊥ = λ less.
          (let more = count_passes ops r p from place.op place.there place.is_it place.own less in omega arith) in
          omega arith;
      new = λ op within is_it.
          let own : op.id.replica ≡ r = ap (λ (o : Op). o.id.replica) (is_it ∙ get_or_default ops p op place.op within ∙ sym place.is_it) ∙ place.own in
          known_by_count ops p r op clock passed.closed within is_it own ∙ not_less (length (made_by r (take p ops))) (count_of clock r) (omega arith);
    }

-- where there is none behind those, there is no next one
pub next_none : (clock : List (ℕ × ℕ)) (ops : List Op) (r from at : ℕ) → ArePassed clock ops r from at → length (places_from 0 ops r) ≤ at
    → IsNextUntold clock (λ op. op.id.replica == r) ops from (length ops)
next_none clock ops r from at passed none = record {
  within = omega arith;
  known = λ k op behind less is_it asked.
      let own : op.id.replica ≡ r = eqb-true op.id.replica r asked in
      known_unless clock op (λ new.
      let many = passed_before clock ops r from at k op passed behind less is_it own new in
      let kept = place_kept ops r k op less is_it own in
      omega arith);
  behind = λ within. absurd (omega arith);
  new = λ op within is_it. absurd (omega arith);
}

-- of two next ones the lesser is that of all that are asked for
pub next_of_both : (clock : List (ℕ × ℕ)) (one two both : Op → Bool) (ops : List Op) (from a b n : ℕ) → IsNextUntold clock one ops from a → IsNextUntold clock two ops from b
    → n ≡ min a b → ((op : Op) → both op ≡ true → (one op ≡ true) ⊎ (two op ≡ true)) → IsNextUntold clock both ops from n
next_of_both clock one two both ops from a b n first second is_n asked = record {
  within = let x = first.within in omega arith;
  known = λ k op behind less is_it ask. elim (asked op ask) [
    | inl is_one ↦ first.known k op behind (omega arith) is_it is_one
    | inr is_two ↦ second.known k op behind (omega arith) is_it is_two
  ];
  behind = λ within. elim (lesser a b n is_n) [
    | inl e ↦ rw e (first.behind (omega arith))
    | inr e ↦ rw e (second.behind (omega arith))
  ];
  new = λ op within is_it. elim (lesser a b n is_n) [
    | inl e ↦ first.new op (omega arith) (rw e at is_it)
    | inr e ↦ second.new op (omega arith) (rw e at is_it)
  ];
}
  where
    lesser : (a b n : ℕ) → n ≡ min a b → (n ≡ a) ⊎ (n ≡ b)
    lesser a b n is_n = elim (cases_Bool (nat_lt a b)) [
      | inl less ↦ inl (let below = less_from a b less in omega arith)
      | inr not ↦ inr (let above = not_more a b not in omega arith)
    ]

-- none is asked for
pub next_at_first : (clock : List (ℕ × ℕ)) (ops : List Op) (from : ℕ) → IsNextUntold clock (λ op. nat_lt 0 (count_of [] op.id.replica)) ops from (length ops)
next_at_first clock ops from = record {
  within = omega arith;
  known = λ k op behind less is_it asked. absurd (false≢true asked);
  behind = λ within. absurd (omega arith);
  new = λ op within is_it. absurd (omega arith);
}

asked_suc : (es : List (ℕ × ℕ)) (i : ℕ) (e : ℕ × ℕ) (op : Op) → i < length es → e ≡ get_or es i e → nat_lt 0 (count_of (take (suc i) es) op.id.replica) ≡ true
    → (nat_lt 0 (count_of (take i es) op.id.replica) ≡ true) ⊎ ((op.id.replica == e.0) ≡ true)
asked_suc [] i e op there is_it asked = absurd (omega arith)
asked_suc (x ∷ es) zero e op there is_it asked =
    elim (cases_Bool (x.0 == op.id.replica)) [
      | inl own ↦ inr (eq-eqb op.id.replica e.0 (sym (ap (λ (y : ℕ × ℕ). y.0) is_it ∙ eqb-true x.0 op.id.replica own)))
      | inr other ↦ absurd (false≢true (rw other at asked))
    ]
asked_suc (x ∷ es) (suc i) e op there is_it asked =
    elim (cases_Bool (x.0 == op.id.replica)) [
      | inl own ↦ let here : nat_lt 0 x.1 ≡ true = rw own at asked in inl (rw own here)
      | inr other ↦ elim (asked_suc es i e op (omega arith) is_it (rw other at asked)) [ inl before ↦ inl (rw other before) | inr here ↦ inr here ]
    ]

-- with those of one more entry of a clock
pub asked_more : (es : List (ℕ × ℕ)) (i : ℕ) (e : ℕ × ℕ) (op : Op) → i < length es → e ≡ get_or es i e → nat_lt 0 (count_of (take (i + 1) es) op.id.replica) ≡ true
    → (nat_lt 0 (count_of (take i es) op.id.replica) ≡ true) ⊎ ((op.id.replica == e.0) ≡ true)
asked_more es i e op there is_it asked =
    let up : i + 1 ≡ suc i = omega arith in
    asked_suc es i e op there is_it (rw up at asked)

-- each operation is asked for where each replica's are
pub all_asked : (ops : List Op) (k : ℕ) (op : Op) → k < length ops → op ≡ get_or ops k op → nat_lt 0 (count_of (clock_of ops) op.id.replica) ≡ true
all_asked ops k op there is_it =
    let more = count_passes ops op.id.replica k (suc k) op there is_it refl (omega arith) in
    let all = count_within ops op.id.replica (suc k) in
    let made = count_made ops op.id.replica in
    lt-ltb 0 (count_of (clock_of ops) op.id.replica) (omega arith)

pub next_of_all : (clock : List (ℕ × ℕ)) (ops : List Op) (counts : List (ℕ × ℕ)) (from next : ℕ) → counts ≡ clock_of ops
    → IsNextUntold clock (λ op. nat_lt 0 (count_of counts op.id.replica)) ops from next → IsNextUntold clock (λ op. true) ops from next
next_of_all clock ops counts from next is_counts among = record {
  within = among.within;
  known = λ k op behind less is_it asked.
      let within = among.within in
      among.known k op behind less is_it (rw is_counts (all_asked ops k op (omega arith) is_it));
  behind = among.behind;
  new = among.new;
}

-- what a search by halves passes
pub passed_by : (clock : List (ℕ × ℕ)) (ops : List Op) (r from at below known : ℕ) (places : List ℕ) → IsCausallyClosed ops → places ≡ places_from 0 ops r
    → below ≤ length places → IsPartitionPoint (λ p. nat_lt p from ≡ true) (λ p. nat_lt p from ≡ false) places below → known ≡ count_of clock r → at ≡ max below known
    → ArePassed clock ops r from at
passed_by clock ops r from at below known places closed are within point counted is_at =
    let before : below ≡ length (made_by r (take from ops)) = counted_below ops r from below (rw are at within) (rw are at point) in
    record { closed = closed; passed = is_at ∙ (ap (λ n. max n known) before ∙ ap (max (length (made_by r (take from ops)))) counted) }

-- where none of a replica's are kept, there is no next one
pub next_of_none : (clock : List (ℕ × ℕ)) (ops : List Op) (r from : ℕ) → IsCausallyClosed ops → places_from 0 ops r ≡ []
    → IsNextUntold clock (λ op. op.id.replica == r) ops from (length ops)
next_of_none clock ops r from closed none =
    let empty = ap length none in
    next_none clock ops r from _ (record { closed = closed; passed = refl }) (omega arith)
