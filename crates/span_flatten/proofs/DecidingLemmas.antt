-- What a mark operation that begins or ends makes of what decides.
use Rattle.std.proofs.Common.{◌≡◌, ℕ, ◌==◌, Bool, true, false, ◌&&◌, ◌||◌, not, inl, inr, List, Option, Some, None, cond, refl, sym, ◌∙◌, ap, length, ◌≤◌}
use Rattle.std.specs.Prelude.{filter, is_some, slice_get}
use Rattle.std.specs.Option.{option_copied}
use denote.Ref.{Bor}
use Rattle.op_model.specs.declared.mark.Mark.{Mark}
use Rattle.std.specs.BTreeMap.{is_at}
use Rattle.std.specs.BTreeSet.{contains}
use Rattle.std.specs.Ordering.{nat_cmp}
use Rattle.std.proofs.lemmas.Bool.{both_ways, cases_Bool, eq-eqb, eqb-true, false≢true}
use Rattle.op_model.specs.declared.mark.MarkKey.{MarkKey}
use Rattle.op_model.specs.declared.mark.MarkKey.TheVariants as key
use Rattle.op_model.specs.declared.marking.Marking.{Marking}
use Rattle.op_model.specs.Marks.{is_key}
use Rattle.op_model.specs.Spans.{with_number}
use Rattle.op_model.specs.Rising.{IsUp}
use Rattle.op_model.proofs.RisingLemmas.{up_with}
use Rattle.model_laws.proofs.Up.{up_filter}
use Rattle.comment_marks.specs.Standing.{decided}
use Rattle.comment_marks.proofs.Deciding.{key_from_test}
use Rattle.span_flatten.specs.declared.discussed.Discussed.{Discussed}
use Rattle.span_flatten.specs.declared.rank.Rank.{Rank}
use Rattle.span_flatten.specs.declared.ranks.Ranks.{Ranks}
use Rattle.span_flatten.specs.Deciding.{is_about, is_kept, AreDiscussed}
use Rattle.span_flatten.specs.Picking.{is_of_key, picked}
use Rattle.span_flatten.specs.Ranking.{has_rank, rank_cmp, AreRanks}
use Rattle.span_flatten.proofs.RankLemmas.{decided_with_other, decided_without_other, ranks_with, ranks_with_other, ranks_without, ranks_without_other}
use Rattle.op_model.proofs.QueryLemmas.{found_from}
use Rattle.std.proofs.lemmas.Option.{slice_get_past}

-- a mark that is read is there as often
pub copied_some : (o : Option (Bor Mark)) → is_some o ≡ is_some (option_copied o)
copied_some None = refl
copied_some (Some m) = refl

-- what is about one key isn't about another
pub apart : (ms : List Marking) (i : ℕ) (m : Marking) (one other : MarkKey) → slice_get ms i ≡ Some m → m.key ≡ one → is_key one other ≡ false
    → is_of_key (slice_get ms i) other ≡ false
apart ms i m one other there is not_so = ap (λ o. is_of_key o other) there ∙ (ap (λ k. is_key k other) is ∙ not_so)

-- what is about one comment is about no other
about_one : (ms : List Marking) (m : Marking) (i id other : ℕ) → slice_get ms i ≡ Some m → is_key m.key (key.Comment id) ≡ true → (id == other) ≡ false
    → is_of_key (slice_get ms i) (key.Comment other) ≡ false
about_one ms m i id other there about apart = rw (there, key_from_test m.key id about) apart

put_in : (here found was : Bool) → here ≡ true → ((here && found) || was) ≡ cond found true was
put_in here true was e = rw e refl
put_in here false was e = rw e refl

not_here : (here found was : Bool) → here ≡ false → ((here && found) || was) ≡ was
not_here here found was e = rw e refl

taken_out : (here found was : Bool) → here ≡ true → (not (here && found) && was) ≡ cond found false was
taken_out here true was e = rw e refl
taken_out here false was e = rw e refl

still_there : (here found was : Bool) → here ≡ false → (not (here && found) && was) ≡ was
still_there here found was e = rw e refl

-- what says whether a comment stands, by the ranks that are kept for it
abbrev pub Says : Discussed → List Marking → ℕ → Bool → Type 0
Says e ms id stands = (set : List ℕ) → IsUp set → AreRanks ms set (key.Comment id) (is_about e id)
    → stands ≡ is_some (decided (picked ms set) (key.Comment id))

-- the comments that stand are those that stood, except for one
abbrev pub Settles : Discussed → Discussed → ℕ → Bool → Type 0
Settles d e id stands = (other : ℕ) → contains nat_cmp e.standing other ≡ cond (id == other) stands (contains nat_cmp d.standing other)

-- past the last mark operation none is about a comment
pub none_about : (ms : List Marking) (i id : ℕ) → length ms ≤ i → is_of_key (slice_get ms i) (key.Comment id) ≡ true → ⊥
none_about ms i id past about = false≢true (ap (λ o. is_of_key o (key.Comment id)) (sym (slice_get_past ms i past)) ∙ about)

-- one more about a comment
pub discussed_with : (d e : Discussed) (ms : List Marking) (set : List ℕ) (m : Marking) (i id : ℕ) (r : Rank) (stands : Bool) → IsUp set
    → slice_get ms i ≡ Some m → is_key m.key (key.Comment id) ≡ true → r.id ≡ m.id → r.before.0 ≡ i
    → ((other : ℕ) (q : Rank) → is_about e other q ≡ ((id == other && is_at (rank_cmp r) q) || is_about d other q))
    → Says e ms id stands → Settles d e id stands → AreDiscussed d ms set → AreDiscussed e ms (with_number i set)
discussed_with d e ms set m i id r stands up there about same before put says settles was = record {
  ranks = λ other. elim (cases_Bool (id == other)) [
    | inl here ↦ (let is : id ≡ other = eqb-true id other here in rw (← is) ranks_here)
    | inr apart ↦ (λ q. put other q ∙ (not_here (id == other) (is_at (rank_cmp r) q) (is_about d other q) apart
        ∙ ranks_with_other ms set (key.Comment other) (is_about d other) i (about_one ms m i id other there about apart) (was.ranks other) q))
  ];
  standing = λ other. elim (cases_Bool (id == other)) [
    | inl here ↦ (let is : id ≡ other = eqb-true id other here in
        settles other ∙ rw (here, ← is) (says (with_number i set) (up_with i set up) ranks_here))
    | inr apart ↦ settles other ∙ rw apart (was.standing other
        ∙ ap is_some (sym (decided_with_other ms (key.Comment other) i set up (about_one ms m i id other there about apart))))
  ];
}
  where
    ranks_here : AreRanks ms (with_number i set) (key.Comment id) (is_about e id)
    ranks_here = ranks_with ms set (key.Comment id) (is_about d id) (is_about e id) m i r there about same before
        (λ q. put id q ∙ put_in (id == id) (is_at (rank_cmp r) q) (is_about d id q) (eq-eqb id id refl)) (was.ranks id)

-- one less about a comment
pub discussed_without : (d e : Discussed) (ms : List Marking) (set : List ℕ) (m : Marking) (i id : ℕ) (r : Rank) (stands : Bool) → IsUp set
    → slice_get ms i ≡ Some m → is_key m.key (key.Comment id) ≡ true → r.id ≡ m.id → r.before.0 ≡ i
    → ((other : ℕ) (q : Rank) → is_about e other q ≡ (not (id == other && is_at (rank_cmp r) q) && is_about d other q))
    → Says e ms id stands → Settles d e id stands → AreDiscussed d ms set → AreDiscussed e ms (filter (λ j. not (j == i)) set)
discussed_without d e ms set m i id r stands up there about same before put says settles was = record {
  ranks = λ other. elim (cases_Bool (id == other)) [
    | inl here ↦ (let is : id ≡ other = eqb-true id other here in rw (← is) ranks_here)
    | inr apart ↦ (λ q. put other q ∙ (still_there (id == other) (is_at (rank_cmp r) q) (is_about d other q) apart
        ∙ ranks_without_other ms set (key.Comment other) (is_about d other) i (about_one ms m i id other there about apart) (was.ranks other) q))
  ];
  standing = λ other. elim (cases_Bool (id == other)) [
    | inl here ↦ (let is : id ≡ other = eqb-true id other here in
        settles other ∙ rw (here, ← is) (says (filter (λ j. not (j == i)) set) (up_filter (λ j. not (j == i)) set up) ranks_here))
    | inr apart ↦ settles other ∙ rw apart (was.standing other
        ∙ ap is_some (sym (decided_without_other ms (key.Comment other) i set up (about_one ms m i id other there about apart))))
  ];
}
  where
    ranks_here : AreRanks ms (filter (λ j. not (j == i)) set) (key.Comment id) (is_about e id)
    ranks_here = ranks_without ms set (key.Comment id) (is_about d id) (is_about e id) m i r there same before
        (λ q. put id q ∙ taken_out (id == id) (is_at (rank_cmp r) q) (is_about d id q) (eq-eqb id id refl)) (was.ranks id)

-- one more, and one less, that is about no comment
pub discussed_with_other : (d : Discussed) (ms : List Marking) (set : List ℕ) (i : ℕ) → IsUp set
    → ((id : ℕ) → is_of_key (slice_get ms i) (key.Comment id) ≡ false) → AreDiscussed d ms set → AreDiscussed d ms (with_number i set)
discussed_with_other d ms set i up other was = record {
  ranks = λ id. ranks_with_other ms set (key.Comment id) (is_about d id) i (other id) (was.ranks id);
  standing = λ id. was.standing id ∙ ap is_some (sym (decided_with_other ms (key.Comment id) i set up (other id)));
}

pub discussed_without_other : (d : Discussed) (ms : List Marking) (set : List ℕ) (i : ℕ) → IsUp set
    → ((id : ℕ) → is_of_key (slice_get ms i) (key.Comment id) ≡ false) → AreDiscussed d ms set
    → AreDiscussed d ms (filter (λ j. not (j == i)) set)
discussed_without_other d ms set i up other was = record {
  ranks = λ id. ranks_without_other ms set (key.Comment id) (is_about d id) i (other id) (was.ranks id);
  standing = λ id. was.standing id ∙ ap is_some (sym (decided_without_other ms (key.Comment id) i set up (other id)));
}

-- the first rank of a comment
pub first_kept : (was now : ℕ → Option Ranks) (id : ℕ) (about : Ranks) (r : Rank)
    → ((other : ℕ) → now other ≡ cond (is_at (nat_cmp id) other) (Some about) (was other))
    → ((q : Rank) → has_rank about q ≡ cond (is_at (rank_cmp r) q) true false) → was id ≡ None
    → (other : ℕ) (q : Rank) → is_kept (now other) q ≡ ((id == other && is_at (rank_cmp r) q) || is_kept (was other) q)
first_kept was now id about r put one none other q =
    elim (cases_Bool (id == other)) [
      | inl here ↦ (let is : id ≡ other = eqb-true id other here in
          ap (λ o. is_kept o q) (put other) ∙ rw (found_from id other, ← is, eq-eqb id id refl, none) (one q ∙ just (is_at (rank_cmp r) q)))
      | inr elsewhere ↦ (let turned : (other == id) ≡ false = turn elsewhere in
          ap (λ o. is_kept o q) (put other) ∙ rw (found_from id other, turned, elsewhere) refl)
    ]
  where
    just : (a : Bool) → cond a true false ≡ (a || false)
    just true = refl
    just false = refl

    turn : (id == other) ≡ false → (other == id) ≡ false
    turn e = elim (cases_Bool (other == id)) [
      | inl h ↦ absurd (both_ways (id == other) e (eq-eqb id other (sym (eqb-true other id h))))
      | inr h ↦ h
    ]
