-- Comments that were noted, and those that differ from them.
use Rattle.std.proofs.Common.{◌≡◌, ℕ, ◌==◌, Bool, true, false, not, ◌&&◌, inl, inr, List, [], ◌∷◌, length, refl, sym, ◌∙◌, ap, arith}
use Rattle.std.specs.BTreeMap.{is_at}
use Rattle.std.specs.BTreeSet.{contains}
use Rattle.std.specs.List.{list_any}
use Rattle.std.specs.Ordering.{nat_cmp}
use Rattle.std.proofs.lemmas.Bool.{both_ways, cases_Bool, eq-eqb, eqb-true}
use Rattle.op_model.specs.declared.marking.Marking.{Marking}
use Rattle.op_model.specs.Spans.{is_same_list}
use Rattle.model_laws.proofs.Up.{has, same_members}
use Rattle.comment_marks.specs.Standing.{standing}
use Rattle.span_flatten.specs.declared.discussed.Discussed.{Discussed}
use Rattle.span_flatten.specs.Deciding.{differs, AreDiscussed, IsNoted}
use Rattle.span_flatten.specs.Picking.{picked}
use Rattle.span_flatten.proofs.StandingLemmas.{has_standing, up_standing}
use Rattle.op_model.proofs.QueryLemmas.{found_from}

same_list : (a : List ℕ) → is_same_list a a ≡ true
same_list [] = refl
same_list (x ∷ xs) = rw (eq-eqb x x refl, same_list xs) refl

both_true : (a b : Bool) → (a && b) ≡ true → (a ≡ true) × (b ≡ true)
both_true true b h = (refl, h)
both_true false b h = absurd (both_ways false refl h)

list_same : (a b : List ℕ) → is_same_list a b ≡ true → a ≡ b
list_same [] [] h = refl
list_same [] (y ∷ ys) h = absurd (both_ways false refl h)
list_same (x ∷ xs) [] h = absurd (both_ways false refl h)
list_same (x ∷ xs) (y ∷ ys) h =
    let both = both_true (x == y) (is_same_list xs ys) h in
    rw (eqb-true x y both.0, list_same xs ys both.1) refl

-- where none differs, those that stand are those that were noted
none_differs : (d : Discussed) (ids : List ℕ) (ms : List Marking) (set : List ℕ) → d.since.keys ≡ [] → IsNoted d ids → AreDiscussed d ms set
    → ids ≡ standing (picked ms set)
none_differs d ids ms set none noted are =
    same_members ids (standing (picked ms set)) noted.up (up_standing (picked ms set))
    (λ id. sym (ap (λ ks. differs (list_any (is_at (nat_cmp id)) ks) (has id ids)) none) ∙ (sym (noted.noted id) ∙ has_standing d ms set are id))

not_itself : (b : Bool) → b ≡ not b → ⊥
not_itself true e = both_ways false refl (sym e)
not_itself false e = both_ways false refl e

-- where one differs, they are others
one_differs : (d : Discussed) (ids : List ℕ) (ms : List Marking) (set : List ℕ) (k : ℕ) (ks : List ℕ) → d.since.keys ≡ k ∷ ks → IsNoted d ids
    → AreDiscussed d ms set → ids ≡ standing (picked ms set) → ⊥
one_differs d ids ms set k ks some noted are same =
    not_itself (has k ids) (ap (has k) same ∙ (sym (has_standing d ms set are k) ∙ (noted.noted k ∙ ap (λ b. differs b (has k ids)) here)))
  where
    here : contains nat_cmp d.since k ≡ true
    here = ap (λ ns. list_any (is_at (nat_cmp k)) ns) some ∙ rw (found_from k k, eq-eqb k k refl) refl

pub noted_same : (d : Discussed) (ids : List ℕ) (ms : List Marking) (set : List ℕ) → length d.since.keys ≡ 0 → IsNoted d ids → AreDiscussed d ms set
    → true ≡ is_same_list ids (standing (picked ms set))
noted_same d ids ms set none noted are = rw (← none_differs d ids ms set (empty d.since.keys none) noted are) (sym (same_list ids))
  where
    empty : (ks : List ℕ) → length ks ≡ 0 → ks ≡ []
    empty [] e = refl
    empty (k ∷ ks) e = absurd (omega arith)

pub noted_other : (d : Discussed) (ids : List ℕ) (ms : List Marking) (set : List ℕ) → (length d.since.keys ≡ 0 → ⊥) → IsNoted d ids
    → AreDiscussed d ms set → false ≡ is_same_list ids (standing (picked ms set))
noted_other d ids ms set some noted are = go d.since.keys refl
  where
    go : (ks : List ℕ) → d.since.keys ≡ ks → false ≡ is_same_list ids (standing (picked ms set))
    go [] e = absurd (some (ap length e))
    go (k ∷ ks) e =
        elim (cases_Bool (is_same_list ids (standing (picked ms set)))) [
          | inl same ↦ absurd (one_differs d ids ms set k ks e noted are (list_same ids (standing (picked ms set)) same))
          | inr other ↦ sym other
        ]

-- once noted, none differs
pub noted_now : (d e : Discussed) (ms : List Marking) (set : List ℕ) → e.standing ≡ d.standing → e.since.keys ≡ [] → AreDiscussed d ms set
    → IsNoted e (standing (picked ms set))
noted_now d e ms set same none are = record {
  up = up_standing (picked ms set);
  noted = λ id. ap (λ s. contains nat_cmp s id) same ∙ (has_standing d ms set are id
      ∙ sym (ap (λ ks. differs (list_any (is_at (nat_cmp id)) ks) (has id (standing (picked ms set)))) none));
}
