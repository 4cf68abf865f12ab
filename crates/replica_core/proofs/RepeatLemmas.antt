-- The notes of what was removed again, of a list and of one that is longer.
use Rattle.std.proofs.Common.{◌≡◌, ℕ, zero, suc, ◌+◌, ◌≤◌, ◌<◌, Bool, true, false, cond, List, [], ◌∷◌, ◌++◌, length}
use Rattle.std.proofs.Common.{take, Some, None, refl, sym, ◌∙◌, ap, arith}
use Rattle.std.proofs.Common.{inl, inr, append_assoc, append-nil, length-append}
use Rattle.std.specs.Prelude.{slice_get, ◌==◌, ◌⊎◌, nat_lt}
use Rattle.std.specs.BTreeMap.{is_at}
use Rattle.std.specs.Ordering.{nat_cmp}
use Rattle.std.proofs.Math.Seq.{take-append_seam}
use Rattle.std.proofs.lemmas.Bool.{cases_Bool, eq-eqb}
use Rattle.std.proofs.lemmas.Bool.Decides.{nat_tests}
use Rattle.std.proofs.lemmas.List.{take-append-le}
use Rattle.std.proofs.lemmas.Option.{slice_get_past}
use Rattle.op_model.specs.declared.op.Op.{Op}
use Rattle.op_model.specs.declared.op.Body.{Body}
use Rattle.op_model.specs.declared.op.Body.TheVariants.{Insert, Remove, AddMark, RemoveMark}
use Rattle.op_model.specs.declared.character.Character.{Character}
use Rattle.op_model.specs.Causality.{MayFollow}
use Rattle.op_model.specs.Characters.{characters}
use Rattle.op_model.specs.Placing.{has_id}
use Rattle.op_model.specs.Text.{is_removal_of, is_removed}
use Rattle.op_ids.specs.Id.{Id}
use Rattle.model_laws.proofs.Closed.{follows_fits}
use Rattle.model_laws.proofs.Ids.{same_itself}
use Rattle.span_flatten.specs.Since.{removes_again}
use Rattle.replica_core.specs.declared.repeats.Repeats.{Repeats}
use Rattle.model_laws.specs.Since.{RemoveNothingAgain}
use Rattle.replica_core.specs.Repeats.{has_noted, is_repeat, repeats_at, AreRepeats}

-- at the seam stands the first of those after
at_seam : (ops more : List Op) (op : Op) → slice_get (ops ++ op ∷ more) (length ops) ≡ Some op
at_seam [] more op = refl
at_seam (x ∷ ops) more op = at_seam ops more op

-- before the seam all is as it was
before_seam : (ops more : List Op) (i : ℕ) → i < length ops → slice_get (ops ++ more) i ≡ slice_get ops i
before_seam [] more i less = absurd (omega arith)
before_seam (x ∷ ops) more zero less = refl
before_seam (x ∷ ops) more (suc i) less = before_seam ops more i (omega arith)

-- before the end all is as it was
pub repeats_before : (ops more : List Op) (i : ℕ) → i < length ops → repeats_at (ops ++ more) i ≡ repeats_at ops i
repeats_before ops more i less =
    let within : i ≤ length ops = omega arith in
    (λ k. is_repeat (take-append-le i ops more within k) (slice_get (ops ++ more) i))
    ∙ ap (is_repeat (take i ops)) (before_seam ops more i less)

-- at the end stands the operation that came
pub repeats_here : (before more : List Op) (op : Op) → repeats_at (before ++ op ∷ more) (length before) ≡ removes_again before op.doc op.body
repeats_here before more op =
    (λ k. is_repeat (take-append_seam before (op ∷ more) k) (slice_get (before ++ op ∷ more) (length before)))
    ∙ ap (is_repeat before) (at_seam before more op)

-- past the end nothing is removed
pub repeats_past : (ops : List Op) (i : ℕ) → length ops ≤ i → repeats_at ops i ≡ false
repeats_past ops i past = ap (is_repeat (take i ops)) (slice_get_past ops i past)

-- of three places one
placed : (i n : ℕ) → (i < n) ⊎ ((i ≡ n) ⊎ (n + 1 ≤ i))
placed i n = elim (cases_Bool (nat_lt i n)) [
  | inl e ↦ inl (grind (arith, nat_tests))
  | inr e ↦ elim (cases_Bool (i == n)) [ inl f ↦ inr (inl (grind (arith, nat_tests))) | inr f ↦ inr (inr (grind (arith, nat_tests))) ]
]

at_number : (a b : ℕ) → is_at (nat_cmp a) b ≡ (a == b)
at_number a b = grind (arith, nat_tests)

other_number : (a b : ℕ) → (a ≡ b → ⊥) → (a == b) ≡ false
other_number a b other = grind (arith, nat_tests)

-- what is noted of a list, with one more operation
put_at : (old new : Repeats) (ops : List Op) (op : Op) → AreRepeats old ops → new.from ≡ old.from
    → ((i : ℕ) → i < length ops → has_noted new i ≡ has_noted old i) → has_noted new (length ops) ≡ removes_again ops op.doc op.body
    → ((i : ℕ) → length ops + 1 ≤ i → has_noted new i ≡ has_noted old i) → AreRepeats new (ops ++ op ∷ [])
put_at old new ops op was from before here past =
    let long = length-append ops (op ∷ []) in
    record {
      within = let within = was.within in omega arith;
      noted = λ i known. elim (placed i (length ops)) [
        | inl less ↦ before i less ∙ (was.noted i (omega arith) ∙ sym (repeats_before ops (op ∷ []) i less))
        | inr rest ↦ elim rest [
          | inl same ↦ ap (has_noted new) same ∙ (here ∙ (sym (repeats_here ops [] op) ∙ ap (repeats_at (ops ++ op ∷ [])) (sym same)))
          | inr more ↦ past i more ∙ (was.noted i (omega arith) ∙ (repeats_past ops i (omega arith) ∙ sym (repeats_past (ops ++ op ∷ []) i (omega arith))))
        ]
      ];
    }

-- nothing was noted past the end
none_noted : (r : Repeats) (ops : List Op) → AreRepeats r ops → has_noted r (length ops) ≡ false
none_noted r ops was = was.noted (length ops) was.within ∙ repeats_past ops (length ops) (omega arith)

-- one that removes nothing again
pub put_other : (r : Repeats) (ops : List Op) (op : Op) → AreRepeats r ops → removes_again ops op.doc op.body ≡ false → AreRepeats r (ops ++ op ∷ [])
put_other r ops op was other =
    put_at r r ops op was refl (λ i less. refl) (none_noted r ops was ∙ sym other) (λ i more. refl)

-- one that was noted
pub put_noted : (old new : Repeats) (ops : List Op) (op : Op) (index : ℕ) → AreRepeats old ops → length ops ≡ index → new.from ≡ old.from
    → ((i : ℕ) → has_noted new i ≡ cond (is_at (nat_cmp index) i) true (has_noted old i)) → true ≡ removes_again ops op.doc op.body
    → AreRepeats new (ops ++ op ∷ [])
put_noted old new ops op index was at from noted again =
    put_at old new ops op was from
    (λ i less. noted i ∙ ap (λ t. cond t true (has_noted old i)) (at_number index i ∙ other_number index i (λ e. omega arith)))
    (noted (length ops) ∙ (ap (λ t. cond t true (has_noted old (length ops))) (at_number index (length ops) ∙ eq-eqb index (length ops) (sym at)) ∙ again))
    (λ i more. noted i ∙ ap (λ t. cond t true (has_noted old i)) (at_number index i ∙ other_number index i (λ e. omega arith)))

-- a note that is taken back
pub put_back : (old new : Repeats) (ops : List Op) (op : Op) (index : ℕ) → AreRepeats old (ops ++ op ∷ []) → length ops ≡ index → new.from ≡ old.from
    → old.from ≤ index → ((i : ℕ) → has_noted new i ≡ cond (is_at (nat_cmp index) i) false (has_noted old i)) → AreRepeats new ops
put_back old new ops op index was at from early left =
    let long = length-append ops (op ∷ []) in
    record {
      within = omega arith;
      noted = λ i known. elim (placed i (length ops)) [
        | inl less ↦ left i ∙ (ap (λ t. cond t false (has_noted old i)) (at_number index i ∙ other_number index i (λ e. omega arith))
            ∙ (was.noted i (omega arith) ∙ repeats_before ops (op ∷ []) i less))
        | inr rest ↦ elim rest [
          | inl same ↦ left i ∙ (ap (λ t. cond t false (has_noted old i)) (at_number index i ∙ eq-eqb index i (omega arith))
              ∙ sym (repeats_past ops i (omega arith)))
          | inr more ↦ left i ∙ (ap (λ t. cond t false (has_noted old i)) (at_number index i ∙ other_number index i (λ e. omega arith))
              ∙ (was.noted i (omega arith) ∙ (repeats_past (ops ++ op ∷ []) i (omega arith) ∙ sym (repeats_past ops i (omega arith)))))
        ]
      ];
    }

-- of a list of which nothing is known
pub none_known : (r : Repeats) (ops : List Op) → r.from ≡ length ops → ((i : ℕ) → has_noted r i ≡ false) → AreRepeats r ops
none_known r ops from none = record {
  within = omega arith;
  noted = λ i past. none i ∙ sym (repeats_past ops i (omega arith));
}

-- nothing of these is removed again
again_none : (before : List Op) (op : Op) → ((c : Character) → is_removal_of c.id op.body ≡ true → is_removed before op.doc c ≡ false)
    → removes_again before op.doc op.body ≡ false
again_none before op none = by_body op.body none
  where
    by_body : (b : Body) → ((c : Character) → is_removal_of c.id b ≡ true → is_removed before op.doc c ≡ false) → removes_again before op.doc b ≡ false
    by_body (Remove target) none = none (record { id = target; origin = None; value = 0 }) (same_itself target)
    by_body (Insert origin value) none = refl
    by_body (AddMark mark start end) none = refl
    by_body (RemoveMark key start end) none = refl

-- operations that remove nothing again
pub put_others : (r : Repeats) (ops more : List Op) → AreRepeats r ops → RemoveNothingAgain ops more → AreRepeats r (ops ++ more)
put_others r ops [] was none = rw (append-nil ops) was
put_others r ops (op ∷ more) was none =
    rw (← append_assoc ops (op ∷ []) more)
    (put_others r (ops ++ op ∷ []) more (put_other r ops op was (again_none ops op none.0)) none.1)

-- what a remove names is there
named_there : (ops : List Op) (op : Op) (target : Id) → MayFollow ops op → op.body ≡ Remove target → has_id (characters ops op.doc) target ≡ true
named_there ops op target follows does =
    let fits = follows_fits ops op.doc op follows refl in
    let names = rw does at fits.names in
    (names 0 target (omega arith)).0

-- whoever knows whether that was removed knows whether it is removed again
pub remove_told : (ops : List Op) (op : Op) (target : Id) (number : ℕ) (result : Bool) → MayFollow ops op → number ≡ op.doc → op.body ≡ Remove target
    → ((c : Character) → has_id (characters ops number) target ≡ true → c.id ≡ target → result ≡ is_removed ops number c)
    → result ≡ removes_again ops op.doc op.body
remove_told ops op target number result follows same does told =
    let there : has_id (characters ops number) target ≡ true = ap (λ n. has_id (characters ops n) target) same ∙ named_there ops op target follows does in
    told (record { id = target; origin = None; value = 0 }) there refl
    ∙ (ap (λ n. removes_again ops n (Remove target)) same ∙ ap (removes_again ops op.doc) (sym does))
