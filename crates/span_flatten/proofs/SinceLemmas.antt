-- What came since a beginning, when one goes back over it.
use Rattle.std.proofs.Common.{◌≡◌, ℕ, ◌==◌, Bool, true, false, not, cond, ◌&&◌, ◌||◌, List, [], ◌∷◌, ◌++◌, refl, sym, ◌∙◌, ap, arith}
use Rattle.std.specs.Prelude.{Option, None}
use Rattle.std.specs.BTreeMap.{is_at}
use Rattle.std.proofs.lemmas.Bool.{eq-eqb}
use Rattle.std.proofs.lemmas.Bool.Decides.{nat_tests}
use Rattle.std.proofs.lemmas.List.Folds.{list_any-append}
use Rattle.op_ids.specs.Id.{Id, is_same}
use Rattle.op_ids.proofs.IdLemmas.{same_from_test}
use Rattle.op_model.specs.declared.op.Op.{Op}
use Rattle.op_model.specs.declared.op.Body.TheVariants.{Insert, Remove}
use Rattle.op_model.specs.Characters.{character_in, characters, with_character}
use Rattle.op_model.specs.Placing.{has_id}
use Rattle.op_model.specs.Text.{is_removal_of}
use Rattle.model_laws.proofs.Grow.{has_id-in_order}
use Rattle.model_laws.proofs.Growth.{or-false}
use Rattle.span_flatten.specs.declared.since.Since.{Since}
use Rattle.span_flatten.specs.Ranking.{id_order}
use Rattle.span_flatten.specs.Since.{has_inserted, has_removed, is_gone, removes_again, IsSince}

-- an id is found by just itself
pub at_id : (a b : Id) → is_at (id_order a) b ≡ is_same a b
unfolding is_same
at_id a b = grind (arith, nat_tests)

-- one more id
pub one_of : (a b : Id) (rest : Bool) → cond (is_at (id_order a) b) true rest ≡ (is_same a b || rest)
one_of a b rest = ap (λ t. cond t true rest) (at_id a b) ∙ either (is_same a b)
  where
    either : (t : Bool) → cond t true rest ≡ (t || rest)
    either true = refl
    either false = refl

-- an operation more removes what it names, and else nothing
gone-push : (ops : List Op) (doc : ℕ) (op : Op) (id : Id)
    → is_gone (ops ++ op ∷ []) doc id ≡ (is_gone ops doc id || (op.doc == doc && is_removal_of id op.body))
gone-push ops doc op id =
    list_any-append (λ o. o.doc == doc && is_removal_of id o.body) ops (op ∷ [])
    ∙ ap (λ r. is_gone ops doc id || r) (or-false (op.doc == doc && is_removal_of id op.body))

nothing_new : (b r m : Bool) → r ≡ false → (not (b || r) && m) ≡ (not b && (r || m))
nothing_new true r m e = refl
nothing_new false r m e = rw e refl

first_or_again : (g b r m : Bool) → (r ≡ true → g ≡ b) → ((not g && r) || (not (b || r) && m)) ≡ (not b && (r || m))
first_or_again g b true m e = rw (e refl) (both b)
  where
    both : (c : Bool) → ((not c && true) || (not (c || true) && m)) ≡ (not c && true)
    both true = refl
    both false = refl
first_or_again true b false m e = ap (λ c. not c && m) (or-false b)
first_or_again false b false m e = ap (λ c. not c && m) (or-false b)

-- an operation that removes nothing
module _ (s t : Since) (before more : List Op) (doc : ℕ) (op : Op) (was : IsSince s (before ++ op ∷ []) more doc) where
  removed_still : t.removed ≡ s.removed → ((id : Id) → (op.doc == doc && is_removal_of id op.body) ≡ false)
      → (id : Id) → has_removed t id ≡ (not (is_gone before doc id) && is_gone (op ∷ more) doc id)
  removed_still same none id =
      ap (λ ids. has_removed (record { doc = 0; inserted = ids; removed = ids; marked = 0 }) id) same
      ∙ was.removed id
      ∙ ap (λ g. not g && is_gone more doc id) (gone-push before doc op id)
      ∙ nothing_new (is_gone before doc id) (op.doc == doc && is_removal_of id op.body) (is_gone more doc id) (none id)

  here : op.doc ≡ s.doc → (op.doc == doc) ≡ true
  here e = eq-eqb op.doc doc (e ∙ was.number)

  inserted_still : t.inserted ≡ s.inserted → character_in doc op ≡ None → (id : Id) → has_inserted t id ≡ has_id (characters (op ∷ more) doc) id
  inserted_still same none id =
      ap (λ ids. has_inserted (record { doc = 0; inserted = ids; removed = ids; marked = 0 }) id) same
      ∙ was.inserted id
      ∙ ap (λ c. has_id (with_character c (characters more doc)) id) (sym none)

-- an insert
pub insert_since : (s t : Since) (before more : List Op) (doc : ℕ) (op : Op) (origin : Option Id) (value : ℕ) → op.doc ≡ s.doc
    → op.body ≡ Insert origin value → IsSince s (before ++ op ∷ []) more doc
    → ((id : Id) → has_inserted t id ≡ (is_same op.id id || has_inserted s id))
    → (t.doc ≡ s.doc) × (t.removed ≡ s.removed) × (t.marked ≡ s.marked) → IsSince t before (op ∷ more) doc
insert_since s t before more doc op origin value own does was more_of rest =
    let same : (op.doc == doc) ≡ true = here s t before more doc op was own in
    record {
      number = rest.0 ∙ was.number;
      inserted = λ id. more_of id ∙ ap (λ b. is_same op.id id || b) (was.inserted id)
          ∙ sym (rw (same, does) (has_id-in_order (record { id = op.id; origin = origin; value = value }) (characters more doc) id));
      removed = removed_still s t before more doc op was rest.1 (λ id. rw (same, does) refl);
      marked = rest.2 ∙ was.marked ∙ rw (same, does) refl;
    }

-- a remove
pub remove_since : (s t : Since) (before more : List Op) (doc : ℕ) (op : Op) (target : Id) (again : Bool) → op.doc ≡ s.doc
    → op.body ≡ Remove target → IsSince s (before ++ op ∷ []) more doc → again ≡ removes_again before doc op.body
    → ((id : Id) → has_removed t id ≡ ((not again && is_same target id) || has_removed s id))
    → (t.doc ≡ s.doc) × (t.inserted ≡ s.inserted) × (t.marked ≡ s.marked) → IsSince t before (op ∷ more) doc
remove_since s t before more doc op target again own does was is more_of rest =
    let same : (op.doc == doc) ≡ true = here s t before more doc op was own in
    let gone : again ≡ is_gone before doc target = is ∙ rw does refl in
    let by : (id : Id) → (op.doc == doc && is_removal_of id op.body) ≡ is_same target id = λ id. rw (same, does) refl in
    record {
      number = rest.0 ∙ was.number;
      inserted = inserted_still s t before more doc op was rest.1 (rw (same, does) refl);
      removed = λ id. more_of id
          ∙ ap (λ r. (not again && is_same target id) || r) (was.removed id ∙ ap (λ g. not g && is_gone more doc id) (gone-push before doc op id
          ∙ ap (λ r. is_gone before doc id || r) (by id)))
          ∙ first_or_again again (is_gone before doc id) (is_same target id) (is_gone more doc id)
          (λ e. gone ∙ ap (λ i. is_gone before doc i) (same_from_test target id e))
          ∙ ap (λ r. not (is_gone before doc id) && (r || is_gone more doc id)) (sym (by id));
      marked = rest.2 ∙ was.marked ∙ rw (same, does) refl;
    }
