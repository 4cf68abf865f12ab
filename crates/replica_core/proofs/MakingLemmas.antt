-- Several changes that are made on a copy, one after another.
use Rattle.std.proofs.Common.{◌≡◌, ℕ, List, [], ◌∷◌, ◌++◌, Option, sym, ◌∙◌, ap, subst, append_assoc, append-nil}
use Rattle.op_model.specs.Actions.{edit_of, made_in_turn}
use Rattle.op_model.specs.declared.edit.Change.{Change}
use Rattle.op_model.specs.declared.op.Op.{Op}
use Rattle.op_model.specs.Made.{made}
use Rattle.model_laws.specs.Acting.{NoneRefused}
use Rattle.replica_core.specs.declared.copying.Copying.{Copying}
use Rattle.replica_core.specs.Docs.{doc_number}
use Rattle.replica_core.specs.Turns.{IsBehind, IsMaking}

-- before the first change
pub making_starts : (m : Copying) (ops : List Op) (replica doc : ℕ) (token : Option ℕ) (all : List Change) → m.ops.items ≡ [] → IsBehind m ops
    → doc_number m.doc ≡ doc → NoneRefused ops replica doc token all → IsMaking m ops replica doc token all all
making_starts m ops replica doc token all none behind same due =
    let whole : ops ++ m.ops.items ≡ ops = ap (λ more. ops ++ more) none ∙ append-nil ops in
    record {
      behind = subst (λ list. IsBehind m list) (sym whole) behind;
      number = same;
      due = subst (λ list. NoneRefused list replica doc token all) (sym whole) due;
      made = ap (λ more. more ++ made_in_turn (ops ++ m.ops.items) replica doc token all) none ∙ ap (λ list. made_in_turn list replica doc token all) whole;
    }

-- one more of them
pub making_goes_on : (old new : Copying) (ops : List Op) (replica doc : ℕ) (token : Option ℕ) (all : List Change) (c : Change) (cs : List Change)
    → IsMaking old ops replica doc token all (c ∷ cs)
    → IsBehind new ((ops ++ old.ops.items) ++ made (ops ++ old.ops.items) replica (edit_of doc token c))
    → new.ops.items ≡ old.ops.items ++ made (ops ++ old.ops.items) replica (edit_of doc token c) → doc_number new.doc ≡ doc_number old.doc
    → IsMaking new ops replica doc token all cs
making_goes_on old new ops replica doc token all c cs was behind more same =
    let now : List Op = made (ops ++ old.ops.items) replica (edit_of doc token c) in
    let whole : ops ++ new.ops.items ≡ (ops ++ old.ops.items) ++ now = ap (λ all. ops ++ all) more ∙ sym (append_assoc ops old.ops.items now) in
    record {
      behind = subst (λ list. IsBehind new list) (sym whole) behind;
      number = same ∙ was.number;
      due = subst (λ list. NoneRefused list replica doc token cs) (sym whole) was.due.1;
      made = ap (λ front. front ++ made_in_turn (ops ++ new.ops.items) replica doc token cs) more
          ∙ (ap (λ list. (old.ops.items ++ now) ++ made_in_turn list replica doc token cs) whole
          ∙ (append_assoc old.ops.items now (made_in_turn ((ops ++ old.ops.items) ++ now) replica doc token cs) ∙ was.made));
    }

-- after the last one
pub making_ends : (m : Copying) (ops : List Op) (replica doc : ℕ) (token : Option ℕ) (all : List Change) → IsMaking m ops replica doc token all []
    → m.ops.items ≡ made_in_turn ops replica doc token all
making_ends m ops replica doc token all is = sym (append-nil m.ops.items) ∙ is.made
