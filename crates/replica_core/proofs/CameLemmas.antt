-- Going back over a list, what came for a document is noted.
use Rattle.std.proofs.Common.{◌≡◌, ℕ, zero, suc, ◌+◌, ◌-◌, ◌≤◌, ◌<◌, Bool, false, not, cond, ◌&&◌, List, [], ◌∷◌, ◌++◌, length, map, take, drop, get_or}
use Rattle.std.proofs.Common.{Some, refl, sym, ◌∙◌, ap, subst, arith, add-one, add-zero, drop-cons}
use Rattle.std.specs.Prelude.{slice_get, ◌==◌}
use Rattle.std.proofs.lemmas.Bool.{eq-eqb}
use Rattle.std.proofs.Math.ListN.{drop_of_length-le}
use Rattle.std.proofs.lemmas.List.{get_or_default, take_all, take-append-drop}
use Rattle.std.proofs.lemmas.Bool.Decides.{nat_tests}
use Rattle.std.proofs.lemmas.List.Folds.{list_any-append}
use Rattle.std.proofs.lemmas.List.Sums.{sum_by-append, sum_by-cons}
use Rattle.std.proofs.lemmas.Option.{slice_get-get_or}
use Rattle.op_ids.specs.Id.{Id}
use Rattle.op_list.specs.declared.head.OpHead.{OpHead}
use Rattle.op_list.specs.Heads.{heads}
use Rattle.op_model.specs.declared.op.Op.{Op}
use Rattle.op_model.specs.declared.change_step.ChangeStep.{ChangeStep}
use Rattle.op_model.specs.declared.change_step.ChangeStep.TheVariants.{Put}
use Rattle.op_model.specs.Causality.{IsCausallyClosed}
use Rattle.op_model.specs.Changes.{changes}
use Rattle.op_model.specs.Spans.{spans}
use Rattle.doc_core.specs.declared.doc.Doc.{Doc}
use Rattle.doc_core.specs.Standing.{StandsFor}
use Rattle.model_laws.proofs.Closed.{closed_orderly}
use Rattle.replica_core.specs.Docs.{doc_number}
use Rattle.model_laws.proofs.PutSince.{changes_since_none}
use Rattle.model_laws.proofs.OneDocument.{changes_since_rev}
use Rattle.op_model.specs.Text.{is_removal_of, rev}
use Rattle.model_laws.proofs.Growth.{or-false}
use Rattle.span_flatten.specs.declared.since.Since.{Since}
use Rattle.span_flatten.specs.Since.{is_gone, removes_again, IsSince}
use Rattle.replica_core.specs.Came.{IsCame}
use Rattle.replica_core.specs.Repeats.{is_repeat, repeats_at}
use Rattle.replica_core.proofs.DraftLemmas.{take_push}
use Rattle.replica_core.proofs.HeadLemmas.{head_back}

-- one operation back
cut_back : (ops : List Op) (k j : ℕ) (op : Op) → j ≡ k + 1 → k < length ops → op ≡ get_or ops k op
    → (take j ops ≡ take k ops ++ op ∷ []) × (drop k ops ≡ op ∷ drop j ops)
cut_back ops k j op next here is = (
  ap (λ n. take n ops) next ∙ take_push ops k op here is,
  drop-cons ops k op here ∙ (ap (λ x. x ∷ drop (suc k) ops) (sym is) ∙ ap (λ n. op ∷ drop n ops) (sym (next ∙ add-one k))),
)

-- the document has one operation more with it, if it is its own
pub rev_back : (ops : List Op) (op : Op) (doc : ℕ) → rev (ops ++ op ∷ []) doc ≡ rev ops doc + cond (op.doc == doc) 1 0
rev_back ops op doc =
    sum_by-append (λ (o : Op). cond (o.doc == doc) 1 0) ops (op ∷ [])
    ∙ ap (λ n. rev ops doc + n) (sum_by-cons (λ (o : Op). cond (o.doc == doc) 1 0) op [] ∙ add-zero (cond (op.doc == doc) 1 0))

-- an operation of another document removes none of its characters
gone_other : (before : List Op) (doc : ℕ) (op : Op) (id : Id) → (op.doc == doc) ≡ false → is_gone (before ++ op ∷ []) doc id ≡ is_gone before doc id
gone_other before doc op id other =
    list_any-append (λ o. o.doc == doc && is_removal_of id o.body) before (op ∷ []) ∙ (rw other (or-false (is_gone before doc id)))

-- an operation of another document changes nothing
since_other : (s : Since) (before more : List Op) (doc : ℕ) (op : Op) → (op.doc == doc) ≡ false → IsSince s (before ++ op ∷ []) more doc
    → IsSince s before (op ∷ more) doc
since_other s before more doc op other was = record {
  number = was.number;
  inserted = λ id. was.inserted id ∙ sym (rw other refl);
  removed = λ id. was.removed id ∙ (ap (λ g. not g && is_gone more doc id) (gone_other before doc op id other) ∙ sym (rw other refl));
  marked = was.marked ∙ sym (rw other refl);
}

-- What is noted of the operations from the j-th on, where the last so many of the document are among them but for those that are left.
pub record IsBack (s : Since) (ops : List Op) (doc count left j : ℕ) : Type 0 where
  pub within : j ≤ length ops
  pub few : left ≤ count
  pub counted : rev (take j ops) doc + count ≡ rev ops doc + left
  pub since : IsSince s (take j ops) (drop j ops) doc

-- a longer beginning has at least as many of the document
pub rev_front : (ops : List Op) (doc j k : ℕ) → j ≤ k → rev (take j ops) doc ≤ rev (take k ops) doc
rev_front ops doc zero k less = omega arith
rev_front [] doc (suc j) k less = omega arith
rev_front (op ∷ ops) doc (suc j) zero less = let never : ⊥ = omega arith in absurd never
rev_front (op ∷ ops) doc (suc j) (suc k) less =
    let rest = rev_front ops doc j k (omega arith) in
    let first = sum_by-cons (λ (o : Op). cond (o.doc == doc) 1 0) op (take j ops) in
    let second = sum_by-cons (λ (o : Op). cond (o.doc == doc) 1 0) op (take k ops) in
    omega arith

-- where something is left of what came later than this, that wasn't gone over yet
pub back_known : (s : Since) (ops : List Op) (doc count left j from : ℕ) → 0 < left → IsBack s ops doc count left j → j ≤ from
    → rev (take from ops) doc + count ≤ rev ops doc → ⊥
back_known s ops doc count left j from some back past late =
    let counted = back.counted in
    let front = rev_front ops doc j from past in
    omega arith

-- nothing was gone over
pub back_none : (s : Since) (ops : List Op) (doc count : ℕ) → IsSince s ops [] doc → IsBack s ops doc count count (length ops)
back_none s ops doc count was =
    let all : take (length ops) ops ≡ ops = take_all (length ops) ops (omega arith) in
    let none : drop (length ops) ops ≡ [] = drop_of_length-le ops (omega arith) in
    record {
      within = omega arith;
      few = omega arith;
      counted = ap (λ xs. rev xs doc + count) all;
      since = subst (λ xs. IsSince s xs (drop (length ops) ops) doc) (sym all) (subst (λ xs. IsSince s ops xs doc) (sym none) was);
    }

-- the operation at an index is there
get_there : (ops : List Op) (k : ℕ) (op : Op) → k < length ops → op ≡ get_or ops k op → slice_get ops k ≡ Some op
get_there ops k op here is = slice_get-get_or ops k op here ∙ ap Some (sym is)

-- one back, which is the document's own
pub back_own : (s t : Since) (ops : List Op) (doc count left rest j k : ℕ) (op : Op) (again : Bool) → IsBack s ops doc count left j
    → j ≡ k + 1 → left ≡ rest + 1 → op ≡ get_or ops k op → op.doc ≡ doc → again ≡ repeats_at ops k
    → ((before more : List Op) (doc : ℕ) → IsSince s (before ++ op ∷ []) more doc → again ≡ removes_again before doc op.body → IsSince t before (op ∷ more) doc)
    → IsBack t ops doc count rest k
back_own s t ops doc count left rest j k op again back next one is own told taken =
    let within = back.within in
    let here : k < length ops = omega arith in
    let cut = cut_back ops k j op next here is in
    let more : rev (take j ops) doc ≡ rev (take k ops) doc + 1 =
    ap (λ xs. rev xs doc) cut.0 ∙ (rev_back (take k ops) op doc ∙ ap (λ b. rev (take k ops) doc + cond b 1 0) (eq-eqb op.doc doc own)) in
    let counted = back.counted in
    let since : IsSince s (take k ops ++ op ∷ []) (drop j ops) doc = subst (λ xs. IsSince s xs (drop j ops) doc) cut.0 back.since in
    let known : again ≡ removes_again (take k ops) doc op.body =
    told ∙ (ap (is_repeat (take k ops)) (get_there ops k op here is) ∙ ap (λ n. removes_again (take k ops) n op.body) own) in
    record {
      within = omega arith;
      few = let few = back.few in omega arith;
      counted = omega arith;
      since = subst (λ xs. IsSince t (take k ops) xs doc) (sym cut.1) (taken (take k ops) (drop j ops) doc since known);
    }

-- one back, which is another document's
pub back_other : (s : Since) (ops : List Op) (doc count left j k : ℕ) (op : Op) → IsBack s ops doc count left j
    → j ≡ k + 1 → op ≡ get_or ops k op → (op.doc == doc) ≡ false → IsBack s ops doc count left k
back_other s ops doc count left j k op back next is other =
    let within = back.within in
    let here : k < length ops = omega arith in
    let cut = cut_back ops k j op next here is in
    let same : rev (take j ops) doc ≡ rev (take k ops) doc + 0 =
    ap (λ xs. rev xs doc) cut.0 ∙ (rev_back (take k ops) op doc ∙ ap (λ b. rev (take k ops) doc + cond b 1 0) other) in
    let counted = back.counted in
    let since : IsSince s (take k ops ++ op ∷ []) (drop j ops) doc = subst (λ xs. IsSince s xs (drop j ops) doc) cut.0 back.since in
    record {
      within = omega arith;
      few = let few = back.few in omega arith;
      counted = omega arith;
      since = subst (λ xs. IsSince s (take k ops) xs doc) (sym cut.1) (since_other s (take k ops) (drop j ops) doc op other since);
    }

-- where none is left, all came
pub back_all : (s : Since) (ops : List Op) (doc count left j : ℕ) → left ≤ 0 → IsBack s ops doc count left j → IsCame s ops doc count
back_all s ops doc count left j none back = record {
  before = take j ops;
  more = drop j ops;
  all = sym (take-append-drop j ops);
  counted = let counted = back.counted in omega arith;
  since = back.since;
}

-- the operation of a head
pub of_head : (ops : List Op) (k : ℕ) (h : OpHead) (op : Op) → k < length ops → h ≡ get_or (heads ops) k h → op ≡ get_or ops k op → h.doc ≡ op.doc
of_head ops k h op here is_h is =
    let found = head_back ops k h here is_h in
    let same : found.0 ≡ op = found.1 ∙ (get_or_default ops k found.0 op here ∙ sym is) in
    ap (λ (x : OpHead). x.doc) found.2 ∙ ap (λ (x : Op). x.doc) same

pub differs : (a b : ℕ) → (a ≡ b → ⊥) → (a == b) ≡ false
differs a b other = grind (arith, nat_tests)

-- one back, by its head
pub back_past : (s : Since) (ops : List Op) (doc count left j k : ℕ) (h : OpHead) → IsBack s ops doc count left j → j ≡ k + 1
    → h ≡ get_or (heads ops) k h → (h.doc ≡ doc → ⊥) → IsBack s ops doc count left k
back_past s ops doc count left j k h back next is other =
    let within = back.within in
    let found = head_back ops k h (omega arith) is in
    back_other s ops doc count left j k found.0 back next found.1
    (differs found.0.doc doc (λ own. other (ap (λ (x : OpHead). x.doc) found.2 ∙ own)))

-- what is told since any beginning with as many operations of the document
pub told_since : (s : Since) (ops before more : List Op) (doc count since : ℕ) (steps : List ChangeStep) → (came : IsCame s ops doc count)
    → since + count ≡ rev ops doc → ops ≡ before ++ more → rev before doc ≡ since
    → steps ≡ changes came.before (came.before ++ came.more) doc → steps ≡ changes before ops doc
told_since s ops before more doc count since steps came many all is told =
    let counted = came.counted in
    let same : rev came.before doc ≡ rev before doc = omega arith in
    told ∙ (changes_since_rev came.before came.more before more (came.before ++ came.more) doc (sym came.all ∙ all) same
    ∙ ap (λ xs. changes before xs doc) (sym came.all))

-- so a document tells it that knows what came
pub changes_told : (d : Doc) (s : Since) (ops before more : List Op) (doc many since : ℕ) (steps : List ChangeStep) → StandsFor d ops → doc_number d ≡ doc
    → IsCame s ops doc (many - since) → since ≤ many → many ≡ rev ops (doc_number d) → ops ≡ before ++ more → rev before doc ≡ since
    → ((first rest : List Op) → StandsFor d (first ++ rest) → IsSince s first rest (doc_number d) → steps ≡ changes first (first ++ rest) (doc_number d))
    → steps ≡ changes before ops doc
changes_told d s ops before more doc many since steps stands number came few counted all is tells =
    let same : many ≡ rev ops doc = counted ∙ ap (rev ops) number in
    let own : IsSince s came.before came.more (doc_number d) = subst (λ n. IsSince s came.before came.more n) (sym number) came.since in
    told_since s ops before more doc (many - since) since steps came (omega arith) all is
    (tells came.before came.more (subst (λ xs. StandsFor d xs) came.all stands) own ∙ ap (λ n. changes came.before (came.before ++ came.more) n) number)

-- since any beginning without operations of the document each span was put
pub put_since_none : (ops before more : List Op) (doc : ℕ) → IsCausallyClosed ops → ops ≡ before ++ more → rev before doc ≡ 0
    → map Put (spans ops doc) ≡ changes before ops doc
put_since_none ops before more doc closed all none =
    sym (changes_since_none ops doc (closed_orderly ops doc closed)) ∙ changes_since_rev [] ops before more ops doc all (sym none)
