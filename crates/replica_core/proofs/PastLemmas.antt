-- A document is drafted anew, up to so many of its operations.
use Rattle.std.proofs.Common.{◌≡◌, ℕ, zero, suc, ◌+◌, ◌<◌, Bool, true, false, inl, inr, nat_le, cond, List, [], ◌∷◌, ◌++◌, length, take, get_or}
use Rattle.std.proofs.Common.{Some, None, refl, sym, ◌∙◌, ap, subst, arith, append_assoc}
use Rattle.std.specs.Prelude.{◌==◌, if◌then◌else◌}
use Rattle.std.proofs.lemmas.Bool.{cases_Bool, eq-eqb, leb-true, le-leb}
use Rattle.std.proofs.lemmas.List.{append-nil, take_all}
use Rattle.std.proofs.lemmas.List.Sums.{sum_by-cons}
use Rattle.op_list.specs.declared.head.OpHead.{OpHead}
use Rattle.op_list.specs.Heads.{heads}
use Rattle.op_model.specs.declared.op.Op.{Op}
use Rattle.op_model.specs.Causality.{IsCausallyClosed}
use Rattle.op_model.specs.Placing.{Fits, FitInTurn}
use Rattle.op_model.specs.Spans.{spans}
use Rattle.op_model.specs.Text.{rev, text}
use Rattle.model_laws.proofs.Closed.{closed_orderly}
use Rattle.model_laws.proofs.Growth.{other_spans, other_text}
use Rattle.doc_core.specs.declared.doc.Doc.{Doc}
use Rattle.doc_core.specs.declared.draft.Draft.{Draft}
use Rattle.doc_core.specs.Standing.{StandsFor}
use Rattle.doc_core.specs.Drafting.{IsDraftOf}
use Rattle.doc_core.proofs.FittingLemmas.{draft_stays}
use Rattle.replica_core.specs.Docs.{doc_number, draft_number}
use Rattle.replica_core.specs.Drafted.{IsDrafted}
use Rattle.replica_core.specs.Past.{IsPast, up_to}
use Rattle.replica_core.proofs.CameLemmas.{differs, rev_back, rev_front}
use Rattle.replica_core.proofs.DraftLemmas.{take_push}
use Rattle.replica_core.proofs.HeadLemmas.{head_back}

-- ---- what fits

-- each operation of a list in which all fit in turn fits those before it
fits_at : (before ops : List Op) (doc k : ℕ) (op : Op) → FitInTurn before doc ops → k < length ops → op ≡ get_or ops k op → op.doc ≡ doc
    → Fits (before ++ take k ops) doc op
fits_at before [] doc k op fit here is own = absurd (omega arith)
fits_at before (x ∷ ops) doc zero op fit here is own =
    subst (λ (b : List Op). Fits b doc op) (sym (append-nil before))
    (subst (λ (o : Op). Fits before doc o) (sym is) (fit.0 (ap (λ (o : Op). o.doc) (sym is) ∙ own)))
fits_at before (x ∷ ops) doc (suc k) op fit here is own =
    subst (λ (b : List Op). Fits b doc op) (append_assoc before (x ∷ []) (take k ops))
    (fits_at (before ++ x ∷ []) ops doc k op fit.1 (omega arith) is own)

pub fits_next : (list : List Op) (doc k : ℕ) (op : Op) → IsCausallyClosed list → k < length list → op ≡ get_or list k op → op.doc ≡ doc
    → Fits (take k list) doc op
fits_next list doc k op closed here is own = fits_at [] list doc k op (closed_orderly list doc closed) here is own

-- ---- what is drafted

pub drafted_none : (d : Draft) (list : List Op) (doc count : ℕ) → draft_number d ≡ doc → IsDraftOf d [] → IsDrafted d list doc count count 0
drafted_none d list doc count number draft = record { within = omega arith; number = number; draft = draft; counted = omega arith }

-- one of its own is taken
pub drafted_own : (d new : Draft) (list : List Op) (doc count left rest next after : ℕ) (h : OpHead) → IsDrafted d list doc count left next
    → next < length list → left ≡ rest + 1 → after ≡ next + 1 → h ≡ get_or (heads list) next h → h.doc ≡ doc → draft_number new ≡ draft_number d
    → IsDraftOf new (take (next + 1) list) → IsDrafted new list doc count rest after
drafted_own d new list doc count left rest next after h it here one moved is_h own same taken =
    let found = head_back list next h here is_h in
    let op = found.0 in
    let mine : op.doc ≡ doc = sym (ap (λ (x : OpHead). x.doc) found.2) ∙ own in
    let front : take after list ≡ take next list ++ op ∷ [] = ap (λ n. take n list) moved ∙ take_push list next op here found.1 in
    let more : rev (take after list) doc ≡ rev (take next list) doc + 1 =
    ap (λ xs. rev xs doc) front ∙ (rev_back (take next list) op doc ∙ ap (λ b. rev (take next list) doc + cond b 1 0) (eq-eqb op.doc doc mine)) in
    let counted = it.counted in
    record {
      within = omega arith;
      number = same ∙ it.number;
      draft = subst (λ n. IsDraftOf new (take n list)) (sym moved) taken;
      counted = omega arith;
    }

-- one of another document is passed by
pub drafted_other : (d : Draft) (list : List Op) (doc count left next after : ℕ) (h : OpHead) → IsDrafted d list doc count left next → next < length list
    → after ≡ next + 1 → h ≡ get_or (heads list) next h → (h.doc ≡ doc → ⊥) → IsDrafted d list doc count left after
drafted_other d list doc count left next after h it here moved is_h other =
    let found = head_back list next h here is_h in
    let op = found.0 in
    let apart : op.doc ≡ doc → ⊥ = λ own. other (ap (λ (x : OpHead). x.doc) found.2 ∙ own) in
    let front : take after list ≡ take next list ++ op ∷ [] = ap (λ n. take n list) moved ∙ take_push list next op here found.1 in
    let same : rev (take after list) doc ≡ rev (take next list) doc + 0 =
    ap (λ xs. rev xs doc) front ∙ (rev_back (take next list) op doc ∙ ap (λ b. rev (take next list) doc + cond b 1 0) (differs op.doc doc apart)) in
    let counted = it.counted in
    record {
      within = omega arith;
      number = it.number;
      draft = subst (λ ops. IsDraftOf d ops) (sym front) (draft_stays d (take next list) op (λ own. apart (own ∙ it.number)) it.draft);
      counted = omega arith;
    }

-- if the list ends while some are left, it has fewer
pub drafted_short : (d : Draft) (list : List Op) (doc count left next : ℕ) → IsDrafted d list doc count left next → 0 < left → next ≡ length list
    → false ≡ nat_le count (rev list doc)
drafted_short d list doc count left next it some all =
    let whole : rev (take next list) doc ≡ rev list doc = ap (λ xs. rev xs doc) (take_all next list (omega (arith, all))) in
    let counted = it.counted in
    elim (cases_Bool (nat_le count (rev list doc))) [
      | inl e ↦ let enough = leb-true count (rev list doc) e in absurd (omega arith)
      | inr e ↦ sym e
    ]

-- if none are left, it has as many
pub drafted_all : (d : Draft) (list : List Op) (doc count next : ℕ) → IsDrafted d list doc count 0 next → true ≡ nat_le count (rev list doc)
drafted_all d list doc count next it =
    let whole : rev (take (length list) list) doc ≡ rev list doc = ap (λ xs. rev xs doc) (take_all (length list) list (omega arith)) in
    let fewer = rev_front list doc next (length list) it.within in
    let counted = it.counted in
    sym (le-leb count (rev list doc) (omega arith))

-- ---- what the draft gives

pub past_of : (draft : Draft) (d : Doc) (list all : List Op) (doc count next : ℕ) → list ≡ all → IsDrafted draft list doc count 0 next
    → doc_number d ≡ draft_number draft → ((ops : List Op) → IsDraftOf draft ops → StandsFor d ops) → IsPast d all doc count
past_of draft d list all doc count next same it number stands = record {
  number = number ∙ it.number;
  front = next;
  counted = let counted = it.counted in ap (λ ops. rev (take next ops) doc) (sym same) ∙ omega arith;
  stands = subst (λ ops. StandsFor d (take next ops)) same (stands (take next list) it.draft);
}

-- ---- which beginning it is

-- one operation more in front
with_first : (op : Op) (ops xs more : List Op) (doc n : ℕ) (own : Bool) → (op.doc == doc) ≡ own → xs ≡ up_to ops doc (if own then n else suc n) ++ more
    → op ∷ xs ≡ up_to (op ∷ ops) doc (suc n) ++ more
with_first op ops xs more doc n own is same = rw is (ap (λ ys. op ∷ ys) same)

-- a beginning with so many operations of the document goes on after the shortest one with operations of others alone
begins : (list : List Op) (doc count front : ℕ) → rev (take front list) doc ≡ count
    → (more : List Op) × (take front list ≡ up_to list doc count ++ more) × (rev more doc ≡ 0)
begins list doc zero front counted = (take front list, refl, counted)
begins [] doc (suc n) zero counted = absurd (omega (arith, counted))
begins [] doc (suc n) (suc front) counted = absurd (omega (arith, counted))
begins (op ∷ ops) doc (suc n) zero counted = absurd (omega (arith, counted))
begins (op ∷ ops) doc (suc n) (suc front) counted =
    let first = sum_by-cons (λ (o : Op). cond (o.doc == doc) 1 0) op (take front ops) in
    elim (cases_Bool (op.doc == doc)) [
      | inl own ↦
          let one : ◌≡◌ {A = ℕ} (cond (op.doc == doc) 1 0) 1 = ap (λ b. cond b 1 0) own in
          let it = begins ops doc n front (omega (arith, counted, first, one)) in
          (it.0, with_first op ops (take front ops) it.0 doc n true own it.1, it.2)
      | inr other ↦
          let none : ◌≡◌ {A = ℕ} (cond (op.doc == doc) 1 0) 0 = ap (λ b. cond b 1 0) other in
          let it = begins ops doc (suc n) front (omega (arith, counted, first, none)) in
          (it.0, with_first op ops (take front ops) it.0 doc n false other it.1, it.2)
    ]

-- operations of other documents change nothing
others_stay : (ops more : List Op) (doc : ℕ) → rev more doc ≡ 0
    → (text (ops ++ more) doc ≡ text ops doc) × (spans (ops ++ more) doc ≡ spans ops doc)
others_stay ops [] doc none = (ap (λ xs. text xs doc) (append-nil ops), ap (λ xs. spans xs doc) (append-nil ops))
others_stay ops (op ∷ more) doc none =
    let first = sum_by-cons (λ (o : Op). cond (o.doc == doc) 1 0) op more in
    elim (cases_Bool (op.doc == doc)) [
      | inl own ↦ let one : ◌≡◌ {A = ℕ} (cond (op.doc == doc) 1 0) 1 = ap (λ b. cond b 1 0) own in absurd (omega (arith, none, first, one))
      | inr other ↦
          let next = others_stay (ops ++ op ∷ []) more doc (omega (arith, none, first)) in
          let joined = append_assoc ops (op ∷ []) more in (
            ap (λ xs. text xs doc) (sym joined) ∙ (next.0 ∙ other_text ops doc op other),
            ap (λ xs. spans xs doc) (sym joined) ∙ (next.1 ∙ other_spans ops doc op other),
          )
    ]

-- whichever beginning has so many operations of the document shows the same text
pub past_text : (list : List Op) (doc count front : ℕ) → rev (take front list) doc ≡ count → text (take front list) doc ≡ text (up_to list doc count) doc
past_text list doc count front counted =
    let it = begins list doc count front counted in
    ap (λ xs. text xs doc) it.1 ∙ (others_stay (up_to list doc count) it.0 doc it.2).0

-- and the same spans
pub past_spans : (list : List Op) (doc count front : ℕ) → rev (take front list) doc ≡ count
    → spans (take front list) doc ≡ spans (up_to list doc count) doc
past_spans list doc count front counted =
    let it = begins list doc count front counted in
    ap (λ xs. spans xs doc) it.1 ∙ (others_stay (up_to list doc count) it.0 doc it.2).1

-- ---- what is told of it

-- if it has had so many, what was shown then is told
pub told_then : {A : Type 0} (enough : Bool) (x shown : A) → true ≡ enough → x ≡ shown → Some x ≡ (if enough then Some shown else None)
told_then enough x shown is same = rw (sym is) (ap Some same)

-- if it hasn't, nothing is
pub told_none : {A : Type 0} (enough : Bool) (shown : A) → false ≡ enough → None ≡ (if enough then Some shown else None)
told_none enough shown is = rw (sym is) refl
