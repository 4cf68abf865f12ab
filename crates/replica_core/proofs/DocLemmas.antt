-- The documents of a list, and one of them with more operations.
use Rattle.std.proofs.Common.{◌≡◌, ℕ, zero, suc, ◌<◌, true, false, inl, inr, ◌||◌, List, [], ◌∷◌, ◌++◌, length, take, drop, get_or, refl, sym}
use Rattle.std.proofs.Common.{◌∙◌, ap, append_assoc, append-nil, arith}
use Rattle.std.specs.Prelude.{◌==◌, ◌≢◌, slice_set}
use Rattle.std.specs.List.{list_any}
use Rattle.std.proofs.lemmas.Bool.{cases_Bool, cases_order, eq-eqb, ne_eqb, le-ltb, both_ways, or_parts, or_from}
use Rattle.std.proofs.lemmas.List.{take-append-drop}
use Rattle.doc_core.specs.declared.doc.Doc.{Doc}
use Rattle.doc_core.specs.Standing.{StandsFor}
use Rattle.replica_core.specs.Docs.{doc_number}
use Rattle.char_sequence.specs.Content.{FitAfter}
use Rattle.doc_core.proofs.FittingLemmas.{document_stays}
use Rattle.op_model.specs.declared.op.Op.{Op}
use Rattle.op_model.specs.Causality.{documents}
use Rattle.op_model.specs.Spans.{with_number}
use Rattle.op_model.specs.Rising.{AllOver, IsUp}
use Rattle.op_model.proofs.RisingLemmas.{documents_up}
use Rattle.model_laws.proofs.Up.{has, has-with, none_over}
use Rattle.replica_core.specs.Docs.{numbers, AllStand, AreDocs}

-- the numbers of the documents rise
pub docs_up : (ds : List Doc) (ops : List Op) → AreDocs ds ops → IsUp (numbers ds)
docs_up ds ops are = rw (are.numbers) (documents_up ops)

-- a number that is there changes nothing
with_same : (n : ℕ) (ns : List ℕ) → IsUp ns → has n ns ≡ true → with_number n ns ≡ ns
with_same n [] up there = absurd (cc)
with_same n (k ∷ ns) up there =
    elim (cases_order n k) [
      | inl same ↦ simp (le-ltb n k (omega arith), eq-eqb n k same)
      | inr o ↦ elim o [
        | inl below ↦ let first : (k == n) ≡ false = ne_eqb k n (omega arith) in
            let rest : has n ns ≡ false = none_over n k ns (omega arith) up.0 in
            absurd (both_ways (has n (k ∷ ns)) (or_from (k == n) (has n ns) first rest) there)
        | inr above ↦ let first : (k == n) ≡ false = ne_eqb k n (omega arith) in
            let rest : has n ns ≡ true = rw first at there in
            simp (le-ltb n k (omega arith), ne_eqb n k (omega arith)) (ap (λ ms. k ∷ ms) (with_same n ns up.1 rest))
      ]
    ]

longer : (n : ℕ) (front back : List ℕ) → length (front ++ n ∷ back) ≡ suc (length (front ++ back))
longer n [] back = refl
longer n (m ∷ front) back = ap suc (longer n front back)

-- a number that has a place of its own isn't there
pub lacks_placed : (n at : ℕ) (ns : List ℕ) → IsUp ns → with_number n ns ≡ take at ns ++ n ∷ drop at ns → has n ns ≡ false
lacks_placed n at ns up placed =
    elim (cases_Bool (has n ns)) [
      | inl there ↦ let same = with_same n ns up there in
          let long = longer n (take at ns) (drop at ns) in
          let whole = ap length (take-append-drop at ns) in
          let both = ap length (sym same ∙ placed) in
          absurd (omega arith)
      | inr none ↦ none
    ]

-- a document is one of those of a list where some operation is of it
pub has-documents : (n : ℕ) (ops : List Op) → has n (documents ops) ≡ list_any (λ op. op.doc == n) ops
has-documents n [] = refl
has-documents n (op ∷ ops) = has-with n op.doc (documents ops) ∙ ap (λ rest. (op.doc == n) || rest) (has-documents n ops)

pub differ : (a b : ℕ) → (a == b) ≡ false → a ≢ b
differ a b apart same = both_ways (a == b) apart (eq-eqb a b same)

-- operations of other documents leave a document as it is
stays_all : (d : Doc) (before more : List Op) → list_any (λ op. op.doc == doc_number d) more ≡ false → StandsFor d before → StandsFor d (before ++ more)
stays_all d before [] none stands = rw append-nil stands
stays_all d before (op ∷ more) none stands =
    let both = or_parts (op.doc == doc_number d) (list_any (λ o. o.doc == doc_number d) more) none in
    rw append_assoc at (stays_all d (before ++ op ∷ []) more both.1 (document_stays d before op (differ op.doc (doc_number d) both.0) stands))

in_turn_apart : (n doc : ℕ) (list more : List Op) → n ≢ doc → FitAfter list doc more → list_any (λ op. op.doc == n) more ≡ false
in_turn_apart n doc list [] other come = refl
in_turn_apart n doc list (op ∷ more) other come =
    let same = come.0.same in
    or_from (op.doc == n) (list_any (λ o. o.doc == n) more) (ne_eqb op.doc n (λ e. other (sym e ∙ same)))
    (in_turn_apart n doc (list ++ op ∷ []) more other come.1)

other_stands : (d : Doc) (doc : ℕ) (list more : List Op) → doc_number d ≢ doc → FitAfter list doc more → StandsFor d list → StandsFor d (list ++ more)
other_stands d doc list more other come stands = stays_all d list more (in_turn_apart (doc_number d) doc list more other come) stands

-- the empty document of a number that no document has stands for the list
absent_stands : (ds : List Doc) (d : Doc) (ops : List Op) → AreDocs ds ops → has (doc_number d) (numbers ds) ≡ false
    → StandsFor d [] → StandsFor d ops
absent_stands ds d ops are lacks empty = stays_all d [] ops (sym (has-documents (doc_number d) ops) ∙ rw (are.numbers) at lacks) empty

-- each of the documents stands for the list
pub stands_at : (ds : List Doc) (i : ℕ) (d : Doc) (ops : List Op) → AllStand ds ops → i < length ds → d ≡ get_or ds i d → StandsFor d ops
stands_at [] i d ops stand there is_it = absurd (omega arith)
stands_at (x ∷ ds) zero d ops stand there is_it = rw is_it stand.0
stands_at (x ∷ ds) (suc i) d ops stand there is_it = stands_at ds i d ops stand.1 (omega arith) is_it

over_at : (n : ℕ) (ds : List Doc) (i : ℕ) (d : Doc) → AllOver n (numbers ds) → i < length ds → d ≡ get_or ds i d → n < doc_number d
over_at n [] i d over there is_it = absurd (omega arith)
over_at n (x ∷ ds) zero d over there is_it = rw is_it over.0
over_at n (x ∷ ds) (suc i) d over there is_it = over_at n ds i d over.1 (omega arith) is_it

over_stand : (n : ℕ) (ds : List Doc) (list more : List Op) → AllOver n (numbers ds) → FitAfter list n more → AllStand ds list → AllStand ds (list ++ more)
over_stand n [] list more over come stand = tt
over_stand n (x ∷ ds) list more over come stand = (
  other_stands x n list more (λ e. let first = over.0 in absurd (omega arith)) come stand.0,
  over_stand n ds list more over.1 come stand.1,
)

-- one of the documents with more operations
pub stand_set : (ds : List Doc) (i : ℕ) (d new : Doc) (list more : List Op) → IsUp (numbers ds) → i < length ds → d ≡ get_or ds i d
    → FitAfter list (doc_number d) more → AllStand ds list → StandsFor new (list ++ more) → AllStand (slice_set ds i new) (list ++ more)
stand_set [] i d new list more up there is_it come stand stands = absurd (omega arith)
stand_set (x ∷ ds) zero d new list more up there is_it come stand stands =
    let over : AllOver (doc_number d) (numbers ds) = rw is_it up.0 in
    (stands, over_stand (doc_number d) ds list more over come stand.1)
stand_set (x ∷ ds) (suc i) d new list more up there is_it come stand stands =
    let below = over_at (doc_number x) ds i d up.0 (omega arith) is_it in (
      other_stands x (doc_number d) list more (λ e. absurd (omega arith)) come stand.0,
      stand_set ds i d new list more up.1 (omega arith) is_it come stand.1 stands,
    )

-- a new document among the others
lacks_stand : (n : ℕ) (ds : List Doc) (list more : List Op) → has n (numbers ds) ≡ false → FitAfter list n more → AllStand ds list
    → AllStand ds (list ++ more)
lacks_stand n [] list more lacks come stand = tt
lacks_stand n (x ∷ ds) list more lacks come stand =
    let both = or_parts (doc_number x == n) (has n (numbers ds)) lacks in
    (other_stands x n list more (differ (doc_number x) n both.0) come stand.0, lacks_stand n ds list more both.1 come stand.1)

stand_insert : (ds : List Doc) (at : ℕ) (new : Doc) (ops : List Op) → AllStand ds ops → StandsFor new ops → AllStand (take at ds ++ new ∷ drop at ds) ops
stand_insert ds zero new ops stand stands = (stands, stand)
stand_insert [] (suc at) new ops stand stands = (stands, tt)
stand_insert (x ∷ ds) (suc at) new ops stand stands = (stand.0, stand_insert ds at new ops stand.1 stands)

pub numbers_insert : (ds : List Doc) (at : ℕ) (new : Doc) → numbers (take at ds ++ new ∷ drop at ds) ≡ take at (numbers ds) ++ doc_number new ∷ drop at (numbers ds)
numbers_insert ds zero new = refl
numbers_insert [] (suc at) new = refl
numbers_insert (x ∷ ds) (suc at) new = ap (λ rest. doc_number x ∷ rest) (numbers_insert ds at new)

-- with the operations that it has
pub stand_new : (ds : List Doc) (at : ℕ) (new : Doc) (doc : ℕ) (list more : List Op) → AreDocs ds list
    → with_number doc (numbers ds) ≡ take at (numbers ds) ++ doc ∷ drop at (numbers ds)
    → FitAfter list doc more → StandsFor new (list ++ more) → AllStand (take at ds ++ new ∷ drop at ds) (list ++ more)
stand_new ds at new doc list more are placed come stands =
    let lacks = lacks_placed doc at (numbers ds) (docs_up ds list are) placed in
    stand_insert ds at new (list ++ more) (lacks_stand doc ds list more lacks come are.stand) stands

-- one of them with more operations
pub stand_more : (ds : List Doc) (i : ℕ) (d new : Doc) (list more : List Op) → AreDocs ds list → i < length ds → d ≡ get_or ds i d
    → FitAfter list (doc_number d) more → (StandsFor d list → StandsFor new (list ++ more)) → AllStand (slice_set ds i new) (list ++ more)
stand_more ds i d new list more are there is_it come takes =
    stand_set ds i d new list more (docs_up ds list are) there is_it come are.stand (takes (stands_at ds i d list are.stand there is_it))

pub numbers_set : (ds : List Doc) (i : ℕ) (d new : Doc) → d ≡ get_or ds i d → doc_number new ≡ doc_number d → numbers (slice_set ds i new) ≡ numbers ds
numbers_set [] i d new is_it same = refl
numbers_set (x ∷ ds) zero d new is_it same = let first : d ≡ x = is_it in ap (λ n. n ∷ numbers ds) (same ∙ ap doc_number first)
numbers_set (x ∷ ds) (suc i) d new is_it same = ap (λ rest. doc_number x ∷ rest) (numbers_set ds i d new is_it same)

-- a new document stands for the list that has no operation of it
pub fresh_stands : (ds : List Doc) (at : ℕ) (d : Doc) (doc : ℕ) (ops : List Op) → AreDocs ds ops
    → with_number doc (numbers ds) ≡ take at (numbers ds) ++ doc ∷ drop at (numbers ds) → doc_number d ≡ doc → StandsFor d [] → StandsFor d ops
fresh_stands ds at d doc ops are placed same empty =
    absent_stands ds d ops are (rw same (lacks_placed doc at (numbers ds) (docs_up ds ops are) placed)) empty
