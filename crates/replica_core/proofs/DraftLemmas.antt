-- The drafts of the documents of a list, and one of them with an operation more.
use Rattle.std.proofs.Common.{◌≡◌, ℕ, zero, suc, ◌+◌, ◌<◌, ◌≤◌, ◌^◌, false, List, [], ◌∷◌, ◌++◌, length, take, drop, get_or, refl, sym, ◌∙◌, ap, subst, arith}
use Rattle.std.proofs.Common.{append_assoc, append-nil}
use Rattle.std.specs.Prelude.{◌==◌, slice_set}
use Rattle.std.specs.List.{list_any}
use Rattle.std.proofs.lemmas.Bool.{or_parts}
use Rattle.std.proofs.Math.Seq.{get_or-append_seam}
use Rattle.std.proofs.lemmas.List.{take_more, length-append, length-map, length-take-le}
use Rattle.doc_core.specs.declared.doc.Doc.{Doc}
use Rattle.doc_core.specs.declared.draft.Draft.{Draft}
use Rattle.doc_core.specs.Drafting.{IsDraftOf}
use Rattle.replica_core.specs.Docs.{draft_number}
use Rattle.doc_core.specs.Standing.{StandsFor}
use Rattle.replica_core.specs.Docs.{doc_number}
use Rattle.op_model.specs.Placing.{Fits}
use Rattle.doc_core.proofs.FittingLemmas.{draft_stays}
use Rattle.op_model.specs.declared.op.Op.{Op}
use Rattle.op_model.specs.Rising.{AllOver, IsUp}
use Rattle.op_model.specs.Text.{rev}
use Rattle.op_model.specs.Causality.{documents}
use Rattle.op_model.specs.Spans.{with_number}
use Rattle.model_laws.proofs.Up.{has}
use Rattle.replica_core.proofs.DocLemmas.{differ, has-documents, lacks_placed}
use Rattle.replica_core.specs.Docs.{draft_numbers, numbers, AllDrafts, AllStand, AreDrafts, IsNumberAt}

-- operations of other documents leave a draft as it is
stays_all : (d : Draft) (before more : List Op) → list_any (λ op. op.doc == draft_number d) more ≡ false → IsDraftOf d before → IsDraftOf d (before ++ more)
stays_all d before [] none draft = rw append-nil draft
stays_all d before (op ∷ more) none draft =
    let both = or_parts (op.doc == draft_number d) (list_any (λ o. o.doc == draft_number d) more) none in
    rw append_assoc at (stays_all d (before ++ op ∷ []) more both.1 (draft_stays d before op (differ op.doc (draft_number d) both.0) draft))

drafts_insert : (ds : List Draft) (at : ℕ) (new : Draft) (ops : List Op) → AllDrafts ds ops → IsDraftOf new ops → AllDrafts (take at ds ++ new ∷ drop at ds) ops
drafts_insert ds zero new ops all draft = (draft, all)
drafts_insert [] (suc at) new ops all draft = (draft, tt)
drafts_insert (x ∷ ds) (suc at) new ops all draft = (all.0, drafts_insert ds at new ops all.1 draft)

numbers_insert : (ds : List Draft) (at : ℕ) (new : Draft)
    → draft_numbers (take at ds ++ new ∷ drop at ds) ≡ take at (draft_numbers ds) ++ draft_number new ∷ drop at (draft_numbers ds)
numbers_insert ds zero new = refl
numbers_insert [] (suc at) new = refl
numbers_insert (x ∷ ds) (suc at) new = ap (λ rest. draft_number x ∷ rest) (numbers_insert ds at new)

-- a new draft among the others, of a document that has no operation
pub drafts_new : (ds more : List Draft) (ns more_numbers : List ℕ) (at : ℕ) (new : Draft) (doc : ℕ) (ops : List Op) → AreDrafts ds ns ops → IsUp ns
    → ns ≡ documents ops → with_number doc ns ≡ take at ns ++ doc ∷ drop at ns → draft_number new ≡ doc → IsDraftOf new []
    → more ≡ take at ds ++ new ∷ drop at ds → more_numbers ≡ take at ns ++ doc ∷ drop at ns → AreDrafts more more_numbers ops
drafts_new ds more ns more_numbers at new doc ops are up ns_are placed same empty more_is numbers_are =
    let lacks : has (draft_number new) (documents ops) ≡ false = rw (same, ← ns_are) (lacks_placed doc at ns up placed) in
    let none : list_any (λ op. op.doc == draft_number new) ops ≡ false = sym (has-documents (draft_number new) ops) ∙ lacks in
    let draft : IsDraftOf new ops = stays_all new [] ops none empty in
    record {
      numbers =
          ap draft_numbers more_is ∙ numbers_insert ds at new
          ∙ ap (λ (ms : List ℕ). take at ms ++ draft_number new ∷ drop at ms) are.numbers
          ∙ ap (λ (n : ℕ). take at ns ++ n ∷ drop at ns) same ∙ sym numbers_are;
      drafts = subst (λ (all : List Draft). AllDrafts all ops) (sym more_is) (drafts_insert ds at new ops are.drafts draft);
    }

-- one more document, that of the next draft
pub docs_push : (ds : List Doc) (d : Doc) (x : Draft) (rest : List Draft) → doc_number d ≡ draft_number x
    → numbers (ds ++ d ∷ []) ++ draft_numbers rest ≡ numbers ds ++ draft_numbers (x ∷ rest)
docs_push [] d x rest same = ap (λ n. n ∷ draft_numbers rest) same
docs_push (y ∷ ds) d x rest same = ap (λ more. doc_number y ∷ more) (docs_push ds d x rest same)

pub stand_push : (ds : List Doc) (d : Doc) (ops : List Op) → AllStand ds ops → StandsFor d ops → AllStand (ds ++ d ∷ []) ops
stand_push [] d ops all stands = (stands, tt)
stand_push (x ∷ ds) d ops all stands = (all.0, stand_push ds d ops all.1 stands)

pub draft_at : (ds : List Draft) (i : ℕ) (d : Draft) (ops : List Op) → AllDrafts ds ops → i < length ds → d ≡ get_or ds i d → IsDraftOf d ops
draft_at [] i d ops all here is_it = absurd (omega arith)
draft_at (x ∷ ds) zero d ops all here is_it = rw is_it all.0
draft_at (x ∷ ds) (suc i) d ops all here is_it = draft_at ds i d ops all.1 (omega arith) is_it

-- one of the drafts changed, with its number as it was
pub numbers_put : (ds : List Draft) (i : ℕ) (d new : Draft) → d ≡ get_or ds i d → draft_number new ≡ draft_number d
    → draft_numbers (slice_set ds i new) ≡ draft_numbers ds
numbers_put [] i d new is_it same = refl
numbers_put (x ∷ ds) zero d new is_it same = let first : d ≡ x = is_it in ap (λ n. n ∷ draft_numbers ds) (same ∙ ap draft_number first)
numbers_put (x ∷ ds) (suc i) d new is_it same = ap (λ rest. draft_number x ∷ rest) (numbers_put ds i d new is_it same)

-- the number at an index is that of the draft there
number_at : (ds : List Draft) (i : ℕ) (d : Draft) (n : ℕ) → i < length ds → d ≡ get_or ds i d → n ≡ get_or (draft_numbers ds) i n
    → n ≡ draft_number d
number_at [] i d n here is_it is_n = absurd (omega arith)
number_at (x ∷ ds) zero d n here is_it is_n = let first : d ≡ x = is_it in is_n ∙ sym (ap draft_number first)
number_at (x ∷ ds) (suc i) d n here is_it is_n = number_at ds i d n (omega arith) is_it is_n

-- a number that was put at an index is there
pub number_put : (ns more : List ℕ) (at n : ℕ) → at ≤ length ns → more ≡ take at ns ++ n ∷ drop at ns → IsNumberAt more at n
number_put ns more at n within are =
    let front : length (take at ns) ≡ at = length-take-le at ns within in
    let long = length-append (take at ns) (n ∷ drop at ns) in
    let seam = rw front at (get_or-append_seam (take at ns) n (drop at ns) n) in
    rw are (record { there = omega arith; number = sym seam })

-- the draft at the index of a number is there, and is of that number
pub found_at : (ds : List Draft) (i : ℕ) (d : Draft) (n : ℕ) → IsNumberAt (draft_numbers ds) i n → d ≡ get_or ds i d
    → (i < length ds) × (n ≡ draft_number d)
found_at ds i d n is is_it =
    let there = is.there in
    let many = length-map ds draft_number in
    let here : i < length ds = omega arith in
    (here, number_at ds i d n here is_it is.number)

over_number : (n : ℕ) (ds : List Draft) (i : ℕ) (d : Draft) → AllOver n (draft_numbers ds) → i < length ds → d ≡ get_or ds i d → n < draft_number d
over_number n [] i d over here is_it = absurd (omega arith)
over_number n (x ∷ ds) zero d over here is_it = rw is_it over.0
over_number n (x ∷ ds) (suc i) d over here is_it = over_number n ds i d over.1 (omega arith) is_it

over_stay : (ds : List Draft) (list : List Op) (op : Op) → AllOver op.doc (draft_numbers ds) → AllDrafts ds list → AllDrafts ds (list ++ op ∷ [])
over_stay [] list op over all = tt
over_stay (x ∷ ds) list op over all = (
  draft_stays x list op (λ same. let first = over.0 in absurd (omega arith)) all.0,
  over_stay ds list op over.1 all.1,
)

-- one of the drafts with an operation more
pub draft_put : (ds : List Draft) (i : ℕ) (d new : Draft) (list : List Op) (op : Op) → IsUp (draft_numbers ds) → i < length ds → d ≡ get_or ds i d
    → op.doc ≡ draft_number d → AllDrafts ds list → (IsDraftOf d list → IsDraftOf new (list ++ op ∷ []))
    → AllDrafts (slice_set ds i new) (list ++ op ∷ [])
draft_put [] i d new list op up here is_it same all takes = absurd (omega arith)
draft_put (x ∷ ds) zero d new list op up here is_it same all takes =
    let first : d ≡ x = is_it in
    let over : AllOver op.doc (draft_numbers ds) = rw (same, first) up.0 in
    (takes (rw first all.0), over_stay ds list op over all.1)
draft_put (x ∷ ds) (suc i) d new list op up here is_it same all takes =
    let below = over_number (draft_number x) ds i d up.0 (omega arith) is_it in (
      draft_stays x list op (λ e. absurd (omega arith)) all.0,
      draft_put ds i d new list op up.1 (omega arith) is_it same all.1 takes,
    )

-- the first i and the next one
pub take_push : (list : List Op) (i : ℕ) (op : Op) → i < length list → op ≡ get_or list i op → take (i + 1) list ≡ take i list ++ op ∷ []
take_push list i op here is_it = rw (take_more list i op here, ← is_it) refl

-- how many operations a draft has that took one more of its document
pub draft_rev : (d new : Draft) (ops : List Op) (op : Op) (n : ℕ) → op.doc ≡ draft_number d → draft_number new ≡ draft_number d
    → IsDraftOf new (ops ++ op ∷ []) → rev (ops ++ op ∷ []) op.doc < 2 ^ 64
    → ((all : List Op) → IsDraftOf new all → rev all (draft_number new) < 2 ^ 64 → n ≡ rev all (draft_number new)) → n ≡ rev (ops ++ op ∷ []) op.doc
draft_rev d new ops op n same kept is few says =
    let number : draft_number new ≡ op.doc = kept ∙ sym same in
    rw number at (says (ops ++ op ∷ []) is (rw number few))

-- what may come to a document may come to the one of the same number
pub may_come_at : (ops : List Op) (n m : ℕ) (op : Op) → n ≡ m → Fits ops n op → Fits ops m op
may_come_at ops n m op same may = rw (sym same) may

-- the draft at an index takes an operation of its number that may come
pub draft_takes : (ds : List Draft) (i : ℕ) (d : Draft) (op : Op) (ops : List Op) → i < length ds → d ≡ get_or ds i d → op.doc ≡ draft_number d
    → AllDrafts ds ops → Fits ops op.doc op → IsDraftOf d ops × Fits ops (draft_number d) op
draft_takes ds i d op ops here is_it same all may = (draft_at ds i d ops all here is_it, may_come_at ops op.doc (draft_number d) op same may)
