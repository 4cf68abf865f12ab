-- What is counted of the documents of a list.
use Rattle.std.proofs.Common.{◌≡◌, ℕ, suc, ◌+◌, ◌≤◌, ◌<◌, Bool, true, false, ◌&&◌, nat_le, List, [], ◌∷◌, ◌++◌, length, map, filter, take, drop, get_or}
use Rattle.std.proofs.Common.{refl, sym, ap, ◌∙◌, arith, add-one, append_assoc, append-nil, drop-cons, length-drop}
use Rattle.std.proofs.lemmas.List.{map-append, nil_from_length, take_all, take_more}
use Rattle.std.specs.List.{list_all}
use Rattle.std.proofs.lemmas.Bool.{leb-true}
use Rattle.std.proofs.lemmas.Bool.Decides.{nat_tests}
use Rattle.doc_core.specs.declared.doc.Doc.{Doc}
use Rattle.list_counts.specs.Documents.{all_counted, counted, Counted}
use Rattle.op_model.specs.declared.op.Op.{Op}
use Rattle.op_model.specs.Causality.{clock_of, documents, is_in_range, IsCausallyClosed}
use Rattle.op_model.specs.Records.{stream_length}
use Rattle.replica_core.specs.Docs.{doc_number, numbers, AreDocs}
use Rattle.replica_core.proofs.LimitLemmas.{closed_within}

-- what is counted of a document of a list
abbrev pub counted_doc : List Op → Doc → Counted
counted_doc ops doc = counted ops (doc_number doc)

each_counted : (ops : List Op) (docs : List Doc) → map (counted_doc ops) docs ≡ map (counted ops) (numbers docs)
each_counted ops [] = refl
each_counted ops (d ∷ docs) = ap (λ rest. counted_doc ops d ∷ rest) (each_counted ops docs)

-- all documents of a list are counted
pub docs_counted : (ops : List Op) (docs : List Doc) → AreDocs docs ops → map (counted_doc ops) docs ≡ all_counted ops
docs_counted ops docs are = each_counted ops docs ∙ ap (map (counted ops)) are.numbers

second : (a b c d e : Bool) → (a && (b && c && d && e)) ≡ true → b ≡ true
second a b c d e all = grind (arith, nat_tests)

-- a causally closed list is by at most 16 replicas
pub few_replicas : (ops : List Op) → IsCausallyClosed ops → length (clock_of ops) ≤ 16
few_replicas ops closed =
    leb-true (length (clock_of ops)) 16 (second (list_all is_in_range ops) (nat_le (length (clock_of ops)) 16) (nat_le (length (documents ops)) 1024)
    (nat_le (length ops) 16777216) (nat_le (stream_length ops) 1073741824) (closed_within ops closed))

-- of the replicas of a clock one more is looked at, which wrote
pub more_writer : (p : ℕ → Bool) (found whole : List ℕ) (es : List (ℕ × ℕ)) (i : ℕ) (e : ℕ × ℕ) → i < length es → e ≡ get_or es i e
    → found ++ filter p (map (λ x. x.0) (drop i es)) ≡ whole → p e.0 ≡ true
    → (found ++ e.0 ∷ []) ++ filter p (map (λ x. x.0) (drop (i + 1) es)) ≡ whole
more_writer p found whole es i e within is so_far wrote =
    let split : drop i es ≡ e ∷ drop (suc i) es = drop-cons es i e within ∙ ap (λ x. x ∷ drop (suc i) es) (sym is) in
    rw (add-one, append_assoc) (rw (split, wrote) at so_far)

-- or which didn't
pub no_writer : (p : ℕ → Bool) (found whole : List ℕ) (es : List (ℕ × ℕ)) (i : ℕ) (e : ℕ × ℕ) → i < length es → e ≡ get_or es i e
    → found ++ filter p (map (λ x. x.0) (drop i es)) ≡ whole → p e.0 ≡ false
    → found ++ filter p (map (λ x. x.0) (drop (i + 1) es)) ≡ whole
no_writer p found whole es i e within is so_far wrote =
    let split : drop i es ≡ e ∷ drop (suc i) es = drop-cons es i e within ∙ ap (λ x. x ∷ drop (suc i) es) (sym is) in
    rw add-one (rw (split, wrote) at so_far)

-- none is left
pub writers_end : (p : ℕ → Bool) (found whole : List ℕ) (es : List (ℕ × ℕ)) (i : ℕ) → length es ≤ i
    → found ++ filter p (map (λ x. x.0) (drop i es)) ≡ whole → found ≡ whole
writers_end p found whole es i past so_far =
    sym (append-nil found) ∙ rw (nil_from_length (drop i es) (omega (arith, length-drop i es))) at so_far

-- documents so far are counted, and one more
pub more_counted : (ops : List Op) (docs : List Doc) (i : ℕ) (d : Doc) (counts : List Counted) → i < length docs → d ≡ get_or docs i d
    → counts ≡ map (counted_doc ops) (take i docs) → counts ++ counted_doc ops d ∷ [] ≡ map (counted_doc ops) (take (i + 1) docs)
more_counted ops docs i d counts within is so_far =
    ap (λ xs. xs ++ counted_doc ops d ∷ []) so_far ∙ sym (map-append (counted_doc ops) (take i docs) (d ∷ []))
    ∙ ap (map (counted_doc ops)) (sym (take_more docs i d within ∙ ap (λ x. take i docs ++ x ∷ []) (sym is)))

-- all of them are
pub all_so_far : (ops : List Op) (docs : List Doc) (i : ℕ) (counts : List Counted) → length docs ≤ i → AreDocs docs ops
    → counts ≡ map (counted_doc ops) (take i docs) → counts ≡ all_counted ops
all_so_far ops docs i counts past are so_far =
    so_far ∙ ap (map (counted_doc ops)) (take_all i docs past) ∙ docs_counted ops docs are
