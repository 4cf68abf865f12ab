-- Documents whose numbers rise, and where one goes among them.
use Rattle.std.proofs.Common.{◌≡◌, ℕ, ◌<◌, List, [], ◌∷◌, length, get_or, Result, Ok, Err, sym, ◌∙◌, ap, arith}
use Rattle.std.specs.List.Sorted.{IsBinarySearchResult, IsSearchInRange}
use Rattle.std.specs.Ordering.{nat_cmp}
use Rattle.std.proofs.lemmas.List.{get_or-map, length-map}
use Rattle.doc_core.specs.declared.doc.Doc.{Doc}
use Rattle.replica_core.specs.Docs.{doc_number}
use Rattle.op_model.specs.Spans.{with_number}
use Rattle.op_model.specs.Rising.{IsUp, IsPlace}
use Rattle.op_model.proofs.RisingLemmas.{placed}
use Rattle.replica_core.specs.Docs.{numbers}

-- what a search by halves finds among documents, it finds among their numbers
by_number : (ds : List Doc) (m : ℕ) (r : Result ℕ ℕ) → IsSearchInRange r (length ds) → IsBinarySearchResult (λ d. nat_cmp (doc_number d) m) ds r
    → IsBinarySearchResult (λ n. nat_cmp n m) (numbers ds) r
by_number [] m (Ok at) bound says = absurd (omega arith)
by_number [] m (Err at) bound says = λ up. (λ k d from below. absurd (omega arith), λ k d from below. absurd (omega arith))
by_number (x ∷ ds) m (Ok at) bound says = λ d. rw (get_or-map doc_number (x ∷ ds) at x d bound) (says x)
by_number (x ∷ ds) m (Err at) bound says = λ up.
    let long : length (numbers (x ∷ ds)) ≡ length (x ∷ ds) = length-map (x ∷ ds) doc_number in
    let parted = says (λ i j d later there.
    rw (get_or-map doc_number (x ∷ ds) i d (doc_number d) (omega arith), get_or-map doc_number (x ∷ ds) j d (doc_number d) there)
    at (up i j (doc_number d) later (omega arith))) in (
      λ k d from below. rw (get_or-map doc_number (x ∷ ds) k x d (omega arith)) (parted.0 k x from below),
      λ k d from below. rw (get_or-map doc_number (x ∷ ds) k x d (omega arith)) (parted.1 k x from (omega arith)),
    )

-- so the place of a document is that of its number
pub placed_doc : (ds : List Doc) (m : ℕ) (r : Result ℕ ℕ) → IsUp (numbers ds) → IsSearchInRange r (length ds)
    → IsBinarySearchResult (λ d. nat_cmp (doc_number d) m) ds r → IsPlace (numbers ds) m r
placed_doc ds m r up bound says = placed (numbers ds) m r up (by_number ds m r bound says)

-- the document at the place of a number
pub doc_at : (ds : List Doc) (m at : ℕ) → IsPlace (numbers ds) m (Ok at)
    → (at < length ds) × ((d : Doc) → d ≡ get_or ds at d → doc_number d ≡ m) × (with_number m (numbers ds) ≡ numbers ds)
doc_at ds m at place =
    let long : length (numbers ds) ≡ length ds = length-map ds doc_number in
    let first = place.0 in
    let here : at < length ds = omega arith in
    (here, λ d is_it. ap doc_number is_it ∙ sym (place.1 ∙ get_or-map doc_number ds at d m here), place.2)
