use Rattle.std.proofs.Common.{◌≡◌, ℕ, ◌+◌, ◌<◌, List, [], ◌∷◌, ◌++◌, length, take, get_or, flat_map, append_assoc, append-nil, ap, ◌∙◌}
use Rattle.std.proofs.lemmas.List.{take_more}
use Rattle.std.proofs.lemmas.List.Concat.{flat_map-append}
use Rattle.file_listing.specs.Listing.{document_line}
use Rattle.list_counts.specs.Documents.{Counted}
use Rattle.store_orders.proofs.listing.put_documents.Goals as goal

-- the lines of the documents so far, and one more
more_lines : (old mid new : List ℕ) (xs : List Counted) (i : ℕ) (x : Counted) → i < length xs → x ≡ get_or xs i x
    → mid ≡ old ++ flat_map document_line (take i xs) → new ≡ mid ++ document_line x → new ≡ old ++ flat_map document_line (take (i + 1) xs)
more_lines old mid new xs i x within is p q =
    rw (take_more xs i x within, ← is, flat_map-append document_line (take i xs) (x ∷ []), append-nil (document_line x))
    (q ∙ ap (λ l. l ++ document_line x) p ∙ append_assoc old (flat_map document_line (take i xs)) (document_line x))

pub loop-counts-preserved : goal.loop-counts-preserved
loop-counts-preserved c =
    more_lines c.args.lines.now.items c.loop-counts.lines.items _ c.args.documents.now c.loop-counts.counts-index c.counts-item.result
    c.loop-counts-test.true c.counts-item.is c.loop-counts.invariant c.in_ok-put_document.ensures
