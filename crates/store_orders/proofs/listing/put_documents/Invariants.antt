use Rattle.std.proofs.Common.{◌≡◌, ◌++◌, take, flat_map}
use Rattle.file_listing.specs.Listing.{document_line}
use Rattle.store_orders.proofs.listing.put_documents.Given as goal

-- the lines of the documents so far are put
abbrev pub invariant-loop-counts : goal.invariant-loop-counts
invariant-loop-counts l = l.lines.items ≡ l.initial.lines.items ++ flat_map document_line (take l.counts-index l.documents)
