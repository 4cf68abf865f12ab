use Rattle.std.proofs.Common.{◌≡◌, ◌≤◌, All, vec_len, length, drop}
use Rattle.pass_books.specs.Accounts.{names_of}
use Rattle.shared_hub.specs.Books.{IsFresh, new_passes}
use Rattle.shared_hub.proofs.opening.numbered.Given as goal

-- the passes so far are the first ones; the shares that are left have the names behind those of the passes, and nothing is entered in them
abbrev pub invariant-loop-share : goal.invariant-loop-share
invariant-loop-share g l =
    (names_of l.share-iterator.rest.items ≡ drop (vec_len l.passes) g.J.BookNames.names)
    × All IsFresh l.share-iterator.rest.items
    × (l.passes.items ≡ new_passes (vec_len l.passes))
    × (vec_len l.passes ≤ length g.J.BookNames.names)
