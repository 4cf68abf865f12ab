use Rattle.std.proofs.Common.{◌≡◌, ◌≤◌, ◌-◌, All, vec_len}
use Rattle.pass_books.specs.Accounts.{names_of}
use Rattle.shared_hub.specs.Books.{IsFresh}
use Rattle.shared_hub.proofs.opening.Opened.new.Given as goal

-- there are at most as many as are wanted; each book has the name of its share, and nothing is entered
abbrev pub invariant-loop-alloc : goal.invariant-loop-alloc
invariant-loop-alloc l =
    (vec_len l.books ≤ 49)
    × (names_of l.shares.items ≡ names_of l.books.items)
    × All IsFresh l.books.items
    × All IsFresh l.shares.items

abbrev pub decreases-loop-alloc : goal.decreases-loop-alloc
decreases-loop-alloc l = 49 - vec_len l.books
