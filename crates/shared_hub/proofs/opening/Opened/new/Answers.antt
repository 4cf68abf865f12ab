use Rattle.std.proofs.Common.{rules}
use Rattle.std.proofs.lemmas.List.Elements.{All-push}
use Rattle.shared_hub.proofs.OpeningLemmas.{names_more}
use Rattle.shared_hub.specs.Books.{IsFresh}
use Rattle.shared_hub.proofs.opening.Opened.new.Goals as goal

-- one more of each, of one name, in which nothing is entered
pub loop-alloc-preserved : goal.loop-alloc-preserved
loop-alloc-preserved c = (
  search rules,
  rw (c.in_ok-push.ensures.items, c.in_ok-push-2.ensures.items) (names_more c.loop-alloc.shares.items c.loop-alloc.books.items c.in_ok-book.share
      c.in_ok-book.book c.loop-alloc.invariant.1 c.in_ok-book.ensures.name),
  rw c.in_ok-push.ensures.items (All-push IsFresh c.loop-alloc.books.items c.in_ok-book.book c.loop-alloc.invariant.2
      (record { entries = c.in_ok-book.ensures.book.0; moments = c.in_ok-book.ensures.book.1 })),
  rw c.in_ok-push-2.ensures.items (All-push IsFresh c.loop-alloc.shares.items c.in_ok-book.share c.loop-alloc.invariant.3
      (record { entries = c.in_ok-book.ensures.share.0; moments = c.in_ok-book.ensures.share.1 })),
)
