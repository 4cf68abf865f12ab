use Rattle.shared_hub.proofs.LookLemmas.{HasNoted}
use Rattle.shared_hub.proofs.watch_book.WatchBook.note_all.Given as goal

-- the documents of the operations so far are due, if they are watched
abbrev pub invariant-loop-i : goal.invariant-loop-i
invariant-loop-i l = HasNoted l.initial.self l.self l.list l.i
