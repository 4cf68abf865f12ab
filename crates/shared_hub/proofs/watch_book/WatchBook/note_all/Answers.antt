use Rattle.shared_hub.proofs.LookLemmas.{one_more}
use Rattle.shared_hub.proofs.watch_book.WatchBook.note_all.Goals as goal

pub loop-i-preserved : goal.loop-i-preserved
loop-i-preserved c =
    one_more c.args.self.now c.loop-i.self c.note.new.self c.args.list.now c.loop-i.i c.head.result c.head.ensures c.loop-i.invariant
    c.in_ok-note.ensures.noted c.in_ok-note.ensures.others c.in_ok-note.ensures.same.0 c.in_ok-note.ensures.same.1
