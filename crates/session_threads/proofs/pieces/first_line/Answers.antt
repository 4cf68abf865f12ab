use Rattle.session_threads.proofs.FeedLemmas.{split_at_feed, no_feed_found}
use Rattle.session_threads.proofs.pieces.first_line.Goals as goal

pub returns-in-Some : goal.returns-in-Some
returns-in-Some c = split_at_feed c.args.bytes.now c.in-Some.end c.in-Some.ensures

pub returns-in-None : goal.returns-in-None
returns-in-None c = no_feed_found c.args.bytes.now c.in-None.ensures
