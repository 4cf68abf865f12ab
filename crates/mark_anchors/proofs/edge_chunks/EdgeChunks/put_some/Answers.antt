use Rattle.mark_anchors.proofs.PutLemmas.{put_moves}
use Rattle.mark_anchors.proofs.edge_chunks.EdgeChunks.put_some.Goals as goal

pub returns-in_ok-put-clause-put : goal.returns-in_ok-put-clause-put
returns-in_ok-put-clause-put c = rw (c.in-Some.is, c.in_ok-put.ensures.put) (put_moves c.in-Some.edge c.args.self.now)
