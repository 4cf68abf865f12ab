use Rattle.std.specs.Prelude.{option_to_list}
use Rattle.mark_anchors.proofs.PutLemmas.{put_then}
use Rattle.mark_anchors.proofs.edge_chunks.EdgeChunks.put_both.Goals as goal

pub returns-in-Ok-clause-put : goal.returns-in-Ok-clause-put
returns-in-Ok-clause-put c =
    rw c.in-Some.is
    (put_then c.in-Some.start c.args.self.now (option_to_list c.args.end) c.put_some-2.new.self (rw c.in_ok-put.ensures.put at c.in-Ok.ensures.put))
