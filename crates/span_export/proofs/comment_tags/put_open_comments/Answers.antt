use Rattle.std.proofs.Common.{arith}
use Rattle.span_export.specs.Html.{open_comment}
use Rattle.span_export.proofs.PutLemmas.{put_more}
use Rattle.span_export.proofs.comment_tags.put_open_comments.Goals as goal

pub loop-id-preserved : goal.loop-id-preserved
loop-id-preserved c =
    put_more open_comment _ _ _ c.args.ids.now c.loop-id.id-index _ (omega arith) c.id-item.is c.loop-id.invariant c.in_ok-put_open_comment.ensures
