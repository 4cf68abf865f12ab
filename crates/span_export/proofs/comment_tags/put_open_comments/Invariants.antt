use Rattle.std.proofs.Common.{◌≡◌, ◌++◌, take, flat_map}
use Rattle.span_export.specs.Html.{open_comment}
use Rattle.span_export.proofs.comment_tags.put_open_comments.Given as goal

-- the tags so far are put
abbrev pub invariant-loop-id : goal.invariant-loop-id
invariant-loop-id l = l.out.items ≡ l.initial.out.items ++ flat_map open_comment (take l.id-index l.ids)
