use Rattle.std.proofs.Common.{ap, ◌∙◌, map}
use Rattle.std.specs.Prelude.{filter}
use Rattle.std.specs.Map.{keys_of}
use Rattle.comment_marks.specs.Decisions.{about, is_added}
use Rattle.comment_marks.proofs.Kept.{added_stand}
use Rattle.comment_marks.proofs.comments.Comments.of.Goals as goal

-- those that are added stand
pub returns : goal.returns
returns c =
    c.from.ensures ∙ c.in_ok-ids.ensures
    ∙ ap (λ entries. filter (λ id. is_added (about id entries)) (keys_of entries)) c.in_ok-decisions.ensures
    ∙ added_stand (map (λ m. m.now) c.args.set.now)
