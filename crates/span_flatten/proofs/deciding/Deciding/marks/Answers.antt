use Rattle.std.proofs.Common.{◌≡◌, ap, ◌∙◌}
use Rattle.std.specs.Prelude.{is_some, option_and_then}
use Rattle.op_model.specs.declared.mark.Marks.{Marks}
use Rattle.op_model.specs.declared.mark.MarkKey.TheVariants as key
use Rattle.op_model.specs.Spans.{url_of}
use Rattle.span_flatten.proofs.DecidingLemmas.{copied_some}
use Rattle.span_flatten.proofs.deciding.Deciding.marks.Goals as goal

same_marks : (a b : Marks) → a.strong ≡ b.strong → a.em ≡ b.em → a.link ≡ b.link → a.comments ≡ b.comments → a ≡ b
same_marks a b strong em link comments = λ i. record { strong = strong i; em = em i; link = link i; comments = comments i }

pub returns : goal.returns
returns c = λ set up decides.
    same_marks _ _ (c.is_some.ensures ∙ (copied_some c.decided.result ∙ ap is_some (c.decided.ensures set key.Strong up decides.strong)))
    (c.is_some-2.ensures ∙ (copied_some c.decided-2.result ∙ ap is_some (c.decided-2.ensures set key.Em up decides.em)))
    (c.in_ok-link_of.ensures ∙ ap (option_and_then url_of) (c.decided-3.ensures set key.Link up decides.link))
    (c.in_ok-standing.ensures c.args.markings.now set decides.comments)
