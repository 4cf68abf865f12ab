use Rattle.std.proofs.Common.{◌≡◌, ◌&&◌, Bool, true, false, ap, refl, ◌∙◌}
use Rattle.std.specs.Prelude.{is_some, option_and_then}
use mathlib.Core.Bool.{beq}
use Rattle.op_model.specs.declared.mark.MarkKey.TheVariants as key
use Rattle.op_model.specs.Spans.{is_same_bool, is_same_link, is_same_list, url_of}
use Rattle.comment_marks.specs.Standing.{decided, standing}
use Rattle.span_flatten.specs.Picking.{picked}
use Rattle.span_flatten.proofs.DecidingLemmas.{copied_some}
use Rattle.span_flatten.proofs.deciding.Deciding.are_marks.Goals as goal

same_test : (a b : Bool) → beq a b ≡ is_same_bool a b
same_test true true = refl
same_test true false = refl
same_test false true = refl
same_test false false = refl

same_parts : (a b c d e f g h : Bool) → a ≡ e → b ≡ f → c ≡ g → d ≡ h → (a && b && c && d) ≡ (e && f && g && h)
same_parts a b c d e f g h p q r s =
    ap (λ x. x && b && c && d) p ∙ (ap (λ x. e && x && c && d) q ∙ (ap (λ x. e && f && x && d) r ∙ ap (λ x. e && f && g && x) s))

pub returns : goal.returns
returns c = λ set up decides noted.
    let marks = c.args.marks.now in
    let now = picked c.args.markings.now set in
    let strong : beq marks.strong c.is_some.result ≡ is_same_bool marks.strong (is_some (decided now key.Strong)) =
    same_test marks.strong c.is_some.result ∙ ap (is_same_bool marks.strong)
    (c.is_some.ensures ∙ (copied_some c.decided.result ∙ ap is_some (c.decided.ensures set key.Strong up decides.strong))) in
    let em : beq marks.em c.is_some-2.result ≡ is_same_bool marks.em (is_some (decided now key.Em)) =
    same_test marks.em c.is_some-2.result ∙ ap (is_same_bool marks.em)
    (c.is_some-2.ensures ∙ (copied_some c.decided-2.result ∙ ap is_some (c.decided-2.ensures set key.Em up decides.em))) in
    let link : c.leads_to.result ≡ is_same_link marks.link (option_and_then url_of (decided now key.Link)) =
    c.leads_to.ensures ∙ ap (λ o. is_same_link marks.link (option_and_then url_of o)) (c.decided-3.ensures set key.Link up decides.link) in
    let comments : c.are_noted.result ≡ is_same_list marks.comments (standing now) =
    c.are_noted.ensures marks.comments c.args.markings.now set noted decides.comments in
    c.all.ensures
    ∙ same_parts (beq marks.strong c.is_some.result) (beq marks.em c.is_some-2.result) c.leads_to.result c.are_noted.result
    (is_same_bool marks.strong (is_some (decided now key.Strong))) (is_same_bool marks.em (is_some (decided now key.Em)))
    (is_same_link marks.link (option_and_then url_of (decided now key.Link))) (is_same_list marks.comments (standing now)) strong em link comments
