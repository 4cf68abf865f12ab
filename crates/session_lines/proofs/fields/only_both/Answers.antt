use Rattle.std.proofs.Common.{refl, sym, ◌∙◌}
use Rattle.session_lines.proofs.FieldLemmas.{among_keys}
use Rattle.session_lines.proofs.fields.only_both.Goals as goal

pub returns-in-Some : goal.returns-in-Some
returns-in-Some c =
    let found = c.in-Some.ensures in
    let among = sym (among_keys c.in-Some.members.now.entries c.args.outer.now c.args.own.now) ∙ sym c.are_among.ensures ∙ c.if-are_among.true in
    rw (← found, among) refl

pub returns-in_default : goal.returns-in_default
returns-in_default c =
    let found = c.in-Some.ensures in
    let among = sym (among_keys c.in-Some.members.now.entries c.args.outer.now c.args.own.now) ∙ sym c.are_among.ensures ∙ c.if-are_among.false in
    λ _. rw (← found, among) refl
