use Rattle.std.proofs.Common.{◌≡◌, ◌∙◌, sym, refl, Some, None}
use Rattle.edit_tokens.specs.Places.{place_of, Puts}
use Rattle.edit_tokens.proofs.FoundLemmas.{place_append, puts_front, puts_behind}
use Rattle.edit_tokens.proofs.PlaceLemmas.{puts_one}
use Rattle.edit_tokens.proofs.tokens.Tokens.keep.Goals as goal

pub returns-in-Some-replace-clause-kept : goal.returns-in-Some-replace-clause-kept
returns-in-Some-replace-clause-kept c =
    rw (c.in-Some.is, ← c.self.view_is)
    (puts_front c.self.inside.opened c.replace.new.self c.self.inside.since.entries c.in-Some.token c.args.place c.in-Some-replace.ensures.put)

pub returns-in-Some-replace-clause-before : goal.returns-in-Some-replace-clause-before
returns-in-Some-replace-clause-before c =
    let found : place_of c.self.inside.opened c.in-Some.token ≡ Some c.in-Some-replace.before = sym c.replace.ensures.before ∙ c.in-Some-replace.is in
    rw (c.in-Some.is, ← c.self.view_is, place_append c.self.inside.opened c.self.inside.since.entries c.in-Some.token, found) refl

pub returns-in_ok-before-in-None-clause-kept : goal.returns-in_ok-before-in-None-clause-kept
returns-in_ok-before-in-None-clause-kept c =
    let none : place_of c.self.inside.opened c.in-Some.token ≡ None = sym c.replace.ensures.before ∙ c.in-None.is in
    let same : c.replace.new.self ≡ c.self.inside.opened = c.replace.ensures.none c.in-None.is in
    let puts : Puts (Some c.in-Some.token) (Some c.args.place) c.self.inside.since.entries c.insert.new.self.entries =
    puts_one c.self.inside.since.entries c.insert.new.self.entries c.in-Some.token (Some c.args.place) c.in_ok-before-in-None.ensures.updates.0 in
    rw (c.in-Some.is, ← c.self.view_is, same)
    (puts_behind c.self.inside.opened c.self.inside.since.entries c.insert.new.self.entries c.in-Some.token c.args.place none puts)

pub returns-in_ok-before-in-None-clause-before : goal.returns-in_ok-before-in-None-clause-before
returns-in_ok-before-in-None-clause-before c =
    let none : place_of c.self.inside.opened c.in-Some.token ≡ None = sym c.replace.ensures.before ∙ c.in-None.is in
    rw (c.in-Some.is, ← c.self.view_is, place_append c.self.inside.opened c.self.inside.since.entries c.in-Some.token, none)
    c.in_ok-before-in-None.ensures.old
