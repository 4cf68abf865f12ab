use Rattle.std.proofs.Common.{◌≡◌, ◌∙◌, refl, rules, sym, Some, None}
use Rattle.edit_tokens.specs.Places.{place_of}
use Rattle.edit_tokens.proofs.FoundLemmas.{place_append}
use Rattle.edit_tokens.proofs.tokens.Tokens.find.Goals as goal

pub returns-in-Some : goal.returns-in-Some
returns-in-Some c =
    let found : place_of c.self.inside.opened c.args.token ≡ Some c.in-Some.place = sym c.find.ensures ∙ c.in-Some.is in
    rw (← c.self.view_is, place_append c.self.inside.opened c.self.inside.since.entries c.args.token, found) refl

pub returns-in-None : goal.returns-in-None
returns-in-None c =
    let none : place_of c.self.inside.opened c.args.token ≡ None = sym c.find.ensures ∙ c.in-None.is in
    rw (← c.self.view_is, place_append c.self.inside.opened c.self.inside.since.entries c.args.token, none) (search rules)
