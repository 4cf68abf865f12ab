use Rattle.std.proofs.Common.{◌≡◌, ◌∙◌, sym, Some, None}
use Rattle.std.proofs.lemmas.Bool.{true≢false}
use Rattle.edit_tokens.specs.Places.{place_of, Puts}
use Rattle.edit_tokens.proofs.FoundLemmas.{place_append, puts_front, puts_behind}
use Rattle.edit_tokens.proofs.PlaceLemmas.{puts_one}
use Rattle.edit_tokens.proofs.tokens.Tokens.put_back.Goals as goal

pub unreachable-requires : goal.unreachable-requires
unreachable-requires c =
    let none : place_of c.self.inside.opened c.args.token ≡ None = sym c.replace.ensures.before ∙ c.in-None.is in
    let absent : place_of c.self.inside.since.entries c.args.token ≡ None = c.in-Err.ensures.absent in
    let nowhere : place_of c.args.self.now c.args.token ≡ None =
    rw (← c.self.view_is, place_append c.self.inside.opened c.self.inside.since.entries c.args.token, none) absent in
    true≢false (sym (rw nowhere at c.requires))

pub returns-in-Some : goal.returns-in-Some
returns-in-Some c =
    rw (← c.self.view_is)
    (puts_front c.self.inside.opened c.replace.new.self c.self.inside.since.entries c.args.token c.args.place c.in-Some.ensures.put)

pub returns-in-Ok : goal.returns-in-Ok
returns-in-Ok c =
    let none : place_of c.self.inside.opened c.args.token ≡ None = sym c.replace.ensures.before ∙ c.in-None.is in
    let same : c.replace.new.self ≡ c.self.inside.opened = c.replace.ensures.none c.in-None.is in
    let puts : Puts (Some c.args.token) (Some c.args.place) c.self.inside.since.entries c.insert.new.self.entries =
    puts_one c.self.inside.since.entries c.insert.new.self.entries c.args.token (Some c.args.place) c.in-Ok.ensures.updates.0 in
    rw (← c.self.view_is, same)
    (puts_behind c.self.inside.opened c.self.inside.since.entries c.insert.new.self.entries c.args.token c.args.place none puts)
