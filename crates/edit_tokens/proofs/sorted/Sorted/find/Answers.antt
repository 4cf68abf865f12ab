use Rattle.std.proofs.Common.{◌≡◌, ◌∙◌, ap, sym, Some}
use Rattle.op_ids.specs.declared.token.Token.{Token}
use Rattle.edit_tokens.specs.declared.place.Place.{Place}
use Rattle.edit_tokens.specs.Places.{IsFirst}
use Rattle.edit_tokens.proofs.FoundLemmas.{at_entry, first_found}
use Rattle.edit_tokens.proofs.sorted.Sorted.find.Goals as goal

pub returns : goal.returns
returns c =
    let items = c.self.inside.places.items in
    let first : IsFirst items c.args.token c.in_ok-index.index = rw c.self.view_is c.in_ok-index.ensures in
    let entry : c.index.result.now ≡ (c.args.token, first.place) = c.index.ensures ∙ at_entry items c.in_ok-index.index _ _ first.here in
    rw (← c.self.view_is) (ap (λ (e : Token × Place). Some e.1) entry ∙ sym (first_found items c.args.token c.in_ok-index.index first.place first.here first.before))
