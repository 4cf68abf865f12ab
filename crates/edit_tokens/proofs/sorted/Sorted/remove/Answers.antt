use Rattle.std.proofs.Common.{◌≡◌, rules, filter}
use Rattle.std.specs.Prelude.{not, ◌==◌}
use Rattle.std.proofs.lemmas.Fn.{filter_same}
use Rattle.std.proofs.lemmas.List.Kept.{IsNonDecreasingBy-filter}
use Rattle.op_ids.specs.declared.token.Token.{Token}
use Rattle.edit_tokens.specs.declared.place.Place.{Place}
use Rattle.edit_tokens.proofs.FoundLemmas.{kept_out, puts_none}
use Rattle.edit_tokens.proofs.sorted.Sorted.remove.Goals as goal

pub invariant_of-self : goal.invariant_of-self
invariant_of-self c =
    let items = c.self.inside.places.items in
    let kept : c.retain.new.self.items ≡ filter (λ (e : Token × Place). not (e.0 == c.args.token)) items =
    filter_same _ _ _ (λ x b f' k. search rules) _ _ c.retain.ensures.filtered in
    rw kept (IsNonDecreasingBy-filter (λ (e : Token × Place). e.0) (λ (e : Token × Place). not (e.0 == c.args.token)) items c.self.invariant)

pub returns-in-Some : goal.returns-in-Some
returns-in-Some c =
    let items = c.self.inside.places.items in
    let kept : c.retain.new.self.items ≡ filter (λ (e : Token × Place). not (e.0 == c.args.token)) items =
    filter_same _ _ _ (λ x b f' k. search rules) _ _ c.retain.ensures.filtered in
    rw (kept, ← c.self.view_is) (kept_out c.args.token items)

pub returns-in-None : goal.returns-in-None
returns-in-None c = puts_none c.args.token c.args.self.now c.in-None.ensures
