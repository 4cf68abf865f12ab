use Rattle.std.proofs.Common.{◌≡◌, ◌∙◌, ◌-◌, ◌<◌, ap, sym, length, get_or, rules, arith}
use Rattle.std.specs.Prelude.{Vec, vec_len}
use Rattle.std.specs.declared.alloc.Global.{Global}
use Rattle.std.proofs.lemmas.Bool.{eqb-true}
use Rattle.op_ids.specs.declared.token.Token.{Token}
use Rattle.edit_tokens.specs.declared.place.Place.{Place}
use Rattle.edit_tokens.proofs.GatherLemmas.{put_last}
use Rattle.edit_tokens.proofs.gathered.Gathered.put.Goals as goal

counted : (v : Vec (Token × Place) Global) → vec_len v ≡ length v.items
counted v = search rules

pub returns-in-Some-last_mut-clause-put : goal.returns-in-Some-last_mut-clause-put
returns-in-Some-last_mut-clause-put c =
    let items = c.self.inside.places.items in
    let facts = c.in-Some-last_mut.ensures in
    let many : vec_len c.self.inside.places ≡ length items = counted c.self.inside.places in
    let some : 0 < length items = facts.item.3.0 in
    let same : c.in-Some-last_mut.last.now.0 ≡ c.in-Some.token = eqb-true c.in-Some-last_mut.last.now.0 c.in-Some.token (sym c.eq.ensures ∙ c.if-eq.true) in
    let last : (d : Token × Place) → (get_or items (vec_len c.self.inside.places - 1) d).0 ≡ c.in-Some.token =
    λ d. ap (λ (e : Token × Place). e.0) (sym (facts.item.3.1 d)) ∙ same in
    rw (c.in-Some.is, ← c.self.view_is, same)
    (put_last items (vec_len c.self.inside.places - 1) c.in-Some.token c.args.place (omega arith) last)
