use Rattle.std.proofs.Common.{◌≡◌, ◌≢◌, ◌<◌, ◌∙◌, ap, sym, length, true, false, rules, arith}
use Rattle.std.proofs.lemmas.Bool.{eqb-true, eqb-false}
use Rattle.op_ids.specs.declared.token.Token.{Token}
use Rattle.edit_tokens.specs.declared.place.Place.{Place}
use Rattle.edit_tokens.proofs.FoundLemmas.{at_entry, entry_at, index_first, index_none, point_found}
use Rattle.edit_tokens.proofs.sorted.Sorted.index_of.Goals.{else-index-len-via-then-index-len+else-eq, else-index-len-via-else-index-len}
use Rattle.edit_tokens.proofs.sorted.Sorted.index_of.Goals as goal

pub returns-then-eq : goal.returns-then-eq
returns-then-eq c =
    let items = c.self.inside.places.items in
    let index = c.partition_point-index.result in
    let point = point_found items c.deref.result.now c.args.token index c.deref.ensures.value c.self.invariant c.partition_point-index.ensures.partitioned (λ a r q k. search rules) in
    let long = rw c.deref.ensures.value at c.deref.ensures.len in
    let many : length items ≡ c.len.result = long ∙ sym c.len.ensures in
    let test = c.if-index-len.true in
    let here : index < length items = omega arith in
    let same : c.index.result.now.0 ≡ c.args.token = eqb-true c.index.result.now.0 c.args.token (sym c.eq.ensures ∙ c.if-eq.true) in
    rw (← c.self.view_is) (index_first items c.args.token index c.index.result.now point here c.index.ensures same)

pub returns : goal.returns
returns c =
    let items = c.self.inside.places.items in
    let index = c.partition_point-index.result in
    let point = point_found items c.deref.result.now c.args.token index c.deref.ensures.value c.self.invariant c.partition_point-index.ensures.partitioned (λ a r q k. search rules) in
    let long = rw c.deref.ensures.value at c.deref.ensures.len in
    let many : length items ≡ c.len.result = long ∙ sym c.len.ensures in
    rw (← c.self.view_is)
    (elim c.else-index-len.branch [
      | else-index-len-via-then-index-len+else-eq w ↦ index_none items c.args.token index point c.self.invariant (λ e here is same.
          let entry : w.index.result.now ≡ e = w.index.ensures ∙ at_entry items index e w.index.result.now (entry_at items index e here is) in
          let differs : w.index.result.now.0 ≢ c.args.token = eqb-false w.index.result.now.0 c.args.token (sym w.eq.ensures ∙ w.if-eq.false) in
          differs (ap (λ (x : Token × Place). x.0) entry ∙ same))
      | else-index-len-via-else-index-len w ↦ index_none items c.args.token index point c.self.invariant (λ e here is same. let test = w.if-index-len.false in absurd (omega arith))
    ])
