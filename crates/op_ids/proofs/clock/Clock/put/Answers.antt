use Rattle.std.proofs.Common.{◌≡◌, ◌≢◌, get_or, true, ap, ◌∙◌, rules, arith}
use Rattle.std.specs.List.{insert}
use Rattle.std.proofs.lemmas.Bool.Decides.{nat_tests}
use Rattle.op_ids.specs.Clock.{count_of, with_count, place_of, is_clock}
use Rattle.op_ids.proofs.ClockLemmas.{with_count-counted, with_count-missing, missing-at_place, is_clock_parts, place_of_at_most}
use Rattle.op_ids.proofs.clock.Clock.put.Goals as goal
use Rattle.op_ids.proofs.clock.Clock.put.Goals.{else-place-len-via-then-place-len+else-eq, else-place-len-via-else-place-len}

pub insert-requires : goal.insert-requires
insert-requires c =
    let at_most = place_of_at_most c.self.inside.entries.items c.args.replica in
    grind arith

pub returns-then-eq-clause-ok : goal.returns-then-eq-clause-ok
returns-then-eq-clause-ok c =
    let items = c.self.inside.entries.items in
    let at_place : c.place-place.result ≡ place_of items c.args.replica = cc in
    let same : (get_or items c.place-place.result c.index.result.now).0 ≡ c.args.replica = grind (arith, nat_tests) in
    let written = with_count-counted items c.args.replica c.args.count c.place-place.result c.index.result.now at_place (omega arith) same in
    cc

pub invariant_of-self : goal.invariant_of-self
invariant_of-self c =
    let written = returns-then-eq-clause-ok c in
    ap is_clock written ∙ c.requires

pub returns-clause-ok : goal.returns-clause-ok
returns-clause-ok c =
    let items = c.self.inside.entries.items in
    let at_place : c.place-place.result ≡ place_of items c.args.replica = cc in
    let put_in : with_count items c.args.replica c.args.count ≡ insert items c.place-place.result (c.args.replica, c.args.count) =
    elim c.else-place-len.branch [
      | else-place-len-via-then-place-len+else-eq w ↦
          let other : (get_or items c.place-place.result w.index.result.now).0 ≢ c.args.replica = grind (arith, nat_tests) in
          with_count-missing items c.args.replica c.args.count c.place-place.result w.index.result.now at_place (λ _. other)
      | else-place-len-via-else-place-len w ↦
          with_count-missing items c.args.replica c.args.count c.place-place.result (c.args.replica, 0) at_place (grind arith)
    ] in
    let items_now : c.insert.new.self.items ≡ insert items c.place-place.result (c.args.replica, c.args.count) = c.in_ok-insert.ensures.items in
    cc

pub invariant_of-self-2 : goal.invariant_of-self-2
invariant_of-self-2 c =
    let put_in = returns-clause-ok c in
    ap is_clock put_in ∙ c.requires

pub returns-in_err-insert-clause-grows : goal.returns-in_err-insert-clause-grows
returns-in_err-insert-clause-grows c =
    let items = c.self.inside.entries.items in
    let at_place : c.place-place.result ≡ place_of items c.args.replica = cc in
    let rising : is_clock items ≡ true = c.self.invariant in
    let parts = is_clock_parts items rising in
    let none : count_of items c.args.replica ≡ 0 =
    elim c.else-place-len.branch [
      | else-place-len-via-then-place-len+else-eq w ↦
          let other : (get_or items c.place-place.result w.index.result.now).0 ≢ c.args.replica = grind (arith, nat_tests) in
          missing-at_place items 0 c.args.replica c.place-place.result w.index.result.now parts.0 at_place (λ _. other)
      | else-place-len-via-else-place-len w ↦
          missing-at_place items 0 c.args.replica c.place-place.result (c.args.replica, 0) parts.0 at_place (grind arith)
    ] in
    let now : c.args.self.now ≡ items = cc in
    let same : count_of c.args.self.now c.args.replica ≡ 0 = ap (λ es. count_of es c.args.replica) now ∙ none in
    search (rules, same)
