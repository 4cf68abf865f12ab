use Rattle.std.proofs.Common.{◌≡◌, ◌+◌, true, max, drop, ◌∷◌, ap, ◌∙◌, sym, arith}
use Rattle.std.proofs.lemmas.Bool.Decides.{nat_tests}
use Rattle.std.proofs.lemmas.List.{drop_more, at_drop_all}
use Rattle.op_ids.specs.Clock.{is_clock, joined, with_count, is_rising_above, count_of}
use Rattle.op_ids.proofs.ClockLemmas.{is_clock_parts, rising-drop}
use Rattle.op_ids.proofs.JoinLemmas.{is_clock-joined_one, count_of-joined}
use Rattle.op_ids.proofs.clock.Clock.join.Goals as goal

pub put-requires : goal.put-requires
put-requires c =
    let items = c.deref-entry-items.result.now in
    let i = c.loop-entry.entry-index in
    let now = c.loop-entry.joined in
    let e = c.entry-item.result in
    let here : drop i items ≡ e ∷ drop (i + 1) items =
    drop_more items i e c.loop-entry-test.true ∙ ap (λ x. x ∷ drop (i + 1) items) (sym c.entry-item.is) in
    let parts = is_clock_parts items (ap is_clock c.deref-entry-items.ensures.value ∙ c.other.invariant) in
    let rising : is_rising_above 0 (e ∷ drop (i + 1) items) ≡ true =
    ap (is_rising_above 0) (sym here) ∙ rising-drop items i 0 parts.0 in
    let fits : is_clock (joined c.args.self.now c.args.other.now) ≡ true = grind (arith, nat_tests) in
    let whole : is_clock (joined now (e ∷ drop (i + 1) items)) ≡ true =
    ap (λ es. is_clock (joined now es)) (sym here) ∙ ap is_clock c.loop-entry.invariant ∙ fits in
    let count : c.max-count.result ≡ max (count_of now e.0) e.1 =
    c.max-count.ensures ∙ ap (λ n. max n e.1) c.get.ensures.value in
    ap (λ n. is_clock (with_count now e.0 n)) count ∙ is_clock-joined_one now e (drop (i + 1) items) 0 c.get.ensures.rising rising whole

pub returns-clause-greater : goal.returns-clause-greater
returns-clause-greater c = λ r.
    let clock = c.args.self.now in
    let other = c.args.other.now in
    let parts = is_clock_parts other (ap is_clock (sym c.other.view_is) ∙ c.other.invariant) in
    let whole : c.loop-entry.joined ≡ joined clock other =
    sym (at_drop_all (joined c.loop-entry.joined) c.deref-entry-items.result.now c.loop-entry.entry-index c.loop-entry-test.false) ∙ c.loop-entry.invariant in
    ap (λ es. count_of es r) whole ∙ count_of-joined other clock 0 r parts.0
