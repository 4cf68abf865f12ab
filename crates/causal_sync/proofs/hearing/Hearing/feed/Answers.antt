use Rattle.std.proofs.Common.{◌≡◌, ◌++◌, false, drop, rules, subst, ap, ◌∙◌}
use Rattle.causal_sync.specs.Buffer.{IsHeard}
use Rattle.causal_sync.specs.Hearing.{HearsFrom}
use Rattle.causal_sync.specs.State.{Incoming}
use Rattle.causal_sync.proofs.Feeding.{heard_on}
use Rattle.causal_sync.proofs.hearing.Hearing.feed.Goals as goal

pub invariant_of-self-2 : goal.invariant_of-self-2
invariant_of-self-2 c =
    let inside = c.self.inside in
    let found = c.in-Ok.found in
    let s : Incoming = record { own = inside.own; stream = inside.stream.items; given = inside.given.items; waiting = inside.waiting.items; fault = inside.fault } in
    let all = inside.buffer.items ++ c.args.bytes.now in
    let before : IsHeard s inside.rest.items inside.buffer.items inside.is_first false = subst (λ b. IsHeard s inside.rest.items inside.buffer.items inside.is_first b) c.if-self.false c.self.invariant in
    let extended : c.extend_from_slice.new.self.items ≡ all = c.in_ok-extend_from_slice.ensures.ok in
    let read : c.as_slice.result.now ≡ all = c.as_slice.ensures ∙ extended in
    let more : HearsFrom inside.own inside.is_first all found.frames.items (drop found.used all) found.fault =
    subst (λ bytes. HearsFrom inside.own inside.is_first bytes found.frames.items (drop found.used bytes) found.fault) read c.in-Ok.ensures.hears in
    let pushed : c.append.new.self.items ≡ inside.waiting.items ++ found.frames.items = search rules in
    let left : c.and-self-inside.result.items ≡ drop found.used all = c.and-self-inside.ensures ∙ rw c.new.ensures (c.split_at.ensures.back ∙ ap (drop found.used) (c.as_slice-2.ensures ∙ extended)) in
    rw (c.and-self-inside-2.ensures, pushed, left)
    (heard_on s inside.rest.items inside.buffer.items inside.is_first before c.args.bytes.now found.frames.items (drop found.used all) found.fault more c.leave.new.buffer.items found.is_first found.is_over c.has_ended-self-inside.result c.in-Ok.ensures.next c.in-Ok.ensures.over c.has_ended-self-inside.ensures
    (λ going. c.leave.ensures.going going ∙ ap (drop found.used) extended) c.leave.ensures.closed)

pub returns-clause-hears : goal.returns-clause-hears
returns-clause-hears c = (c.and-self-inside.result.items, (invariant_of-self-2 c).hears)
