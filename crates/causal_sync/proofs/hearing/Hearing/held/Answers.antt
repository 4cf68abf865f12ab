use Rattle.std.proofs.Common.{◌≡◌, ◌+◌, ◌++◌, true, false, length, subst, arith}
use Rattle.causal_sync.specs.Frames.{frames_bytes}
use Rattle.causal_sync.specs.State.{Incoming, has_ended}
use Rattle.causal_sync.proofs.Feeding.{held_little, held_is, held_none}
use Rattle.causal_sync.proofs.hearing.Hearing.held.Goals as goal

pub returns-clause-few : goal.returns-clause-few
returns-clause-few c =
    let inside = c.self.inside in
    let s : Incoming = record { own = inside.own; stream = inside.stream.items; given = inside.given.items; waiting = inside.waiting.items; fault = inside.fault } in
    omega (arith, c.len.ensures.value, held_little s inside.rest.items inside.buffer.items inside.is_first inside.has_ended c.self.invariant)

pub returns-clause-behind : goal.returns-clause-behind
returns-clause-behind c = λ going.
    let inside = c.self.inside in
    let s : Incoming = record { own = inside.own; stream = inside.stream.items; given = inside.given.items; waiting = inside.waiting.items; fault = inside.fault } in
    let view : s ≡ c.args.self.now = cc in
    rw c.len.ensures.value
    (subst (λ v. has_ended v ≡ false → length (frames_bytes (v.given ++ v.waiting)) + length inside.buffer.items ≡ length v.stream) view
    (held_is s inside.rest.items inside.buffer.items inside.is_first inside.has_ended c.self.invariant) going)

pub returns-clause-none : goal.returns-clause-none
returns-clause-none c = λ over.
    let inside = c.self.inside in
    let s : Incoming = record { own = inside.own; stream = inside.stream.items; given = inside.given.items; waiting = inside.waiting.items; fault = inside.fault } in
    let view : s ≡ c.args.self.now = cc in
    rw c.len.ensures.value
    (subst (λ v. has_ended v ≡ true → length inside.buffer.items ≡ 0) view
    (held_none s inside.rest.items inside.buffer.items inside.is_first inside.has_ended c.self.invariant) over)
