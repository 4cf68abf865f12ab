use Rattle.std.proofs.Common.{◌≡◌, ◌∙◌, true, refl, sym, arith}
use Rattle.op_ids.specs.Clock.{advanced, is_clock, IsOverfull}
use Rattle.op_model.specs.Causality.{clock_of, is_in_range}
use Rattle.replica_core.proofs.LimitLemmas.{is_within_limits-push, is_within_limits-push_overfull, is_in_range-parts}
use Rattle.replica_core.proofs.following.fits.Goals as goal

pub returns-then-not-can_advance : goal.returns-then-not-can_advance
returns-then-not-can_advance c =
    let full : IsOverfull (advanced (clock_of c.args.ops.now) c.args.op.now.id.replica) =
    rw (← c.requires.known.clock, ← c.replica.ensures) (c.if-not-can_advance.ensures.full refl) in
    sym (is_within_limits-push_overfull c.args.ops.now c.args.op.now full)

pub returns : goal.returns
returns c =
    let fits : is_clock (advanced (clock_of c.args.ops.now) c.args.op.now.id.replica) ≡ true =
    rw (← c.requires.known.clock, ← c.replica.ensures) (sym c.if-not-can_advance.ensures.fits) in
    let in_range : is_in_range c.args.op.now ≡ true =
    is_in_range-parts c.args.op.now 281474976710656 4294967296 (omega arith) (omega arith) refl c.requires.document (omega arith) refl in
    c.has_room.ensures ∙ (rw (c.requires.place, c.requires.known.index.stream, c.record_length.ensures.value)
    (sym (is_within_limits-push c.args.ops.now c.args.op.now c.requires.known.closed in_range fits)))
