use Rattle.std.proofs.Common.{◌≡◌, ℕ, ◌≤◌, ◌<◌, ◌∙◌, true, false, nat_lt, nat_le, refl, sym, arith}
use Rattle.std.proofs.lemmas.Bool.Decides.{nat_tests}
use Rattle.std.proofs.lemmas.Bool.{lt-ltb}
use Rattle.op_ids.specs.Clock.{advanced, is_clock, IsOverfull}
use Rattle.op_model.specs.Causality.{clock_of}
use Rattle.model_laws.proofs.EditLimits.{is_within_limits-over}
use Rattle.replica_core.proofs.LimitLemmas.{is_within_limits-no_document, is_within_limits-overfull, is_within_limits-made}
use Rattle.replica_core.proofs.deciding.is_within_limits.Goals as goal

pub returns-then-edit-eq0 : goal.returns-then-edit-eq0
returns-then-edit-eq0 c =
    sym (is_within_limits-no_document c.args.ops.now c.args.known.now.replica c.args.edit.now c.requires.right (omega arith) c.if-edit-eq0.true)

at_most : (n last : ℕ) → nat_le n last ≡ true → n ≤ last
at_most n last small = grind (arith, nat_tests)

beyond : (n last : ℕ) → nat_le n last ≡ false → last < n
beyond n last large = grind (arith, nat_tests)

pub returns-then-not-has_counters : goal.returns-then-not-has_counters
returns-then-not-has_counters c =
    let large = beyond _ _ (rw c.requires.counted.index.greatest at (sym c.if-not-has_counters.ensures)) in
    sym (is_within_limits-over c.args.ops.now c.args.known.now.replica c.args.edit.now c.requires.right (omega arith) (omega arith))

pub returns-then-not-can_advance : goal.returns-then-not-can_advance
returns-then-not-can_advance c =
    let full : IsOverfull (advanced (clock_of c.args.ops.now) c.args.known.now.replica) = rw c.requires.counted.clock at (c.if-not-can_advance.ensures.full refl) in
    sym (is_within_limits-overfull c.args.ops.now c.args.known.now.replica c.args.edit.now c.requires.right (omega arith) full)

pub returns : goal.returns
returns c =
    let fits : is_clock (advanced (clock_of c.args.ops.now) c.args.known.now.replica) ≡ true = rw c.requires.counted.clock at (sym c.if-not-can_advance.ensures.fits) in
    let there : nat_lt 0 c.args.edit.now.doc ≡ true = lt-ltb 0 c.args.edit.now.doc (omega arith) in
    let small : nat_lt c.args.edit.now.doc 4294967296 ≡ true = lt-ltb c.args.edit.now.doc 4294967296 (omega arith) in
    let below = at_most _ _ (rw c.requires.counted.index.greatest at (sym c.if-not-has_counters.ensures)) in
    let all = is_within_limits-made c.args.ops.now c.args.known.now.replica c.args.edit.now 281474976710656 c.requires.counted.closed c.requires.right (omega arith) (omega arith) refl there small fits in
    c.has_room.ensures ∙ (rw (c.requires.place, c.requires.counted.index.stream, c.size-count.ensures.value, c.requires.length) (sym all))
