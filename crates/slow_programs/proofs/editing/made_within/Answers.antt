use Rattle.std.proofs.Common.{length, refl, ◌∙◌, ap, Err, inl, inr, arith}
use Rattle.std.proofs.lemmas.Bool.{cases_Bool}
use Rattle.std.proofs.lemmas.Result.{err_from_is_err_and}
use Rattle.op_ids.specs.Clock.{advanced_by, is_clock}
use Rattle.op_model.specs.Made.{size_of}
use Rattle.model_laws.proofs.EditLimits.{clock_of-numbered, length-bodies_of, is_within_limits-over}
use Rattle.model_laws.proofs.EditLimits.{is_within_limits-uncounted, is_within_limits-uncounted_before}
use Rattle.slow_programs.proofs.EditLemmas.{limit_alone}
use Rattle.slow_programs.proofs.editing.made_within.Goals as goal

pub returns-then-next-count-clause-limit : goal.returns-then-next-count-clause-limit
returns-then-next-count-clause-limit c =
    λ _. (refl, is_within_limits-over c.args.ops.now c.args.replica c.args.edit.now c.requires.right (omega arith) (omega arith))

pub returns-in_err-before-clause-limit : goal.returns-in_err-before-clause-limit
returns-in_err-before-clause-limit c =
    let p = err_from_is_err_and c.from_residual.result c.from_residual.ensures.1 in
    rw (p.1, p.2) (limit_alone c.in_err-before.field-0.0 (λ same.
    is_within_limits-uncounted_before c.args.ops.now c.args.replica c.args.edit.now (c.in_err-before.ensures.limit (ap Err same))))

pub returns-in_err-advance_by-clause-limit : goal.returns-in_err-advance_by-clause-limit
returns-in_err-advance_by-clause-limit c =
    let p = err_from_is_err_and c.from_residual-in_err-advance_by.result c.from_residual-in_err-advance_by.ensures.1 in
    let many = length-bodies_of c.args.ops.now c.args.replica c.args.edit.now.doc c.args.edit.now.change c.requires.right.inside in
    rw (p.1, p.2) (limit_alone c.in_err-advance_by.field-0.0 (λ same.
    is_within_limits-uncounted c.args.ops.now c.args.replica c.args.edit.now
    (rw many (rw (c.in_ok-clock.ensures, c.in_ok-before.ensures.ok, c.size-count.ensures.value) at (c.in_err-advance_by.ensures.full (ap Err same))))))

pub numbered-requires-clause-in_range : goal.numbered-requires-clause-in_range
numbered-requires-clause-in_range c =
    let many = length-bodies_of c.args.ops.now c.args.replica c.args.edit.now.doc c.args.edit.now.change c.requires.right.inside in
    let same = ap length (c.deref.ensures.value ∙ c.in_ok-bodies.ensures) in
    omega arith

pub is_within_limits-requires : goal.is_within_limits-requires
is_within_limits-requires c =
    let many = length-bodies_of c.args.ops.now c.args.replica c.args.edit.now.doc c.args.edit.now.change c.requires.right.inside in
    let clock = rw (c.in_ok-clock.ensures, c.in_ok-before.ensures.ok, c.size-count.ensures.value) at c.in_ok-advance_by.ensures.ok in
    let bodies = c.deref.ensures.value ∙ c.in_ok-bodies.ensures in
    let made = c.deref-2.ensures.value ∙ c.in_ok-made.ensures in
    rw (made, bodies, clock_of-numbered, many) clock

pub numbered-requires-clause-room : goal.numbered-requires-clause-room
numbered-requires-clause-room c =
    let many = length-bodies_of c.args.ops.now c.args.replica c.args.edit.now.doc c.args.edit.now.change c.requires.right.inside in
    let bodies = c.deref.ensures.value ∙ c.in_ok-bodies.ensures in
    let limit = rw (c.in_ok-clock.ensures, c.size-count.ensures.value) at c.in_ok-advance_by.ensures.limit in
    rw (bodies, many) (elim (cases_Bool (is_clock (advanced_by c.in_ok-before.before c.args.replica (size_of c.args.edit.now.change)))) [
      | inl fits ↦ fits
      | inr full ↦ let never = limit.1 full in absurd (let broken : ⊥ = cc in broken)
    ])
