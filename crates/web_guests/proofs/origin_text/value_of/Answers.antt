use Rattle.std.proofs.Common.{◌∙◌, ◌*◌, ◌+◌, ◌-◌, get_or, ap, sym, arith}
use Rattle.web_guests.proofs.OriginLemmas.{digit_added, few_digits}
use Rattle.web_guests.proofs.origin_text.value_of.Goals as goal

pub overflow_mul-value : goal.overflow_mul-value
overflow_mul-value c =
    omega (arith, c.loop-digit.invariant, few_digits c.args.digits.now _ c.requires.decimal c.requires.few c.loop-digit-test.true)

pub overflow_add-value : goal.overflow_add-value
overflow_add-value c =
    omega (arith, c.loop-digit.invariant, few_digits c.args.digits.now _ c.requires.decimal c.requires.few c.loop-digit-test.true)

pub loop-digit-preserved : goal.loop-digit-preserved
loop-digit-preserved c =
    ap (λ v. v * 10 + (get_or c.args.digits.now c.loop-digit.digit-index 0 - 48)) c.loop-digit.invariant
    ∙ sym (digit_added c.args.digits.now _ c.requires.decimal c.loop-digit-test.true)
