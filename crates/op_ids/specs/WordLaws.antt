-- Two words and their number say the same.
use Rattle.std.proofs.Common.{◌≡◌, ◌+◌, ◌*◌, ◌/◌, ◌%◌, arith}
use Rattle.op_ids.specs.declared.words.Words.TheInside.{Inside}
use Rattle.op_ids.specs.Words.{number_of, IsLow, words_of}

-- the words of the number of two words are those
pub words_of_number : (w : Inside) → IsLow w → words_of (number_of w) ≡ w
words_of_number w low_is =
    let high : (w.high * 18446744073709551616 + w.low) / 18446744073709551616 ≡ w.high = omega arith in
    let low : (w.high * 18446744073709551616 + w.low) % 18446744073709551616 ≡ w.low = omega arith in
    λ i. record { high = high i; low = low i }
