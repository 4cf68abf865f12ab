-- A number of sixteen bytes in two words of eight.
use Rattle.std.specs.Prelude.{ℕ, ◌+◌, ◌*◌, ◌/◌, ◌%◌, ◌<◌}
use Rattle.op_ids.specs.declared.words.Words.TheInside.{Inside}

-- the number of both words, that of the first eight bytes above that of the last eight
abbrev pub number_of : Inside → ℕ
number_of w = w.high * 18446744073709551616 + w.low

-- the low word has eight bytes
abbrev pub IsLow : Inside → Type 0
IsLow w = w.low < 18446744073709551616

-- the two words of a number
abbrev pub words_of : ℕ → Inside
words_of n = record { high = n / 18446744073709551616; low = n % 18446744073709551616 }
