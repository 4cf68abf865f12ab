-- What the readers of values say of the definitions.
use Rattle.std.proofs.Common.{◌≡◌, ◌↔◌, ℕ, ◌<◌, ◌^◌, List, [], ◌∷◌, length, Bool, true, false}
use Rattle.std.proofs.Common.{true≢false, ◌&&◌, ◌==◌, nat_lt, if◌then◌else◌, Option, Some, None}
use Rattle.std.proofs.Common.{IsNone, IfSome, Result, Ok, Err, refl, sym, ap, arith, lt-ltb}
use Rattle.std.proofs.Common.{ltb-true}
use Rattle.std.proofs.lemmas.Bool.Decides.{nat_tests}
use Rattle.std.specs.Result.{result_ok, OkIff}
use Rattle.std.specs.List.{list_all}
use Rattle.std.specs.Char.{is_ascii_digit, digit_value}
use Rattle.std.specs.Str.Parse.{AllDigits, IsNumeral, ParsesUnsigned, digits_value, without_leading_plus}
use Rattle.command_syntax.specs.Values.{above_zero, decimal_of}

-- a value that is nowhere found isn't there
pub no_value : (o : Option (List ℕ)) → ((u : List ℕ) × (o ≡ Some u) → false ≡ true) → o ≡ None
no_value None h = refl
no_value (Some u) h = absurd (true≢false (sym (h (u, refl))))

-- a number that is there exactly where it isn't 0
by_zero : (r n : ℕ) (zero : Bool) → (n == 0) ≡ zero → (n ≡ 0 → ⊥) → r ≡ n → Some r ≡ (if zero then None else Some n)
by_zero r n true is not_zero same = let nil : n ≡ 0 = grind (arith, nat_tests) in absurd (not_zero nil)
by_zero r n false is not_zero same = ap Some same

pub is_above_zero : (o : Option ℕ) (n : ℕ) → (IsNone o ↔ (n ≡ 0)) → IfSome o (λ r. r ≡ n) → o ≡ above_zero n
is_above_zero None n zero same = let e : n ≡ 0 = zero.0 refl in rw e refl
is_above_zero (Some r) n zero same = by_zero r n (n == 0) refl (λ e. true≢false (zero.1 e)) same

-- both tests pass
both : (a b : Bool) → (a && b) ≡ true → (a ≡ true) × (b ≡ true)
both true true e = (refl, refl)
both true false e = absurd (true≢false (sym e))
both false b e = absurd (true≢false (sym e))

-- a decimal digit is a digit, and no plus
digit : (c : ℕ) → is_ascii_digit c ≡ true → (digit_value c < 10) × ((c == 43) ≡ false)
digit c is = (grind (arith, nat_tests), grind (arith, nat_tests))

-- decimal digits are digits
all_digits : (text : List ℕ) → list_all is_ascii_digit text ≡ true → AllDigits 10 text
all_digits [] all = tt
all_digits (c ∷ cs) all =
    let each = both (is_ascii_digit c) (list_all is_ascii_digit cs) all in ((digit c each.0).0, all_digits cs each.1)

-- decimal digits begin with no plus
no_plus : (text : List ℕ) → list_all is_ascii_digit text ≡ true → without_leading_plus text ≡ text
no_plus [] all = refl
no_plus (c ∷ cs) all = let each = both (is_ascii_digit c) (list_all is_ascii_digit cs) all in rw (digit c each.0).1 refl

-- where not both tests of a number pass, there is none
none_unless : (some digits small : Bool) (n : ℕ) → (some ≡ true → small ≡ true → ⊥)
    → None ≡ (if (some && digits) && small then Some n else None)
none_unless false digits small n never = refl
none_unless true false small n never = refl
none_unless true true false n never = refl
none_unless true true true n never = absurd (never refl refl)

-- what is parsed of a numeral is its number
number_is : {E : Type 0} (text : List ℕ) (r : Result ℕ E) → list_all is_ascii_digit text ≡ true
    → OkIff r (IsNumeral 10 text × (digits_value 10 text < 2 ^ 32)) (digits_value 10 text) → result_ok r ≡ decimal_of text
number_is text (Ok n) all h =
    rw (lt-ltb 0 (length text) h.0.0.0, all, lt-ltb (digits_value 10 text) (2 ^ 32) h.0.1) (ap Some h.1)
number_is text (Err e) all h =
    none_unless (nat_lt 0 (length text)) (list_all is_ascii_digit text) (nat_lt (digits_value 10 text) (2 ^ 32)) (digits_value 10 text)
    (λ some small. h ((ltb-true 0 (length text) some, all_digits text all), ltb-true (digits_value 10 text) (2 ^ 32) small))

-- what is parsed of decimal digits is their number
pub number_parsed : {E : Type 0} (text : List ℕ) (r : Result ℕ E) → list_all is_ascii_digit text ≡ true → ParsesUnsigned 32 10 text r
    → result_ok r ≡ decimal_of text
number_parsed text r all parsed = number_is text r all (rw (no_plus text all) at parsed)
