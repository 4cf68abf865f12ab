-- What a few decimal digits write.
use Rattle.std.proofs.Common.{rules, ◌≡◌, ◌∙◌, ℕ, ◌+◌, ◌-◌, ◌*◌, ◌<◌, ◌≤◌, Bool, true, false, true≢false, List, length, take, get_or, ap, sym, refl, arith}
use Rattle.std.proofs.lemmas.Bool.Decides.{nat_tests}
use Rattle.std.proofs.lemmas.Int.Digits.{digits_value_more}
use Rattle.std.proofs.lemmas.List.Folds.{list_all_at}
use Rattle.std.proofs.lemmas.Str.Parse.{IsNumeralModel, numerals_by_value, digits_value-take-le, digits_value_short}
use Rattle.std.specs.List.{list_all}
use Rattle.std.specs.Char.{is_ascii_digit, digit_value}
use Rattle.std.specs.Str.Parse.{digits_value}

own : IsNumeralModel (λ ds. list_all is_ascii_digit ds ≡ true) (digits_value 10)
own = numerals_by_value _ (search rules)

-- what all pass, each passes
passes : (b : Bool) (all : Bool) → all ≡ true → (b ≡ false → all ≡ false) → b ≡ true
passes true all is fails = refl
passes false all is fails = absurd (true≢false (sym is ∙ fails refl))

digit_is : (c : ℕ) → is_ascii_digit c ≡ true → digit_value c ≡ c - 48
digit_is c is = grind (arith, nat_tests)

-- a digit more
pub digit_added : (ds : List ℕ) (i : ℕ) → list_all is_ascii_digit ds ≡ true → i < length ds
    → digits_value 10 (take (i + 1) ds) ≡ digits_value 10 (take i ds) * 10 + (get_or ds i 0 - 48)
digit_added ds i all inside =
    let digit = passes (is_ascii_digit (get_or ds i 0)) _ all (list_all_at is_ascii_digit ds i 0 inside) in
    digits_value_more 10 ds i inside ∙ ap (λ d. digits_value 10 (take i ds) * 10 + d) (digit_is _ digit)

-- up to five digits write no large number
pub few_digits : (ds : List ℕ) (i : ℕ) → list_all is_ascii_digit ds ≡ true → length ds ≤ 5 → i < length ds
    → digits_value 10 (take i ds) * 10 + (get_or ds i 0 - 48) < 100000
few_digits ds i all few inside =
    omega (arith, digit_added ds i all inside, digits_value-take-le 10 ds (i + 1) (omega arith), digits_value_short own ds 5 all few)
