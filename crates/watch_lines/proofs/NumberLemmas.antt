-- Numbers as keys of a map.
use Rattle.std.proofs.Common.{◌≡◌, ℕ, ◌==◌, Bool, true, false, Option, Some, cond, if◌then◌else◌, refl, ◌∙◌, arith, nat_lt, BTreeMap}
use Rattle.std.proofs.lemmas.Bool.Decides.{nat_tests}
use Rattle.std.specs.BTreeMap.{get, Updates}
use Rattle.std.specs.Ordering.{is_eq, nat_cmp}
use Rattle.std.specs.declared.cmp.Ordering.TheVariants.{Less, Equal, Greater}
use Rattle.watch_lines.specs.TellingSeveral.{with_told}

by_tests : (a b : ℕ) (less same : Bool) → nat_lt a b ≡ less → (a == b) ≡ same → is_eq (cond less Less (cond same Equal Greater)) ≡ same
by_tests a b true true is it = let never : ⊥ = grind (arith, nat_tests, is, it) in absurd never
by_tests a b true false is it = refl
by_tests a b false true is it = refl
by_tests a b false false is it = refl

-- two numbers compare equal if they are the same
same_number : (a b : ℕ) → is_eq (nat_cmp a b) ≡ (a == b)
same_number a b = by_tests a b (nat_lt a b) (a == b) refl refl

by_same : (here same : Bool) (value kept : Option ℕ) → here ≡ same → cond here value kept ≡ (if same then value else kept)
by_same true true value kept is = refl
by_same true false value kept is = cc
by_same false true value kept is = cc
by_same false false value kept is = refl

-- a map to which a number was put has it, and for other documents what it had
pub map_has : (before after : BTreeMap ℕ ℕ) (doc rev other : ℕ) → Updates nat_cmp before after doc (Some rev)
    → get nat_cmp after other ≡ with_told (get nat_cmp before) doc rev other
map_has before after doc rev other updates =
    updates.0 other ∙ by_same (is_eq (nat_cmp doc other)) (doc == other) (Some rev) (get nat_cmp before other) (same_number doc other)
