-- The order of ids is strict and total, and the two tests of ids say what they are named for.
use Rattle.std.proofs.Common.{◌≡◌, ◌≤◌, ◌<◌, true, false, arith, ltb}
use Rattle.std.proofs.lemmas.Bool.Decides.{nat_tests}
use Rattle.op_ids.specs.Id.{Id, is_below, is_same}

pub same_itself : (a : Id) → is_same a a ≡ true
unfolding is_same
same_itself a = grind (arith, nat_tests)

pub same_swapped : (a b : Id) → is_same a b ≡ is_same b a
unfolding is_same
same_swapped a b = grind (arith, nat_tests)

counters_same : (a b : Id) → is_same a b ≡ true → a.counter ≡ b.counter
unfolding is_same
counters_same a b e = grind (arith, nat_tests)

replicas_same : (a b : Id) → is_same a b ≡ true → a.replica ≡ b.replica
unfolding is_same
replicas_same a b e = grind (arith, nat_tests)

pub same_equal : (a b : Id) → is_same a b ≡ true → a ≡ b
same_equal a b e = λ i. record { counter = counters_same a b e i; replica = replicas_same a b e i }

pub equal_same : (a b : Id) → a ≡ b → is_same a b ≡ true
equal_same a b e = rw e (same_itself b)

pub below_itself : (a : Id) → is_below a a ≡ false
unfolding is_below
below_itself a = grind (arith, nat_tests)

pub below_turned : (a b : Id) → is_below a b ≡ true → is_below b a ≡ false
unfolding is_below
below_turned a b e = grind (arith, nat_tests)

pub below_chain : (a b c : Id) → is_below a b ≡ true → is_below b c ≡ true → is_below a c ≡ true
unfolding is_below
below_chain a b c e f = grind (arith, nat_tests)

-- of two different ids one is below
pub below_other : (a b : Id) → is_below a b ≡ false → is_same a b ≡ false → is_below b a ≡ true
unfolding is_below is_same
below_other a b e f = grind (arith, nat_tests)

pub below_differs : (a b : Id) → is_below a b ≡ true → is_same a b ≡ false
unfolding is_below is_same
below_differs a b e = grind (arith, nat_tests)

pub above_differs : (a b : Id) → is_below a b ≡ true → is_same b a ≡ false
unfolding is_below is_same
above_differs a b e = grind (arith, nat_tests)

-- a smaller counter is enough
pub below_by_counter : (a b : Id) → ltb a.counter b.counter ≡ true → is_below a b ≡ true
unfolding is_below
below_by_counter a b e = grind (arith, nat_tests)

pub not_below_chain : (a b c : Id) → is_below a b ≡ false → is_below b c ≡ false → is_below a c ≡ false
unfolding is_below
not_below_chain a b c e f = grind (arith, nat_tests)

pub below_counters : (a b : Id) → is_below a b ≡ true → a.counter ≤ b.counter
unfolding is_below
below_counters a b e = grind (arith, nat_tests)

pub not_below_greater : (a b : Id) → b.counter < a.counter → is_below a b ≡ false
unfolding is_below
not_below_greater a b l = grind (arith, nat_tests)
