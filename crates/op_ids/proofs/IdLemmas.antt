-- The order of ids.
use Rattle.std.proofs.Common.{◌≡◌, true, false, ◌⊎◌, inl, inr, ap, arith}
use Rattle.std.proofs.lemmas.Bool.Decides.{nat_tests}
use Rattle.op_ids.specs.Id.{Id, is_below, is_same}

-- no id is below itself
pub below_irreflexive : (a : Id) → is_below a a ≡ false
unfolding is_below
below_irreflexive a = grind (arith, nat_tests)

-- what is below an id that is below a third is below the third
pub below_transitive : (a b c : Id) → is_below a b ≡ true → is_below b c ≡ true → is_below a c ≡ true
unfolding is_below
below_transitive a b c h k = grind (arith, nat_tests)

-- ids with the same parts are the same
pub same_id : (a b : Id) → a.counter ≡ b.counter → a.replica ≡ b.replica → a ≡ b
same_id a b counter replica = λ i. record { counter = counter i; replica = replica i }

-- the test says whether two ids are the same
pub same_from_test : (a b : Id) → is_same a b ≡ true → a ≡ b
unfolding is_same
same_from_test a b h =
    let counter : a.counter ≡ b.counter = grind (arith, nat_tests) in
    let replica : a.replica ≡ b.replica = grind (arith, nat_tests) in
    same_id a b counter replica

pub test_from_same : (a b : Id) → a ≡ b → is_same a b ≡ true
unfolding is_same
test_from_same a b h =
    let counter : a.counter ≡ b.counter = ap (λ (x : Id). x.counter) h in
    let replica : a.replica ≡ b.replica = ap (λ (x : Id). x.replica) h in
    grind (arith, nat_tests)

-- of two ids one is below the other, or they are the same
below_or_same : (a b : Id) → (is_below a b ≡ true) ⊎ (is_same a b ≡ true) ⊎ (is_below b a ≡ true)
unfolding is_below is_same
below_or_same a b = grind (arith, nat_tests)

pub below_total : (a b : Id) → (is_below a b ≡ true) ⊎ (a ≡ b) ⊎ (is_below b a ≡ true)
below_total a b =
    elim (below_or_same a b) [ inl below ↦ inl below | inr rest ↦ elim rest [ inl same ↦ inr (inl (same_from_test a b same)) | inr above ↦ inr (inr above) ] ]
