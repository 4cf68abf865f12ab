-- Digits that are read one by one.
use Rattle.std.proofs.Common.{◌≡◌, ℕ, suc, ◌+◌, ◌*◌, ◌-◌, ◌<◌, ◌≤◌, true, false, ◌&&◌, List, ◌∷◌, length, get_or, drop, Option, Some, None}
use Rattle.std.proofs.Common.{add-one, drop-cons, refl, sym, ap, ◌∙◌, arith, length-drop}
use Rattle.std.specs.Prelude.{nat_le, nat_lt, ◌==◌, ◌≢◌}
use Rattle.std.proofs.lemmas.Bool.Decides.{nat_tests}
use Rattle.std.proofs.lemmas.List.{nil_from_length}
use Rattle.std.specs.Prelude.{IsSome, IfSome, ◌↔◌}
use Rattle.std.proofs.lemmas.Bool.{false≢true}
use Rattle.op_ids.specs.Id.{Id}
use Rattle.session_lines.specs.Anchors.{id_named, is_digit, counted, counter_named, replica_named, id_of}

split : (bs : List ℕ) (i b : ℕ) → i < length bs → b ≡ get_or bs i b → drop i bs ≡ b ∷ drop (i + 1) bs
split bs i b within is = rw add-one (drop-cons bs i b within ∙ ap (λ x. x ∷ drop (suc i) bs) (sym is))

-- one more digit
pub counted_more : (bs : List ℕ) (i n b : ℕ) (whole : Option ℕ) → i < length bs → b ≡ get_or bs i b → 48 ≤ b → b ≤ 57 → n ≤ 281474976710655
    → counted n (drop i bs) ≡ whole → counted (10 * n + (b - 48)) (drop (i + 1) bs) ≡ whole
counted_more bs i n b whole within is low high few so_far =
    let test : (is_digit b && nat_le n 281474976710655) ≡ true = grind (arith, nat_tests) in
    rw (split bs i b within is, test) at so_far

-- what is no digit, or comes after too much
pub counted_stops : (bs : List ℕ) (i n b : ℕ) (whole : Option ℕ) → i < length bs → b ≡ get_or bs i b → (is_digit b && nat_le n 281474976710655) ≡ false
    → counted n (drop i bs) ≡ whole → whole ≡ None
counted_stops bs i n b whole within is test so_far = sym (rw (split bs i b within is, test) at so_far)

-- no more is left
pub counted_end : (bs : List ℕ) (i n : ℕ) (whole : Option ℕ) → length bs ≤ i → counted n (drop i bs) ≡ whole → whole ≡ Some n
counted_end bs i n whole past so_far = sym (rw (nil_from_length (drop i bs) (omega (arith, length-drop i bs))) at so_far)

-- an id that is made of a counter and a replica
pub id_is : (digits name : List ℕ) (o : Option Id) (counter replica : ℕ) → Some counter ≡ counter_named digits → Some replica ≡ replica_named name
    → (0 < counter) × (counter ≤ 281474976710655) → (IsSome o ↔ ((0 < counter) × (counter ≤ 281474976710655)))
    → IfSome o (λ id. id ≡ record { counter = counter; replica = replica }) → o ≡ id_of digits name
id_is digits name None counter replica read named range there is = absurd (false≢true (there.1 range))
id_is digits name (Some id) counter replica read named range there is = rw (← read, ← named) (ap (λ x. Some x) is)

-- a text that is too short for an id, or has no `@` before its last 36 bytes
pub id_short : (text : List ℕ) → length text < 37 → None ≡ id_named text
id_short text short = let test : nat_lt (length text) 37 ≡ true = grind (arith, nat_tests) in rw test refl

pub id_unsigned : (text : List ℕ) → 37 ≤ length text → get_or text (length text - 37) 0 ≢ 64 → None ≡ id_named text
id_unsigned text long other =
    let test : nat_lt (length text) 37 ≡ false = grind (arith, nat_tests) in
    let sign : (get_or text (length text - 37) 0 == 64) ≡ false = grind (arith, nat_tests) in
    rw (test, sign) refl
