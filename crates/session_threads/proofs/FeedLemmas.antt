-- Where the first line feed is.
use Rattle.std.proofs.Common.{◌≡◌, ◌<◌, ◌+◌, ◌-◌, ◌==◌, ℕ, List, [], ◌∷◌, ◌++◌, Bool, true, false}
use Rattle.std.proofs.Common.{cond, Some, None, length, take, drop, refl, ap, arith}
use Rattle.std.proofs.Common.{add-one}
use Rattle.std.proofs.lemmas.Bool.{eqb-true}
use Rattle.std.proofs.lemmas.Bool.Decides.{nat_tests}
use Rattle.std.proofs.lemmas.List.{take_rest}
use Rattle.std.proofs.Math.Numerals.{one-add}
use Rattle.std.specs.Prelude.{not, nat_lt, position}
use Rattle.std.specs.List.{position_or_len}
use Rattle.session_threads.specs.Held.{HasNoFeed}

-- the place of the first line feed, or the length
abbrev pub feed_at : List ℕ → ℕ
feed_at bytes = position_or_len (λ byte. byte == 10) bytes

-- no line feed stands before the first
pub none_before : (bytes : List ℕ) → HasNoFeed (take (feed_at bytes) bytes)
none_before [] = tt
none_before (b ∷ bytes) = step (b == 10) refl (none_before bytes) where
  step : (is : Bool) → (b == 10) ≡ is → HasNoFeed (take (feed_at bytes) bytes)
      → HasNoFeed (take (cond (not is) (1 + feed_at bytes) 0) (b ∷ bytes))
  step true e later = tt
  step false e later = rw one-add (e, later)

-- without a line feed, the first one would be at the length
pub none_at_all : (bytes : List ℕ) → (feed_at bytes < length bytes → ⊥) → HasNoFeed bytes
none_at_all [] none = tt
none_at_all (b ∷ bytes) none = step (b == 10) refl none (none_at_all bytes) where
  step : (is : Bool) → (b == 10) ≡ is → (cond (not is) (1 + feed_at bytes) 0 < length (b ∷ bytes) → ⊥)
      → ((feed_at bytes < length bytes → ⊥) → HasNoFeed bytes) → HasNoFeed (b ∷ bytes)
  step true e none later = absurd (none (omega arith))
  step false e none later = (e, later (λ h. none (omega arith)))

-- the bytes are those before the first line feed, the line feed, and the rest
pub parts : (bytes : List ℕ) → feed_at bytes < length bytes
    → bytes ≡ take (feed_at bytes) bytes ++ 10 ∷ drop (feed_at bytes + 1) bytes
parts [] h = absurd (none h) where
  none : 0 < 0 → ⊥
  none h = omega arith
parts (b ∷ bytes) h = step (b == 10) refl h (parts bytes) where
  step : (is : Bool) → (b == 10) ≡ is → cond (not is) (1 + feed_at bytes) 0 < length (b ∷ bytes)
      → (feed_at bytes < length bytes → bytes ≡ take (feed_at bytes) bytes ++ 10 ∷ drop (feed_at bytes + 1) bytes)
      → (b ∷ bytes) ≡ take (cond (not is) (1 + feed_at bytes) 0) (b ∷ bytes)
      ++ 10 ∷ drop (cond (not is) (1 + feed_at bytes) 0 + 1) (b ∷ bytes)
  step true e h later = ap (λ n. n ∷ bytes) (eqb-true b 10 e)
  step false e h later = rw (one-add, add-one) (ap (λ l. b ∷ l) (rw add-one at (later (omega arith))))

-- what stands before the first line feed has none, and the rest stands behind it
pub split_at_feed : (bytes : List ℕ) (end : ℕ) → Some end ≡ position (λ byte. byte == 10) bytes
    → HasNoFeed (take end bytes)
    × (bytes ≡ take end bytes ++ 10 ∷ take (length bytes - (end + 1)) (drop (end + 1) bytes))
split_at_feed bytes end found = cases (nat_lt (feed_at bytes) (length bytes)) refl found where
  cases : (within : Bool) → nat_lt (feed_at bytes) (length bytes) ≡ within
      → Some end ≡ cond within (Some (feed_at bytes)) None
      → HasNoFeed (take end bytes)
      × (bytes ≡ take end bytes ++ 10 ∷ take (length bytes - (end + 1)) (drop (end + 1) bytes))
  cases true e found =
      let is : end ≡ feed_at bytes = cc in
      let below : feed_at bytes < length bytes = grind (arith, nat_tests) in
      rw (is, take_rest) (none_before bytes, parts bytes below)
  cases false e found = let never : ⊥ = cc in absurd never

-- where no line feed is found, there is none
pub no_feed_found : (bytes : List ℕ) → None ≡ position (λ byte. byte == 10) bytes → HasNoFeed bytes
no_feed_found bytes missing = cases (nat_lt (feed_at bytes) (length bytes)) refl missing where
  cases : (within : Bool) → nat_lt (feed_at bytes) (length bytes) ≡ within
      → None ≡ cond within (Some (feed_at bytes)) None → HasNoFeed bytes
  cases true e missing = let never : ⊥ = cc in absurd never
  cases false e missing = none_at_all bytes (λ below. grind (arith, nat_tests))
