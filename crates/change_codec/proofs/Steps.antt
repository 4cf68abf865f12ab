-- Steps of the reading that did not fail, and what a field took from the front of bytes.
use Rattle.std.proofs.Common.{◌≡◌, ◌⊎◌, ℕ, ◌+◌, ◌<◌, Option, Some, None, Bool, true, false, cond, List, ◌++◌, get_or, take}
use Rattle.std.proofs.Common.{drop, Result, Ok, Err, refl, sym, ap, ◌∙◌, append_assoc, arith, inl}
use Rattle.std.proofs.Common.{inr}
use Rattle.std.proofs.lemmas.Bool.{cases_lt}
use Rattle.std.proofs.lemmas.List.{length-take, get_or-drop, get_or-take, get_or_past}
use Rattle.change_codec.specs.declared.codec_error.CodecError.{CodecError}
use Rattle.change_codec.specs.Reading.{◌>>=◌}

-- each is a byte
abbrev pub IsBytes : List ℕ → Type 0
IsBytes bytes = (i : ℕ) → get_or bytes i 0 < 256

pub IsBytes-drop : (n : ℕ) (bytes : List ℕ) → IsBytes bytes → IsBytes (drop n bytes)
IsBytes-drop n bytes h i = rw get_or-drop (h (n + i))

pub IsBytes-take : (n : ℕ) (bytes : List ℕ) → IsBytes bytes → IsBytes (take n bytes)
IsBytes-take n bytes h i =
    elim (cases_lt i n) [
      | inl lt ↦ rw (get_or-take n bytes i 0 lt) (h i)
      | inr le ↦ rw (get_or_past (take n bytes) i 0 (omega (arith, length-take n bytes))) (omega arith)
    ]

-- the value of a step that did not fail
pub bind_ok : {A B : Type 0} (r : Result A CodecError) (f : A → Result B CodecError) (y : B) → (r >>= f) ≡ Ok y → (x : A) × (r ≡ Ok x) × (f x ≡ Ok y)
bind_ok (Ok x) f y e = (x, refl, e)
bind_ok (Err d) f y e = absurd cc

-- a test that failed on no fault
pub guard_ok : {A : Type 0} (b : Bool) (d : CodecError) (x y : A) → cond b (Err d) (Ok x) ≡ Ok y → (b ≡ false) × (x ≡ y)
guard_ok true d x y e = absurd cc
guard_ok false d x y e = (refl, cc)

-- a test that was passed
pub passed : {A : Type 0} (b : Bool) (d : CodecError) (x y : A) → cond b (Ok x) (Err d) ≡ Ok y → (b ≡ true) × (x ≡ y)
passed true d x y e = (refl, cc)
passed false d x y e = absurd cc

-- a test that was passed on the way to a value
pub ranged : {A : Type 0} (b : Bool) (r : Result A CodecError) (d : CodecError) (v : A) → cond b r (Err d) ≡ Ok v → (b ≡ true) × (r ≡ Ok v)
ranged true r d v e = (refl, e)
ranged false r d v e = absurd cc

-- a test after which there is something
pub not_none : {A : Type 0} (b : Bool) (r : Result (Option A) CodecError) (v : A) → cond b (Ok None) r ≡ Ok (Some v) → (b ≡ false) × (r ≡ Ok (Some v))
not_none true r v e = absurd cc
not_none false r v e = (refl, e)

-- a test after which there is nothing
pub cases_none : {A : Type 0} (b : Bool) (r : Result (Option A) CodecError) → cond b (Ok None) r ≡ Ok None → (b ≡ true) ⊎ ((b ≡ false) × (r ≡ Ok None))
cases_none true r e = inl refl
cases_none false r e = inr (refl, e)

-- a value that was read
abbrev pub done : {A : Type 0} → A → Result A CodecError
done x = Ok x

pub ok_is : {A : Type 0} (x y : A) → done x ≡ done y → x ≡ y
ok_is x y e = cc

-- what a reader took from the front
pub record Takes (bytes text rest : List ℕ) : Type 0 where
  pub parts : bytes ≡ text ++ rest
  pub rest_fits : IsBytes rest

pub Takes-then : (a x b y c : List ℕ) → Takes a x b → Takes b y c → Takes a (x ++ y) c
Takes-then a x b y c p q = record { parts = p.parts ∙ ap (λ (t : List ℕ). x ++ t) q.parts ∙ sym (append_assoc x y c); rest_fits = q.rest_fits }
