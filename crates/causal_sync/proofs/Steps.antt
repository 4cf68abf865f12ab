-- Steps of the reading that did not fail.
use Rattle.std.proofs.Common.{◌≡◌, ℕ, Bool, true, false, cond, eqb, List, [], ◌∷◌, length, Result, Ok, Err, refl, arith}
use Rattle.std.proofs.lemmas.Bool.Decides.{nat_tests}
use Rattle.change_codec.specs.declared.codec_error.CodecError.{CodecError}
use Rattle.causal_sync.specs.declared.link_error.LinkError.{LinkError}
use Rattle.causal_sync.specs.Reading.{◌>>=◌, or_fault, ended}

-- the value of a step that did not fail
pub bind_ok : {A B : Type 0} (r : Result A LinkError) (f : A → Result B LinkError) (y : B) → (r >>= f) ≡ Ok y → (x : A) × (r ≡ Ok x) × (f x ≡ Ok y)
bind_ok (Ok x) f y e = (x, refl, e)
bind_ok (Err d) f y e = absurd cc

-- a field of the codec's form that was read
pub field_ok : {A : Type 0} (fault : LinkError) (r : Result A CodecError) (x : A) → or_fault fault r ≡ Ok x → r ≡ Ok x
field_ok fault (Ok y) x e = cc
field_ok fault (Err d) x e = absurd cc

-- a test that was passed
pub passed : {A : Type 0} (b : Bool) (d : LinkError) (r : Result A LinkError) (x : A) → cond b r (Err d) ≡ Ok x → (b ≡ true) × (r ≡ Ok x)
passed true d r x e = (refl, e)
passed false d r x e = absurd cc

-- a test that failed on no fault
pub guarded : {A : Type 0} (b : Bool) (d : LinkError) (r : Result A LinkError) (x : A) → cond b (Err d) r ≡ Ok x → (b ≡ false) × (r ≡ Ok x)
guarded true d r x e = absurd cc
guarded false d r x e = (refl, e)

-- a value that was read
abbrev pub done : {A : Type 0} → A → Result A LinkError
done x = Ok x

pub ok_is : {A : Type 0} (x y : A) → done x ≡ done y → x ≡ y
ok_is x y e = cc

-- no bytes
pub no_bytes : (bytes : List ℕ) → length bytes ≡ 0 → bytes ≡ []
no_bytes [] e = refl
no_bytes (b ∷ rest) e = absurd cc

-- a value with nothing behind it
pub ended_ok : {A : Type 0} (fault : LinkError) (x : A × List ℕ) (y : A) → ended fault x ≡ Ok y → (x.0 ≡ y) × (x.1 ≡ [])
ended_ok fault x y e =
    let p = passed (eqb (length x.1) 0) fault (Ok x.0) y e in
    let test : eqb (length x.1) 0 ≡ true = p.0 in
    (ok_is x.0 y p.1, no_bytes x.1 (grind (arith, nat_tests)))
