-- Tokens: what is read is spelled so, and what is spelled so is read.
use Rattle.std.proofs.Common.{◌≡◌, ℕ, Bool, true, false, Option, Some, None, List, ◌++◌, Ok, refl, subst}
use Rattle.std.specs.Prelude.{is_some}
use Rattle.change_codec.specs.Spelling.{token_bytes}
use Rattle.change_codec.specs.Reading.{replica_at, token_at}
use Rattle.change_codec.specs.Fits.{IsToken}
use Rattle.change_codec.proofs.Steps.{IsBytes, bind_ok, ok_is, Takes}
use Rattle.change_codec.proofs.IdLaws.{replica_takes, replica_again}

-- a token where there is one
pub record FrontToken (bytes : List ℕ) (has_token : Bool) (token : Option ℕ) (rest : List ℕ) : Type 0 where
  pub taken : Takes bytes (token_bytes token) rest
  pub fits : IsToken token
  pub has : has_token ≡ is_some token

pub token_takes : (has_token : Bool) (bytes : List ℕ) (x : Option ℕ × List ℕ) → IsBytes bytes → token_at has_token bytes ≡ Ok x → FrontToken bytes has_token x.0 x.1
unfolding token_at token_bytes
token_takes false bytes x fits e =
    subst (λ (y : Option ℕ × List ℕ). FrontToken bytes false y.0 y.1) (ok_is (None, bytes) x e) (record { taken = record { parts = refl; rest_fits = fits }; fits = tt; has = refl })
token_takes true bytes x fits e =
    let a = bind_ok (replica_at bytes) (λ token. Ok (Some token.0, token.1)) x e in
    let t = replica_takes bytes a.0 fits a.1 in
    subst (λ (y : Option ℕ × List ℕ). FrontToken bytes true y.0 y.1) (ok_is (Some a.0.0, a.0.1) x a.2) (record { taken = t.0; fits = (t.1, t.2); has = refl })

pub token_again : (token : Option ℕ) (rest : List ℕ) → IsToken token → token_at (is_some token) (token_bytes token ++ rest) ≡ Ok (token, rest)
unfolding token_at token_bytes
token_again None rest fits = refl
token_again (Some token) rest fits = rw (replica_again token rest fits.0 fits.1) refl
