-- Bytes that are taken of a line.
use Rattle.std.proofs.Common.{◌≡◌, ◌≢◌, ◌≤◌, ◌<◌, ◌+◌, ℕ, suc, List, [], ◌∷◌, ◌++◌, Bool, true, false, not, cond, ◌==◌}
use Rattle.std.proofs.Common.{nat_lt, take, length, Option, Some, None, Result, Ok, Err, refl, sym, ◌∙◌, inl, inr, append_assoc, append-nil, arith}
use Rattle.std.specs.List.{position, position_or_len}
use Rattle.std.specs.Result.{IfOk, OnOk}
use Rattle.std.proofs.lemmas.Bool.Decides.{nat_tests}
use Rattle.std.proofs.lemmas.List.Sums.{prefix_len-le-length}
use Rattle.std.proofs.lemmas.List.Folds.{length-prefix_len}
use Rattle.web_lines.specs.Answering.{Answering, SendsLine, Takes}

-- the bytes before the first line feed
abbrev pub front : List ℕ → List ℕ
front bytes = take (position_or_len (λ byte. byte == 10) bytes) bytes

not-feed : (byte : ℕ) → (byte == 10) ≡ false → byte ≢ 10
not-feed byte e f = absurd (grind (arith, nat_tests))

all-before : (at end : ℕ) → at ≤ end → cond (nat_lt at end) (Some at) None ≡ None → end ≡ at
all-before at end l e = grind (arith, nat_tests)

-- no line feed is there, so that all is before it
pub position_or_len-None : (bytes : List ℕ) → position (λ byte. byte == 10) bytes ≡ None → length bytes ≡ position_or_len (λ byte. byte == 10) bytes
position_or_len-None bytes e = all-before _ (length bytes) (prefix_len-le-length (λ byte. not (byte == 10)) bytes) e

by-test : (byte : ℕ) (bytes : List ℕ) (b : Bool) → (byte == 10) ≡ b → position_or_len (λ x. x == 10) (byte ∷ bytes) ≡ 0 → take 1 (byte ∷ bytes) ≡ 10 ∷ []
by-test byte bytes true t e =
    let ten : byte ≡ 10 = grind (arith, nat_tests) in
    rw ten refl
by-test byte bytes false t e =
    let more : 1 + position_or_len (λ x. x == 10) bytes ≡ 0 = rw t at e in
    absurd (omega arith)

-- none is before it, so that it comes first
pub first-is-feed : (bytes : List ℕ) → position_or_len (λ byte. byte == 10) bytes ≡ 0 → 0 < length bytes → take 1 bytes ≡ 10 ∷ []
first-is-feed [] e l = absurd (omega arith)
first-is-feed (byte ∷ bytes) e l = by-test byte bytes (byte == 10) refl e

front-cons : (byte : ℕ) (bytes : List ℕ) → (byte == 10) ≡ false → front (byte ∷ bytes) ≡ byte ∷ front bytes
front-cons byte bytes e =
    let one : 1 + position_or_len (λ x. x == 10) bytes ≡ suc (position_or_len (λ x. x == 10) bytes) = omega arith in
    rw (e, one) refl

front-feed : (byte : ℕ) (bytes : List ℕ) → (byte == 10) ≡ true → front (byte ∷ bytes) ≡ []
front-feed byte bytes e = rw e refl

module _ {S : Type 0} where
  takes-by : (contents : S → Option (List ℕ)) (old : Answering S) (byte : ℕ) (bytes : List ℕ) (b : Bool) → (byte == 10) ≡ b
      → ((mid : Answering S) → Takes contents mid (front bytes) (record mid { gathered = mid.gathered ++ front bytes }))
      → Takes contents old (front (byte ∷ bytes)) (record old { gathered = old.gathered ++ front (byte ∷ bytes) })
  takes-by contents old byte bytes true e rest = rw (front-feed byte bytes e, append-nil) refl
  takes-by contents old byte bytes false e rest =
      let mid : Answering S = record old { gathered = old.gathered ++ byte ∷ [] } in
      rw (front-cons byte bytes e)
      (mid, inr (not-feed byte e, refl), rw (sym (append_assoc old.gathered (byte ∷ []) (front bytes))) (rest mid))

  -- the bytes before a line feed are gathered
  takes-front : (contents : S → Option (List ℕ)) (old : Answering S) (bytes : List ℕ)
      → Takes contents old (front bytes) (record old { gathered = old.gathered ++ front bytes })
  takes-front contents old [] = rw append-nil refl
  takes-front contents old (byte ∷ bytes) = takes-by contents old byte bytes (byte == 10) refl (λ mid. takes-front contents mid bytes)

  -- a call that took the bytes before a line feed
  pub takes-part : {E : Type 0} (contents : S → Option (List ℕ)) (old new : Answering S) (bytes : List ℕ) (r : Result ℕ E) (end : ℕ)
      → end ≡ position_or_len (λ byte. byte == 10) bytes → IfOk r (λ count. count ≡ length (take end bytes))
      → OnOk r (new ≡ record old { gathered = old.gathered ++ take end bytes }) → IfOk r (λ count. Takes contents old (take count bytes) new)
  takes-part contents old new bytes (Ok count) end p n e =
      let whole : count ≡ position_or_len (λ byte. byte == 10) bytes = n ∙ rw p (length-prefix_len (λ byte. not (byte == 10)) bytes) in
      rw (whole, e, p) (takes-front contents old bytes)
  takes-part contents old new bytes (Err _) end p n e = tt

  -- a call that took a line feed
  pub takes-feed : {E : Type 0} (contents : S → Option (List ℕ)) (old new : Answering S) (bytes : List ℕ) (r : Result ℕ E)
      → take 1 bytes ≡ 10 ∷ [] → IfOk r (λ count. count ≡ 1) → OnOk r (SendsLine contents old new) → IfOk r (λ count. Takes contents old (take count bytes) new)
  takes-feed contents old new bytes (Ok count) t n s = rw (n, t) (new, inl (refl, s), refl)
  takes-feed contents old new bytes (Err _) t n s = tt

  -- two calls, one after the other
  pub takes-append : (contents : S → Option (List ℕ)) (a b c : Answering S) (first second : List ℕ) → Takes contents a first b → Takes contents b second c
      → Takes contents a (first ++ second) c
  takes-append contents a b c [] second x y = rw x at y
  takes-append contents a b c (byte ∷ first) second x y = (x.0, x.1, takes-append contents x.0 b c first second x.2 y)
