-- Whole records at the front of bytes, whatever is read from their bodies.
use Rattle.std.proofs.Common.{◌≡◌, ℕ, ◌+◌, ◌≤◌, true, false, cond, ltb, List, ◌++◌, length, take, drop, Some, None, Result, Ok, Err}
use Rattle.std.proofs.Common.{refl, sym, ap, ◌∙◌, append_assoc, arith, inl, inr}
use Rattle.std.specs.Int.{w32, is_in_range, from_be_bytes, to_be_bytes}
use Rattle.std.proofs.lemmas.Bool.{cases_Bool, ltb-false, ltb-true, lt-ltb, le-ltb}
use Rattle.std.proofs.lemmas.Bool.Decides.{nat_tests}
use Rattle.std.proofs.lemmas.List.{take_at, drop_at, take-append-drop, length-append, length-take, length-drop}
use Rattle.std.proofs.Math.Seq.{take-append-add}
use Rattle.change_codec.specs.declared.codec_error.CodecError.{CodecError}
use Rattle.change_codec.specs.declared.codec_error.CodecError.TheVariants.{Length}
use Rattle.change_codec.specs.declared.format.Format.{Format}
use Rattle.change_codec.specs.Formats.{has_tokens, longest}
use Rattle.change_codec.specs.Spelling.{number_bytes}
use Rattle.change_codec.specs.Reading.{◌>>=◌}
use Rattle.change_codec.specs.Record.{framed_at, length_at, framed, IsPartial}
use Rattle.change_codec.proofs.Steps.{IsBytes, IsBytes-take, bind_ok, ranged, not_none, cases_none, done}
use Rattle.change_codec.proofs.Numbers.{wide32}

-- ---- what is read is spelled

-- what was found in the body of the record at the front
pub record Found {A : Type 0} (read : List ℕ → Result A CodecError) (bytes : List ℕ) (x : A) (n : ℕ) : Type 0 where
  pub four : 4 ≤ length bytes
  pub low : 33 ≤ length_at bytes
  pub long : length_at bytes ≤ length (drop 4 bytes)
  pub value : read (take (length_at bytes) (drop 4 bytes)) ≡ Ok x
  pub size : 4 + length_at bytes ≡ n

pub framed_found : {A : Type 0} (read : List ℕ → Result A CodecError) (f : Format) (bytes : List ℕ) (x : A) (n : ℕ) → framed read f bytes ≡ Ok (Some (x, n)) → Found read bytes x n
framed_found {A} read f bytes x n e =
    let len = length_at bytes in
    let rest = drop 4 bytes in
    let a = not_none (ltb (length bytes) 4) (framed_at read f len rest) (x, n) e in
    let b = ranged (is_in_range 33 (longest f) len) (cond (ltb (length rest) len) (Ok None) (read (take len rest) >>= λ y. Ok (Some (y, 4 + len)))) Length (Some (x, n)) a.1 in
    let c = not_none (ltb (length rest) len) (read (take len rest) >>= λ y. Ok (Some (y, 4 + len))) (x, n) b.1 in
    let d = bind_ok (read (take len rest)) (λ y. Ok (Some (y, 4 + len))) (Some (x, n)) c.1 in
    let first : A × ℕ = (d.0, 4 + len) in
    let second : A × ℕ = (x, n) in
    let made : first ≡ second = some_is (d.0, 4 + len) (x, n) d.2 in
    record {
      four = ltb-false _ _ a.0;
      low = in_low f len b.0;
      long = ltb-false _ _ c.0;
      value = d.1 ∙ ap (λ (y : A × ℕ). done y.0) made;
      size = ap (λ (y : A × ℕ). y.1) made;
    }
  where
    some_is : {A : Type 0} (x y : A) → done (Some x) ≡ done (Some y) → x ≡ y
    some_is x y e = cc

    in_low : (f : Format) (len : ℕ) → is_in_range 33 (longest f) len ≡ true → 33 ≤ len
    in_low f len test = grind (arith, nat_tests)

-- the record that was found is there to its end
pub found_whole : {A : Type 0} {read : List ℕ → Result A CodecError} {bytes : List ℕ} {x : A} {n : ℕ} → Found read bytes x n → n ≤ length bytes
found_whole {A} {read} {bytes} {x} {n} found = omega (arith, found.four, found.long, found.size, length-drop 4 bytes)

take_both : (n m : ℕ) (xs : List ℕ) → n ≤ length xs → take (n + m) xs ≡ take n xs ++ take m (drop n xs)
take_both n m xs le =
    let split = take-append-drop n xs in
    let len : length (take n xs) ≡ n = omega (arith, length-take n xs) in
    ap (take (n + m)) (sym split) ∙ ap (λ (k : ℕ). take (k + m) (take n xs ++ drop n xs)) (sym len) ∙ take-append-add (take n xs) (drop n xs) m

-- its bytes: the length of the body, and the body
pub found_spelled : {A : Type 0} {read : List ℕ → Result A CodecError} {bytes : List ℕ} {x : A} {n : ℕ} → Found read bytes x n → (body : List ℕ) → IsBytes bytes
    → take (length_at bytes) (drop 4 bytes) ≡ body → take n bytes ≡ number_bytes w32 (length body) ++ body
unfolding number_bytes
found_spelled {A} {read} {bytes} {x} {n} found body fits is =
    let len = length_at bytes in
    let rest = drop 4 bytes in
    let size : length body ≡ len = ap (λ (w : List ℕ). length w) (sym is) ∙ omega (arith, length-take len rest, found.long) in
    let front : to_be_bytes w32 len ≡ take 4 bytes = wide32.back (take 4 bytes) (omega (arith, length-take 4 bytes, found.four)) (IsBytes-take 4 bytes fits) in
    ap (λ (k : ℕ). take k bytes) (sym found.size) ∙ take_both 4 len bytes found.four ∙ ap (λ (w : List ℕ). w ++ take len rest) (sym front)
    ∙ ap (λ (w : List ℕ). to_be_bytes w32 len ++ w) is ∙ ap (λ (k : ℕ). to_be_bytes w32 k ++ body) (sym size)

-- ---- what is spelled is read

-- four bytes that give the length of the body, and the body
front_framed : {A : Type 0} (read : List ℕ → Result A CodecError) (f : Format) (front body rest : List ℕ) (x : A) → length front ≡ 4 → from_be_bytes w32 front ≡ length body
    → 33 ≤ length body → length body ≤ longest f → read body ≡ Ok x → framed read f (front ++ (body ++ rest)) ≡ Ok (Some (x, 4 + length body))
front_framed read f front body rest x four number low high value =
    let len = length body in
    let all = front ++ (body ++ rest) in
    let number_is : length_at all ≡ len = ap (from_be_bytes w32) (take_at front (body ++ rest) 4 four) ∙ number in
    let behind : drop 4 all ≡ body ++ rest = drop_at front (body ++ rest) 4 four in
    let there : ltb (length all) 4 ≡ false = le-ltb _ _ (omega (arith, length-append front (body ++ rest))) in
    let test : is_in_range 33 (longest f) len ≡ true = grind (arith, nat_tests) in
    let long : ltb (length (body ++ rest)) len ≡ false = le-ltb _ _ (omega (arith, length-append body rest)) in
    let cut : take len (body ++ rest) ≡ body = take_at body rest len refl in
    let found : framed_at read f len (body ++ rest) ≡ Ok (Some (x, 4 + len)) = rw (test, long, cut, value) refl in
    let opened : framed read f all ≡ framed_at read f (length_at all) (drop 4 all) = rw there refl in
    opened ∙ ap (λ (n : ℕ). framed_at read f n (drop 4 all)) number_is ∙ ap (framed_at read f len) behind ∙ found

-- a length's range is within that of a number of four bytes
longest_few : (f : Format) → longest f ≤ 1507
longest_few f = elim (cases_Bool (has_tokens f)) [ inl has ↦ rw has (omega arith) | inr none ↦ rw none (omega arith) ]

-- what is read from a body is read from its record
pub framed_again : {A : Type 0} (read : List ℕ → Result A CodecError) (f : Format) (body rest : List ℕ) (x : A) → 33 ≤ length body → length body ≤ longest f → read body ≡ Ok x
    → framed read f ((number_bytes w32 (length body) ++ body) ++ rest) ≡ Ok (Some (x, length (number_bytes w32 (length body) ++ body)))
unfolding number_bytes
framed_again read f body rest x low high value =
    let len = length body in
    let few = longest_few f in
    let front : List ℕ = to_be_bytes w32 len in
    let size : 4 + len ≡ length (front ++ body) = omega (arith, length-append front body) in
    ap (framed read f) (append_assoc front body rest) ∙ front_framed read f front body rest x refl (wide32.again len (omega (arith, high, few))) low high value
    ∙ ap (λ (k : ℕ). done (Some (x, k))) size

-- ---- no whole record

pub partial_framed : {A : Type 0} (read : List ℕ → Result A CodecError) (f : Format) (bytes : List ℕ) → IsPartial f bytes → framed read f bytes ≡ Ok None
partial_framed read f bytes (inl short) =
    let test : ltb (length bytes) 4 ≡ true = grind (arith, nat_tests) in
    rw test refl
partial_framed read f bytes (inr (low, high, short)) =
    let len = length_at bytes in
    let range : is_in_range 33 (longest f) len ≡ true = grind (arith, nat_tests) in
    elim (cases_Bool (ltb (length bytes) 4)) [
      | inl few ↦ rw few refl
      | inr there ↦
          let missing : ltb (length (drop 4 bytes)) len ≡ true = lt-ltb _ _ (omega (arith, length-drop 4 bytes, short, ltb-false _ _ there)) in
          rw (there, range, missing) refl
    ]

-- what was read isn't nothing
not_nothing : {A B : Type 0} (r : Result A CodecError) (f : A → B) → (r >>= λ x. Ok (Some (f x))) ≡ Ok None → ⊥
not_nothing (Ok x) f e = cc
not_nothing (Err d) f e = cc

pub framed_partial : {A : Type 0} (read : List ℕ → Result A CodecError) (f : Format) (bytes : List ℕ) → framed read f bytes ≡ Ok None → IsPartial f bytes
framed_partial read f bytes e =
    let len = length_at bytes in
    let rest = drop 4 bytes in
    elim (cases_none (ltb (length bytes) 4) (framed_at read f len rest) e) [
      | inl short ↦ inl (ltb-true _ _ short)
      | inr there ↦
          let b = ranged (is_in_range 33 (longest f) len) (cond (ltb (length rest) len) (Ok None) (read (take len rest) >>= λ x. Ok (Some (x, 4 + len)))) Length None there.1 in
          let test = b.0 in
          let low : 33 ≤ len = grind (arith, nat_tests) in
          let high : len ≤ longest f = grind (arith, nat_tests) in
          elim (cases_none (ltb (length rest) len) (read (take len rest) >>= λ x. Ok (Some (x, 4 + len))) b.1) [
            | inl missing ↦ inr (low, high, omega (arith, ltb-true _ _ missing, length-drop 4 bytes, ltb-false _ _ there.0))
            | inr found ↦ absurd (not_nothing (read (take len rest)) (λ x. (x, 4 + len)) found.1)
          ]
    ]
