-- Reading the entries of a clock one after another, as a loop does.
use Rattle.std.proofs.Common.{◌≡◌, ℕ, suc, ◌-◌, ◌+◌, ◌≤◌, ◌<◌, List, [], ◌∷◌, ◌++◌, Result, Ok, Err, refl, sym, ap, ◌∙◌, append_assoc, arith}
use Rattle.std.proofs.lemmas.List.{append-nil}
use Rattle.change_codec.specs.declared.codec_error.CodecError.{CodecError}
use Rattle.change_codec.specs.Reading.{◌>>=◌, only_rest, only_value, entry_at, entries_at}

-- the rest is that of the others
rest_of_others : (e : ℕ × ℕ) (read : Result (List (ℕ × ℕ) × List ℕ) CodecError) → only_rest (read >>= λ x. Ok (e ∷ x.0, x.1)) ≡ only_rest read
rest_of_others e (Ok x) = refl
rest_of_others e (Err f) = refl

pub skips_on : (count i low : ℕ) (bytes : List ℕ) (e : ℕ × ℕ) (after : List ℕ) (total : Result (List ℕ) CodecError) → i < count → entry_at low bytes ≡ Ok (e, after)
    → only_rest (entries_at (count - i) low bytes) ≡ total → only_rest (entries_at (count - (i + 1)) e.0 after) ≡ total
unfolding entries_at
skips_on count i low bytes e after total lt h so_far =
    let k : count - i ≡ suc (count - (i + 1)) = omega arith in
    let one : only_rest (entries_at (count - i) low bytes) ≡ only_rest (entries_at (count - (i + 1)) e.0 after) = rw (k, h) (rest_of_others e (entries_at (count - (i + 1)) e.0 after)) in
    sym one ∙ so_far

pub skip_fails : (count i low : ℕ) (bytes : List ℕ) (f : CodecError) (total : Result (List ℕ) CodecError) → i < count → entry_at low bytes ≡ Err f
    → only_rest (entries_at (count - i) low bytes) ≡ total → total ≡ Err f
unfolding entries_at
skip_fails count i low bytes f total lt h so_far =
    let k : count - i ≡ suc (count - (i + 1)) = omega arith in
    let one : only_rest (entries_at (count - i) low bytes) ≡ Err f = rw (k, h) refl in
    sym so_far ∙ one

pub skip_ends : (count i low : ℕ) (bytes : List ℕ) (total : Result (List ℕ) CodecError) → count ≤ i → only_rest (entries_at (count - i) low bytes) ≡ total → total ≡ Ok bytes
unfolding entries_at
skip_ends count i low bytes total le so_far =
    let k : count - i ≡ 0 = omega arith in
    let one : only_rest (entries_at (count - i) low bytes) ≡ Ok bytes = rw k refl in
    sym so_far ∙ one

-- what was read before, and what is still read
abbrev pub with_front : List (ℕ × ℕ) → Result (List (ℕ × ℕ) × List ℕ) CodecError → Result (List (ℕ × ℕ)) CodecError
with_front front (Ok x) = Ok (front ++ x.0)
with_front front (Err f) = Err f

regroup : (front : List (ℕ × ℕ)) (e : ℕ × ℕ) (read : Result (List (ℕ × ℕ) × List ℕ) CodecError) → with_front front (read >>= λ x. Ok (e ∷ x.0, x.1)) ≡ with_front (front ++ e ∷ []) read
regroup front e (Ok x) = ap (λ (es : List (ℕ × ℕ)). Ok es) (simp append_assoc)
regroup front e (Err f) = refl

pub collects_on : (front : List (ℕ × ℕ)) (count i low : ℕ) (bytes : List ℕ) (e : ℕ × ℕ) (after : List ℕ) (total : Result (List (ℕ × ℕ)) CodecError) → i < count → entry_at low bytes ≡ Ok (e, after)
    → with_front front (entries_at (count - i) low bytes) ≡ total → with_front (front ++ e ∷ []) (entries_at (count - (i + 1)) e.0 after) ≡ total
unfolding entries_at
collects_on front count i low bytes e after total lt h so_far =
    let k : count - i ≡ suc (count - (i + 1)) = omega arith in
    let one : with_front front (entries_at (count - i) low bytes) ≡ with_front (front ++ e ∷ []) (entries_at (count - (i + 1)) e.0 after) = rw (k, h) (regroup front e (entries_at (count - (i + 1)) e.0 after)) in
    sym one ∙ so_far

pub collect_fails : (front : List (ℕ × ℕ)) (count i low : ℕ) (bytes : List ℕ) (f : CodecError) (total : Result (List (ℕ × ℕ)) CodecError) → i < count → entry_at low bytes ≡ Err f
    → with_front front (entries_at (count - i) low bytes) ≡ total → total ≡ Err f
unfolding entries_at
collect_fails front count i low bytes f total lt h so_far =
    let k : count - i ≡ suc (count - (i + 1)) = omega arith in
    let one : with_front front (entries_at (count - i) low bytes) ≡ Err f = rw (k, h) refl in
    sym so_far ∙ one

pub collect_ends : (front : List (ℕ × ℕ)) (count i low : ℕ) (bytes : List ℕ) (total : Result (List (ℕ × ℕ)) CodecError) → count ≤ i → with_front front (entries_at (count - i) low bytes) ≡ total → total ≡ Ok front
unfolding entries_at
collect_ends front count i low bytes total le so_far =
    let k : count - i ≡ 0 = omega arith in
    let one : with_front front (entries_at (count - i) low bytes) ≡ Ok front = rw k (ap (λ (es : List (ℕ × ℕ)). Ok es) (append-nil front)) in
    sym so_far ∙ one

-- before the first of them
pub collect_begins : (read : Result (List (ℕ × ℕ) × List ℕ) CodecError) → with_front [] read ≡ only_value read
collect_begins (Ok x) = refl
collect_begins (Err f) = refl
