-- A file that is read with zeros past its end and written again.
use Rattle.std.proofs.Common.{◌≡◌, ℕ, ◌+◌, ◌-◌, ◌<◌, ◌≤◌, min, max, List, ◌++◌, length, take, drop}
use Rattle.std.proofs.Common.{replicate, get_or, refl, sym, ap, ◌∙◌, inl, inr, arith, length-append}
use Rattle.std.proofs.Common.{length-take, length-drop}
use Rattle.std.proofs.lemmas.Bool.{cases_lt}
use Rattle.std.proofs.lemmas.List.{get_or-take, get_or-drop, get_or_append_left}
use Rattle.std.proofs.lemmas.List.{get_or-append_right, get_or-replicate, get_or_past}
use Rattle.std.proofs.lemmas.List.{length-replicate, drop-replicate, take_min, ext_get_or}
use Rattle.disk_trait.specs.File.{overwritten}
use Rattle.disk_trait.specs.Fault.{extended, padded}
use Rattle.disk_trait.proofs.FileLemmas.{length-overwritten, overwritten_before, overwritten_in, overwritten_after}

zeros : (n i : ℕ) → get_or {A = ℕ} (replicate n 0) i 0 ≡ 0
zeros n i =
    elim (cases_lt i n) [
      | inl within ↦ get_or-replicate n i 0 0 within
      | inr past ↦ get_or_past (replicate n 0) i 0 (omega (arith, length-replicate {A = ℕ} n 0))
    ]

pub length-extended : (file : List ℕ) (size : ℕ) → length (extended file size) ≡ max (length file) size
length-extended file size = omega (arith, length-append file (replicate (size - length file) 0), length-replicate {A = ℕ} (size - length file) 0)

-- so each place of an extended file reads the same
get-extended : (file : List ℕ) (size i : ℕ) → get_or (extended file size) i 0 ≡ get_or file i 0
get-extended file size i =
    elim (cases_lt i (length file)) [
      | inl within ↦ get_or_append_left file (replicate (size - length file) 0) 0 i within
      | inr past ↦ get_or-append_right file (replicate (size - length file) 0) (length file) i 0 refl past ∙ zeros (size - length file) (i - length file)
          ∙ sym (get_or_past file i 0 past)
    ]

length-padded : (file : List ℕ) (at n : ℕ) → length (padded file at n) ≡ n
length-padded file at n =
    omega (
      arith,
      length-append (take n (drop at file)) (replicate (n - (length file - at)) 0),
      length-take n (drop at file),
      length-drop at file,
      length-replicate {A = ℕ} (n - (length file - at)) 0,
    )

get-padded : (file : List ℕ) (at n i : ℕ) → i < n → get_or (padded file at n) i 0 ≡ get_or file (at + i) 0
get-padded file at n i below =
    let size : length (take n (drop at file)) ≡ min n (length file - at) = omega (arith, length-take n (drop at file), length-drop at file) in
    elim (cases_lt i (length (take n (drop at file)))) [
      | inl within ↦ get_or_append_left (take n (drop at file)) (replicate (n - (length file - at)) 0) 0 i within
          ∙ get_or-take n (drop at file) i 0 below ∙ get_or-drop at file i 0
      | inr past ↦ get_or-append_right (take n (drop at file)) (replicate (n - (length file - at)) 0) (length (take n (drop at file))) i 0 refl past
          ∙ zeros (n - (length file - at)) (i - length (take n (drop at file))) ∙ sym (get_or_past file (at + i) 0 (omega arith))
    ]

-- as much as there is, and zeros in place of the rest
pub padded_by_read : (file : List ℕ) (at n there : ℕ) → there ≡ min n (length file - at) → take there (drop at file) ++ drop there (replicate n 0) ≡ padded file at n
padded_by_read file at n there is =
    let size : there ≡ min n (length (drop at file)) = omega (arith, length-drop at file) in
    let front : take there (drop at file) ≡ take n (drop at file) = ap (λ k. take k (drop at file)) size ∙ take_min n (drop at file) in
    let count : n - there ≡ n - (length file - at) = omega arith in
    let blank : ℕ → List ℕ = λ k. replicate k 0 in
    let rest : drop there (blank n) ≡ blank (n - (length file - at)) = rw count at (drop-replicate {X = ℕ} there n 0) in
    rw (front, rest) refl

-- written again so, it is the file with zeros up to the end of the range
pub overwritten_padded : (file : List ℕ) (at n : ℕ) → at ≤ length file → overwritten file at (padded file at n) ≡ extended file (at + n)
overwritten_padded file at n within =
    let whole = padded file at n in
    let count : length whole ≡ n = length-padded file at n in
    let size : length (overwritten file at whole) ≡ length (extended file (at + n)) = omega (arith, length-overwritten file at whole within, length-extended file (at + n)) in
    ext_get_or 0 (overwritten file at whole) (extended file (at + n)) size (λ i there.
    elim (cases_lt i at) [
      | inl before ↦ overwritten_before file at whole i within before
      | inr begun ↦ elim (cases_lt i (at + n)) [
        | inl inside ↦
            let place : at + (i - at) ≡ i = omega arith in
            overwritten_in file at whole i within begun (omega arith) ∙ get-padded file at n (i - at) (omega arith) ∙ ap (λ k. get_or file k 0) place
        | inr after ↦ overwritten_after file at whole i within (omega arith)
      ]
    ] ∙ sym (get-extended file (at + n) i))

-- and so piece by piece
pub extended_again : (file : List ℕ) (mid size : ℕ) → mid ≤ size → extended (extended file mid) size ≡ extended file size
extended_again file mid size le =
    ext_get_or 0 (extended (extended file mid) size) (extended file size) (omega (arith, length-extended (extended file mid) size, length-extended file mid, length-extended file size))
    (λ i there. get-extended (extended file mid) size i ∙ get-extended file mid i ∙ sym (get-extended file size i))
