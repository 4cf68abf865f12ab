-- Which parts of a file a write leaves as they were.
use Rattle.std.proofs.Common.{◌≡◌, ◌≢◌, ◌⊎◌, ℕ, false, true, [], ◌∷◌, refl, ◌+◌, ◌-◌, ◌*◌, ◌≤◌}
use Rattle.std.proofs.Common.{List, length, take, drop, sym, ap, ◌∙◌, inl, inr, arith, length-take}
use Rattle.std.proofs.Common.{append_assoc}
use Rattle.std.proofs.lemmas.List.{take-take, drop-take, drop-drop, take_at, drop_at}
use Rattle.std.proofs.lemmas.Bool.{cases_lt}
use Rattle.std.proofs.lemmas.Bool.Decides.{nat_tests}
use Rattle.disk_trait.specs.File.{part, overwritten, Torn}
use Rattle.page_file.specs.Pages.{page, pages, has, are_pages}

-- a part lies before a place, or behind it
part_before : (c d : List ℕ) (at a n : ℕ) → take at c ≡ take at d → a + n ≤ at → part c a n ≡ part d a n
part_before c d at a n same within =
    sym (drop-take a n c)
    ∙ ap (drop a) (sym (take-take (a + n) at c within) ∙ ap (take (a + n)) same ∙ take-take (a + n) at d within)
    ∙ drop-take a n d

part_behind : (c d : List ℕ) (end a n : ℕ) → drop end c ≡ drop end d → end ≤ a → part c a n ≡ part d a n
part_behind c d end a n same within =
    let place : end + (a - end) ≡ a = omega arith in
    ap (take n) (ap (λ k. drop k c) (sym place) ∙ sym (drop-drop (a - end) end c) ∙ ap (drop (a - end)) same
    ∙ drop-drop (a - end) end d ∙ ap (λ k. drop k d) place)

-- a write leaves the parts outside of its range
pub part_outside : (d c : List ℕ) (at k a n : ℕ) → Torn at k d c → (a + n ≤ at) ⊎ (at + k ≤ a) → part c a n ≡ part d a n
part_outside d c at k a n torn (inl before) = part_before c d at a n torn.before before
part_outside d c at k a n torn (inr behind) = part_behind c d (at + k) a n torn.after behind

-- what is written is there
pub part_written : (old : List ℕ) (at n : ℕ) (bytes : List ℕ) → at ≤ length old → length bytes ≡ n → part (overwritten old at bytes) at n ≡ bytes
part_written old at n bytes within size =
    let first : length (take at old) ≡ at = omega (arith, length-take at old) in
    ap (take n) (ap (drop at) (append_assoc (take at old) bytes (drop (at + length bytes) old)) ∙ drop_at (take at old) _ at first)
    ∙ take_at bytes _ n size

-- two pages of one size
apart : (n m : ℕ) → n ≢ m → (4096 * n + 4096 ≤ 4096 * m) ⊎ (4096 * m + 4096 ≤ 4096 * n)
apart n m other = elim (cases_lt n m) [
  | inl below ↦ inl (omega (arith, below))
  | inr above ↦ inr (omega (arith, above, other))
]

-- a write of one page leaves the others
pub page_other : (d c : List ℕ) (m n : ℕ) → Torn (4096 * m) 4096 d c → n ≢ m → page n c ≡ page n d
page_other d c m n torn other = part_outside d c (4096 * m) 4096 (4096 * n) 4096 torn (apart n m other)

-- a number that isn't among some is none of them
pub lacks_head : (m n : ℕ) (ns : List ℕ) → has m (n ∷ ns) ≡ false → n ≢ m
lacks_head m n ns lacks = grind (arith, nat_tests)

pub lacks_rest : (m n : ℕ) (ns : List ℕ) → has m (n ∷ ns) ≡ false → has m ns ≡ false
lacks_rest m n ns lacks = grind (arith, nat_tests)

-- a write of one page leaves these pages, if it isn't one of them
pub pages_other : (d c : List ℕ) (m : ℕ) (ns : List ℕ) → Torn (4096 * m) 4096 d c → has m ns ≡ false → pages ns c ≡ pages ns d
pages_other d c m [] torn lacks = refl
pages_other d c m (n ∷ ns) torn lacks =
    cong2 (page_other d c m n torn (lacks_head m n ns lacks)) (pages_other d c m ns torn (lacks_rest m n ns lacks))
  where
    cong2 : {p q : List ℕ} {ps qs : List (List ℕ)} → p ≡ q → ps ≡ qs → p ∷ ps ≡ q ∷ qs
    cong2 {p} {q} {ps} {qs} one rest = ap (λ x. x ∷ ps) one ∙ ap (λ xs. q ∷ xs) rest

-- a write before all of them leaves these pages
pub pages_behind : (d c : List ℕ) (at k : ℕ) (ns : List ℕ) → Torn at k d c → at + k ≤ 8192 → are_pages ns ≡ true → pages ns c ≡ pages ns d
pages_behind d c at k [] torn within apart = refl
pages_behind d c at k (n ∷ ns) torn within apart =
    cong2 (part_outside d c at k (4096 * n) 4096 torn (inr (behind n (first_number n ns apart)))) (pages_behind d c at k ns torn within (rest_apart n ns apart))
  where
    cong2 : {p q : List ℕ} {ps qs : List (List ℕ)} → p ≡ q → ps ≡ qs → p ∷ ps ≡ q ∷ qs
    cong2 {p} {q} {ps} {qs} one rest = ap (λ x. x ∷ ps) one ∙ ap (λ xs. q ∷ xs) rest

    first_number : (n : ℕ) (ns : List ℕ) → are_pages (n ∷ ns) ≡ true → 2 ≤ n
    first_number n ns apart = grind (arith, nat_tests)

    rest_apart : (n : ℕ) (ns : List ℕ) → are_pages (n ∷ ns) ≡ true → are_pages ns ≡ true
    rest_apart n ns apart = grind (arith, nat_tests)

    behind : (n : ℕ) → 2 ≤ n → at + k ≤ 4096 * n
    behind n above = omega (arith, above, within)
