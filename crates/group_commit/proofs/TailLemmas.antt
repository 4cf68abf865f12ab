-- The bytes behind the full pages of a stream that grows.
use Rattle.std.proofs.Common.{◌≡◌, ℕ, true, false, inl, inr, ◌+◌, ◌-◌, ◌*◌, ◌/◌, ◌<◌, ◌≤◌, List}
use Rattle.std.proofs.Common.{◌++◌, length, take, drop, sym, ap, ◌∙◌, arith, length-append}
use Rattle.std.proofs.Common.{length-drop}
use Rattle.std.proofs.lemmas.Bool.{cases_lt}
use Rattle.std.proofs.lemmas.List.{drop-drop, drop-append-le}
use Rattle.page_file.specs.Pages.{is_zero}
use Rattle.root_slots.specs.Root.{pages_for}
use Rattle.group_commit.specs.Saved.{tail_of}
use Rattle.group_commit.specs.Plan.{kept_of}
use Rattle.group_commit.proofs.KeptLemmas.{kept_is}
use Rattle.group_commit.proofs.PlanLemmas.{drop_both}

pub tail_small : (bytes : List ℕ) → length (tail_of bytes) < 4096
tail_small bytes = omega (arith, length-drop (4096 * (length bytes / 4096)) bytes)

full_more : (n t r : ℕ) → t ≡ n - 4096 * (n / 4096) → 4096 * ((n + r) / 4096) ≡ 4096 * (n / 4096) + 4096 * ((t + r) / 4096)
full_more n t r is = omega (arith, is)

-- more bytes come behind the tail alone
pub tail_more : (s r : List ℕ) → tail_of (tail_of s ++ r) ≡ tail_of (s ++ r)
tail_more s r =
    let full : ℕ = 4096 * (length s / 4096) in
    let next : ℕ = 4096 * (length (tail_of s ++ r) / 4096) in
    let count : 4096 * (length (s ++ r) / 4096) ≡ full + next =
    ap (λ n. 4096 * (n / 4096)) (length-append s r) ∙ full_more (length s) (length (tail_of s)) (length r) (length-drop full s)
    ∙ ap (λ n. full + 4096 * (n / 4096)) (sym (length-append (tail_of s) r)) in
    sym (ap (λ n. drop n (s ++ r)) count ∙ sym (drop-drop next full (s ++ r)) ∙ ap (drop next) (drop-append-le full s r (omega arith)))

-- what stands behind a place in the tail
pub tail_behind : (s : List ℕ) (n k : ℕ) → length s ≡ n → 4096 * (n / 4096) ≤ k → drop (k - 4096 * (n / 4096)) (tail_of s) ≡ drop k s
tail_behind s n k long full =
    ap (λ m. drop (k - 4096 * (n / 4096)) (drop (4096 * (m / 4096)) s)) long ∙ drop-drop (k - 4096 * (n / 4096)) (4096 * (n / 4096)) s
    ∙ ap (λ m. drop m s) (omega (arith, full))

-- the tail of two parts, from what is left of each
pub tail_parts : (t r : List ℕ) → drop (4096 * ((length t + length r) / 4096)) t ++ drop (4096 * ((length t + length r) / 4096) - length t) r ≡ tail_of (t ++ r)
tail_parts t r =
    sym (ap (λ n. drop (4096 * (n / 4096)) (t ++ r)) (length-append t r) ∙ drop_both (4096 * ((length t + length r) / 4096)) t r)

-- the full pages stay
pub full_stay : (long : ℕ) (r : List ℕ) (kept : ℕ) → kept ≡ kept_of long r → 4096 * (long / 4096) ≤ 4096 * kept
full_stay long r kept is = elim (kept_is long r kept is) [
  | inl stay ↦ omega (arith, stay.all)
  | inr change ↦ elim (cases_lt long (4096 * pages_for 4096 long)) [
    | inl part ↦ omega (arith, part, change.others)
    | inr full ↦ absurd (no_rest (4096 * pages_for 4096 long - long) r (omega (arith, full)) change.not_zeros)
  ]
]
  where
    no_rest : (k : ℕ) (r : List ℕ) → k ≡ 0 → is_zero (take k r) ≡ false → ⊥
    no_rest k r none not_zeros = let zeros : is_zero (take k r) ≡ true = ap (λ n. is_zero (take n r)) none in absurd cc
