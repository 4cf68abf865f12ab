-- Which pages lie whole in a file.
use Rattle.std.proofs.Common.{◌≡◌, ℕ, ◌+◌, ◌*◌, ◌≤◌, Bool, true, false, ◌&&◌, ◌==◌, nat_le, List, [], ◌∷◌, length, refl, sym, ap, ◌∙◌}
use Rattle.std.proofs.lemmas.Bool.Decides.{nat_tests}
use Rattle.std.proofs.Common.{arith}
use Rattle.page_file.specs.Pages.{page, pages, is_whole, are_whole}
use Rattle.page_file.proofs.PageReads.{page_inside, page_whole}
use Rattle.group_commit.specs.Loading.{are_within}

-- a page lies in the file where it is whole
within_one : (n : ℕ) (file : List ℕ) → nat_le (4096 * n + 4096) (length file) ≡ is_whole (page n file)
within_one n file = by_sizes (4096 * n + 4096) (length file) (length (page n file)) (page_whole n file) (page_inside n file)
  where
    by_sizes : (need size got : ℕ) → (need ≤ size → got ≡ 4096) → (got ≡ 4096 → need ≤ size) → nat_le need size ≡ (got == 4096)
    by_sizes need size got whole inside = decided (nat_le need size) refl
      where
        decided : (b : Bool) → nat_le need size ≡ b → nat_le need size ≡ (got == 4096)
        decided true is = let le : need ≤ size = grind (arith, nat_tests) in let same = whole le in grind (arith, nat_tests)
        decided false is = decided_false (got == 4096) refl
          where
            decided_false : (d : Bool) → (got == 4096) ≡ d → nat_le need size ≡ (got == 4096)
            decided_false true eq = let same : got ≡ 4096 = grind (arith, nat_tests) in let le = inside same in grind (arith, nat_tests)
            decided_false false eq = is ∙ sym eq

pub within_whole : (ns file : List ℕ) → are_within (length file) ns ≡ are_whole (pages ns file)
within_whole [] file = refl
within_whole (n ∷ ns) file = ap (λ b. b && are_within (length file) ns) (within_one n file) ∙ ap (λ b. is_whole (page n file) && b) (within_whole ns file)
