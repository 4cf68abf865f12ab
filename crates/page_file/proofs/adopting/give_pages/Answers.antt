use Rattle.std.proofs.Common.{◌≡◌, ℕ, ◌+◌, ◌<◌, ◌==◌, ◌||◌, Bool, true, false, List, take, length, get_or, sym, ap, ◌∙◌, refl, arith}
use Rattle.page_file.specs.declared.gaps.Gap.{Gap}
use Rattle.page_file.specs.Gaps.{in_gaps}
use Rattle.page_file.specs.Pages.{has, are_pages}
use Rattle.page_file.proofs.AdoptLemmas.{not_before}
use Rattle.page_file.proofs.Apart.{has_each, has_more}
use Rattle.page_file.proofs.adopting.give_pages.Goals as goal

out : (ns : List ℕ) (i n : ℕ) (old gaps : List Gap) → are_pages ns ≡ true → i < length ns → n ≡ get_or ns i 0 → ((m : ℕ) → has m ns ≡ true → in_gaps m old ≡ false)
    → ((m : ℕ) → in_gaps m gaps ≡ (in_gaps m old || has m (take i ns))) → in_gaps n gaps ≡ false
out ns i n old gaps apart within is lacks more =
    ap (λ k. in_gaps k gaps) is ∙ more (get_or ns i 0) ∙ rw (lacks (get_or ns i 0) (has_each ns i within), not_before ns i apart within) refl

one_more : (ns : List ℕ) (i n : ℕ) (old gaps new : List Gap) → i < length ns → n ≡ get_or ns i 0 → ((m : ℕ) → in_gaps m gaps ≡ (in_gaps m old || has m (take i ns)))
    → ((m : ℕ) → in_gaps m new ≡ (in_gaps m gaps || m == n)) → (m : ℕ) → in_gaps m new ≡ (in_gaps m old || has m (take (i + 1) ns))
one_more ns i n old gaps new within is more given m =
    given m ∙ ap (λ b. b || m == n) (more m) ∙ shifted (in_gaps m old) (has m (take i ns)) (m == n)
    ∙ ap (λ b. in_gaps m old || b) (ap (λ k. has m (take i ns) || m == k) is ∙ sym (has_more m ns i within))
  where
    shifted : (x y z : Bool) → ((x || y) || z) ≡ (x || (y || z))
    shifted true y z = refl
    shifted false y z = refl

pub give_page-requires-clause-lacks : goal.give_page-requires-clause-lacks
give_page-requires-clause-lacks c =
    out c.args.pages.now c.loop-page.page-index c.from.result c.args.gaps.now.items c.loop-page.gaps.items c.requires.apart c.loop-page-test.true c.from.ensures c.requires.lacks c.loop-page.invariant.more

pub loop-page-preserved : goal.loop-page-preserved
loop-page-preserved c = record {
  falling = c.give_page.ensures.gains.falling;
  more = one_more c.args.pages.now c.loop-page.page-index c.from.result c.args.gaps.now.items c.loop-page.gaps.items c.give_page.new.gaps.items c.loop-page-test.true c.from.ensures c.loop-page.invariant.more c.give_page.ensures.gains.more;
  size = omega (arith, c.give_page.ensures.grows.size, c.loop-page.invariant.size);
  capacity = omega (arith, c.give_page.ensures.grows.capacity, c.loop-page.invariant.capacity);
}
