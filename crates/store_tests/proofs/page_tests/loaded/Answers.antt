use Rattle.std.proofs.Common.{◌≡◌, ℕ, ◌≤◌, true, List, [], ◌∷◌, length, ap, arith}
use Rattle.std.proofs.lemmas.Bool.Decides.{nat_tests}
use Rattle.page_file.specs.Pages.{pages, are_whole}
use Rattle.page_file.proofs.PageReads.{page_whole}
use Rattle.store_tests.proofs.page_tests.loaded.Goals as goal

one_whole : (file : List ℕ) → 12288 ≤ length file → are_whole (pages (2 ∷ []) file) ≡ true
one_whole file inside = let size = page_whole 2 file inside in grind (arith, nat_tests)

pub load-requires-clause-whole : goal.load-requires-clause-whole
load-requires-clause-whole g c = λ told.
    let before = c.size.ensures.tells.0 told in
    one_whole (g.D.DiskFacts.content c.size.new.self)
    (omega (arith, c.if-size-lt12288.false, c.in-Ok.ensures.size before, ap length (c.size.ensures.keeps before).same))
