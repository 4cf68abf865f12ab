use Rattle.std.proofs.Common.{◌≡◌, ℕ, ◌<◌, ◌++◌, ◌∷◌, ◌==◌, ◌&&◌, not, true, [], List, ap, ◌∙◌, arith}
use Rattle.page_file.specs.declared.gaps.Gap.{Gap}
use Rattle.page_file.specs.Gaps.{in_gaps, are_falling}
use Rattle.page_file.specs.Index.{AreOthers, is_free}
use Rattle.page_file.proofs.IndexLemmas.{others_less}
use Rattle.page_file.proofs.pages.Pages.take.Goals as goal

taken_one : (taken live new_taken : List ℕ) (gaps new : List Gap) (n : ℕ) → AreOthers (taken ++ live) gaps → in_gaps n gaps ≡ true → n < 4294967296
    → are_falling 4294967296 new ≡ true → ((m : ℕ) → in_gaps m new ≡ (in_gaps m gaps && not (m == n))) → new_taken ≡ taken ++ n ∷ [] → AreOthers (new_taken ++ live) new
taken_one taken live new_taken gaps new n others there below falls left made = rw (made) (others_less taken live gaps new n others there below falls left)

pub invariant_of-self : goal.invariant_of-self
invariant_of-self c =
    let page : c.from.result ≡ c.args.page = c.from.ensures in
    let there : in_gaps c.args.page c.self.inside.gaps.items ≡ true =
    c.self.invariant.0.free c.args.page c.ranges.page.fits ∙ ap (is_free c.args.page) c.self.view_is ∙ c.requires.free in
    let some : 0 < c.self.inside.room = rw (ap (λ v. v.room) c.self.view_is) c.requires.room in
    let rooms = c.self.invariant.1 in (
      taken_one c.self.inside.taken.items (c.self.inside.tables.items ++ c.self.inside.data_pages.items) c.push_reserved.new.self.items c.self.inside.gaps.items
          c.take_page-was_free.new.gaps.items c.args.page c.self.invariant.0 there c.ranges.page.fits c.take_page-was_free.ensures.loses.falling
          (λ m. c.take_page-was_free.ensures.loses.left m ∙ ap (λ n. in_gaps m c.self.inside.gaps.items && not (m == n)) page) c.push_reserved.ensures.items,
      record {
        for_tables = omega (arith, rooms.for_tables, c.push_reserved.ensures.len, some);
        for_data = omega (arith, rooms.for_data, c.push_reserved.ensures.len, some);
        for_taken = omega (arith, rooms.for_taken, c.push_reserved.ensures.len, c.push_reserved.ensures.capacity, some);
        for_gaps = omega (arith, rooms.for_gaps, c.push_reserved.ensures.len, c.take_page-was_free.ensures.grows.size, c.take_page-was_free.ensures.grows.capacity, some);
      },
    )
