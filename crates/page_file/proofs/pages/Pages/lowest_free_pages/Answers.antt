use Rattle.std.proofs.Common.{◌≡◌, ℕ, ◌+◌, ◌<◌, ◌≤◌, ◌++◌, ◌∷◌, ◌==◌, ◌&&◌, not, true, [], List, length, ap, ◌∙◌, arith, length-append}
use Rattle.page_file.specs.declared.gaps.Gap.{Gap}
use Rattle.page_file.specs.Free.{AreLowest, IsLowestFree}
use Rattle.page_file.specs.Gaps.{in_gaps, are_falling, bottom}
use Rattle.page_file.specs.Index.{AreOthers, used}
use Rattle.page_file.proofs.GapLemmas.{has_bottom}
use Rattle.page_file.proofs.IndexLemmas.{some_free, lowest_below, lowest_is, others_less, lowest_more}
use Rattle.page_file.proofs.pages.Pages.lowest_free_pages.Goals as goal

-- there are ranges left
some_left : (used found : List ℕ) (gaps : List Gap) (count done : ℕ) → AreOthers (found ++ used) gaps → length found ≡ done → done < count
    → length used + count ≤ 1073741824 → 0 < length gaps
some_left used found gaps count done others counted more few =
    some_free (found ++ used) gaps others (omega (arith, length-append found used, counted, more, few))

record Step (used found new_found : List ℕ) (new : List Gap) (n : ℕ) : Type 0 where
  others : AreOthers (new_found ++ used) new
  lowest : AreLowest used new_found
  below : n < 4294967296

step : (used found new_found : List ℕ) (gaps new : List Gap) (n : ℕ) → AreOthers (found ++ used) gaps → AreLowest used found → 0 < length gaps
    → n ≡ bottom 4294967296 gaps → are_falling 4294967296 new ≡ true → ((m : ℕ) → in_gaps m new ≡ (in_gaps m gaps && not (m == n))) → new_found ≡ found ++ n ∷ []
    → Step used found new_found new n
step used found new_found gaps new n others lowest some is falls left made =
    let below : n < 4294967296 = rw (is) (lowest_below gaps others.falling some) in
    let there : in_gaps n gaps ≡ true = rw (is) (has_bottom 4294967296 gaps others.falling some) in
    let found_lowest : IsLowestFree (found ++ used) n = rw (is) (lowest_is (found ++ used) gaps others some) in
    record {
      others = rw (made) (others_less found used gaps new n others there below falls left);
      lowest = rw (made) (lowest_more used found n lowest (λ m behind under. found_lowest.lowest m behind under));
      below = below;
    }

pub take_lowest-page-requires-clause-some : goal.take_lowest-page-requires-clause-some
take_lowest-page-requires-clause-some c =
    some_left (used c.args.self.now) c.loop.found.items c.loop.gaps.items c.args.count c.loop.counter c.loop.invariant.others c.loop.invariant.count c.loop-test.true c.requires.few

pub overflow_cast-page : goal.overflow_cast-page
overflow_cast-page c =
    let some = some_left (used c.args.self.now) c.loop.found.items c.loop.gaps.items c.args.count c.loop.counter c.loop.invariant.others c.loop.invariant.count c.loop-test.true c.requires.few in
    record { fits = omega (arith, c.take_lowest-page.ensures.lowest, lowest_below c.loop.gaps.items c.loop.invariant.others.falling some) }

pub loop-preserved : goal.loop-preserved
loop-preserved c =
    let some = some_left (used c.args.self.now) c.loop.found.items c.loop.gaps.items c.args.count c.loop.counter c.loop.invariant.others c.loop.invariant.count c.loop-test.true c.requires.few in
    let next = step (used c.args.self.now) c.loop.found.items c.push_reserved.new.self.items c.loop.gaps.items c.take_lowest-page.new.gaps.items c.take_lowest-page.result
    c.loop.invariant.others c.loop.invariant.lowest some c.take_lowest-page.ensures.lowest c.take_lowest-page.ensures.loses.falling c.take_lowest-page.ensures.loses.left c.push_reserved.ensures.items in
    record {
      others = next.others;
      lowest = next.lowest;
      count = ap length c.push_reserved.ensures.items ∙ length-append c.loop.found.items (c.take_lowest-page.result ∷ []) ∙ ap (λ n. n + 1) c.loop.invariant.count;
      room = rw (c.push_reserved.ensures.capacity) c.loop.invariant.room;
    }
