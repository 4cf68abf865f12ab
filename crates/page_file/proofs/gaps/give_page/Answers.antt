use Rattle.std.proofs.Common.{◌≡◌, ℕ, ◌+◌, ◌<◌, ◌++◌, ◌==◌, Bool, List, true, false, ◌||◌, take, drop, sym, ap, ◌∙◌}
use Rattle.std.proofs.lemmas.List.{take-append-drop}
use Rattle.page_file.specs.declared.gaps.Gap.{Gap}
use Rattle.page_file.specs.Gaps.{in_gaps, are_falling, begins_by, bottom, between}
use Rattle.page_file.proofs.GapLemmas.{in-append, given_falls, given_more}
use Rattle.page_file.proofs.gaps.give_page.Goals as goal

-- the ranges behind a place lack what all of them lack
back_lacks : (n at : ℕ) (gs : List Gap) → in_gaps n gs ≡ false → in_gaps n (drop at gs) ≡ false
back_lacks n at gs lacks = second (in_gaps n (take at gs)) (in_gaps n (drop at gs)) (sym (in-append n (take at gs) (drop at gs)) ∙ ap (in_gaps n) (take-append-drop at gs) ∙ lacks)
  where
    second : (a b : Bool) → (a || b) ≡ false → b ≡ false
    second true b is = absurd cc
    second false b is = is

given_in : (n at : ℕ) (seen gs new : List Gap) → seen ≡ gs → are_falling 4294967296 gs ≡ true → in_gaps n gs ≡ false → n < bottom 4294967296 (take at seen) → begins_by n (drop at seen) ≡ true
    → new ≡ take at gs ++ (between n (n + 1) ++ drop at gs) → are_falling 4294967296 new ≡ true
given_in n at seen gs new same falls lacks above below made =
    ap (are_falling 4294967296) made
    ∙ given_falls 4294967296 n (take at gs) (drop at gs) (ap (are_falling 4294967296) (take-append-drop at gs) ∙ falls)
    (rw (same) at above) (ap (λ xs. begins_by n (drop at xs)) (sym same) ∙ below) (back_lacks n at gs lacks)

more_in : (n at : ℕ) (gs new : List Gap) → new ≡ take at gs ++ (between n (n + 1) ++ drop at gs) → (m : ℕ) → in_gaps m new ≡ (in_gaps m gs || m == n)
more_in n at gs new made m =
    ap (in_gaps m) made ∙ given_more n (take at gs) (drop at gs) m ∙ ap (λ xs. in_gaps m xs || m == n) (take-append-drop at gs)

pub returns-clause-gains : goal.returns-clause-gains
returns-clause-gains c = record {
  falling = given_in c.args.page c.place_of-at.result c.deref.result.now c.args.gaps.now.items c.put_gap.new.gaps.items c.deref.ensures.value
      c.requires.falling c.requires.lacks c.place_of-at.ensures.above c.place_of-at.ensures.below c.put_gap.ensures.items;
  more = more_in c.args.page c.place_of-at.result c.args.gaps.now.items c.put_gap.new.gaps.items c.put_gap.ensures.items;
}
