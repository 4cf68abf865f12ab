use Rattle.std.proofs.Common.{◌≡◌, ℕ, ◌+◌, ◌<◌, ◌≤◌, ◌++◌, ◌∷◌, ◌==◌, ◌&&◌, not, List, true, take, drop, length, get_or, sym, ap, ◌∙◌, arith}
use Rattle.std.proofs.lemmas.List.{take_at, drop_at, length-take-le}
use Rattle.page_file.specs.declared.gaps.Gap.{Gap}
use Rattle.page_file.specs.Gaps.{in_gaps, are_falling, between}
use Rattle.page_file.proofs.GapLemmas.{range_at, parted, split_falls, split_has, split_leaves}
use Rattle.page_file.proofs.gaps.split.Goals as goal

-- two puts at the place that was emptied
put_twice : (at n : ℕ) (gs gone once twice : List Gap) (g : Gap) → at < length gs → gone ≡ take at gs ++ drop (at + 1) gs
    → once ≡ take at gone ++ (between g.start n ++ drop at gone) → twice ≡ take at once ++ (between (n + 1) g.end ++ drop at once)
    → twice ≡ take at gs ++ (between (n + 1) g.end ++ (between g.start n ++ drop (at + 1) gs))
put_twice at n gs gone once twice g within is first second =
    let front : length (take at gs) ≡ at = length-take-le at gs (omega (arith, within)) in
    let gone_front : take at gone ≡ take at gs = ap (take at) is ∙ take_at (take at gs) (drop (at + 1) gs) at front in
    let gone_back : drop at gone ≡ drop (at + 1) gs = ap (drop at) is ∙ drop_at (take at gs) (drop (at + 1) gs) at front in
    let once_is : once ≡ take at gs ++ (between g.start n ++ drop (at + 1) gs) = first ∙ ap (λ a. a ++ (between g.start n ++ drop at gone)) gone_front ∙ ap (λ b. take at gs ++ (between g.start n ++ b)) gone_back in
    let once_front : take at once ≡ take at gs = ap (take at) once_is ∙ take_at (take at gs) (between g.start n ++ drop (at + 1) gs) at front in
    let once_back : drop at once ≡ between g.start n ++ drop (at + 1) gs = ap (drop at) once_is ∙ drop_at (take at gs) (between g.start n ++ drop (at + 1) gs) at front in
    second ∙ ap (λ a. a ++ (between (n + 1) g.end ++ drop at once)) once_front ∙ ap (λ b. take at gs ++ (between (n + 1) g.end ++ b)) once_back

record Splits (n : ℕ) (gs new : List Gap) : Type 0 where
  found : in_gaps n gs ≡ true
  falling : are_falling 4294967296 new ≡ true
  left : (m : ℕ) → in_gaps m new ≡ (in_gaps m gs && not (m == n))

splits : (at n : ℕ) (gs gone once twice : List Gap) (g : Gap) → are_falling 4294967296 gs ≡ true → in_gaps n (take 1 (drop at gs)) ≡ true
    → g ≡ get_or gs at g → gone ≡ take at gs ++ drop (at + 1) gs
    → once ≡ take at gone ++ (between g.start n ++ drop at gone) → twice ≡ take at once ++ (between (n + 1) g.end ++ drop at once)
    → Splits n gs twice
splits at n gs gone once twice g falls has value is first second =
    let stands = range_at n at gs g has in
    let part : gs ≡ take at gs ++ g ∷ drop (at + 1) gs = parted at gs g stands.0 ∙ ap (λ x. take at gs ++ x ∷ drop (at + 1) gs) (sym value) in
    let made = put_twice at n gs gone once twice g stands.0 is first second in
    let behind : g.start ≤ n = rw (value) stands.1 in
    let before : n < g.end = rw (value) stands.2 in
    let falls_in : are_falling 4294967296 (take at gs ++ g ∷ drop (at + 1) gs) ≡ true = ap (are_falling 4294967296) (sym part) ∙ falls in
    record {
      found = ap (in_gaps n) part ∙ split_has 4294967296 n (take at gs) (drop (at + 1) gs) g falls_in behind before;
      falling = ap (are_falling 4294967296) made ∙ split_falls 4294967296 n (take at gs) (drop (at + 1) gs) g falls_in behind before;
      left = λ m. ap (in_gaps m) made ∙ split_leaves 4294967296 n (take at gs) (drop (at + 1) gs) g falls_in behind before m
          ∙ ap (λ xs. in_gaps m xs && not (m == n)) (sym part);
    }

of : (c : goal.After-put_gap-2) → Splits c.args.page c.args.gaps.now.items c.put_gap-2.new.gaps.items
of c =
    splits c.args.at c.args.page c.args.gaps.now.items c.remove-gap.new.self.items c.put_gap.new.gaps.items c.put_gap-2.new.gaps.items c.remove-gap.result
    c.requires.falling c.requires.has c.remove-gap.ensures.value c.remove-gap.ensures.by_index.2 c.put_gap.ensures.items c.put_gap-2.ensures.items

pub returns-clause-found : goal.returns-clause-found
returns-clause-found c = (of c).found

pub returns-clause-loses : goal.returns-clause-loses
returns-clause-loses c = record { falling = (of c).falling; left = (of c).left }
