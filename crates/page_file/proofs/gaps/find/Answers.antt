use Rattle.std.proofs.Common.{◌≡◌, ℕ, ◌+◌, ◌-◌, ◌<◌, List, false, true, ◌||◌, take, drop, length, get_or, sym, ap, ◌∙◌, arith}
use Rattle.std.proofs.lemmas.List.{take-append-drop}
use Rattle.page_file.specs.declared.gaps.Gap.{Gap}
use Rattle.page_file.specs.Gaps.{in_gaps, are_falling}
use Rattle.page_file.proofs.GapLemmas.{in-append, none_up_to}
use Rattle.page_file.proofs.gaps.find.Goals as goal

-- a page before the next range is in none
in_none : (n passed : ℕ) (gs : List Gap) (d : Gap) → are_falling 4294967296 gs ≡ true → passed < length gs → in_gaps n (drop (length gs - passed) gs) ≡ false
    → n < (get_or gs (length gs - passed - 1) d).start → in_gaps n gs ≡ false
in_none n passed gs d falls below lacks before =
    let place : length gs - passed - 1 + 1 ≡ length gs - passed = omega (arith, below) in
    let front : in_gaps n (take (length gs - passed) gs) ≡ false =
    ap (λ k. in_gaps n (take k gs)) (sym place) ∙ none_up_to 4294967296 n (length gs - passed - 1) gs d (omega (arith, below)) falls before in
    ap (in_gaps n) (sym (take-append-drop (length gs - passed) gs)) ∙ in-append n (take (length gs - passed) gs) (drop (length gs - passed) gs)
    ∙ rw (front, lacks) refl_false
  where
    refl_false : (false || false) ≡ false
    refl_false = λ i. false

pub returns-then-page-gap : goal.returns-then-page-gap
returns-then-page-gap c = in_none c.args.page c.loop-passed.passed c.args.gaps.now _ c.requires.falling c.loop-passed-test.true c.loop-passed.invariant c.if-page-gap.true
