use Rattle.std.proofs.Common.{◌≡◌, ℕ, ◌+◌, ◌-◌, ◌<◌, List, take, length, get_or, sym, arith}
use Rattle.page_file.specs.declared.gaps.Gap.{Gap}
use Rattle.page_file.specs.Gaps.{bottom}
use Rattle.page_file.proofs.GapLemmas.{bottom_at}
use Rattle.page_file.proofs.gaps.place_of.Goals as goal

-- a page before the last of some ranges is below them
below_all : (top n passed : ℕ) (gs : List Gap) (d : Gap) → passed < length gs → n < (get_or gs (length gs - passed - 1) d).start → n < bottom top (take (length gs - passed) gs)
below_all top n passed gs d below before =
    let place : length gs - passed - 1 + 1 ≡ length gs - passed = omega (arith, below) in
    rw (sym place, bottom_at top (length gs - passed - 1) gs d (omega (arith, below))) before

pub returns-then-page-gaps-clause-above : goal.returns-then-page-gaps-clause-above
returns-then-page-gaps-clause-above c = below_all 4294967296 c.args.page c.loop-passed.passed c.args.gaps.now _ c.loop-passed-test.true c.if-page-gaps.true
