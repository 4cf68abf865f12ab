use Rattle.std.proofs.Common.{◌≡◌, ℕ, ◌+◌, ◌-◌, ◌<◌, List, take, length, get_or, sym, ap, ◌∙◌, arith}
use Rattle.std.proofs.lemmas.List.{take_all}
use Rattle.page_file.specs.declared.gaps.Gap.{Gap}
use Rattle.page_file.specs.Gaps.{bottom}
use Rattle.page_file.proofs.GapLemmas.{bottom_at}
use Rattle.page_file.proofs.gaps.lowest.Goals as goal

last_start : (top : ℕ) (gs : List Gap) (d : Gap) → 0 < length gs → (get_or gs (length gs - 1) d).start ≡ bottom top gs
last_start top gs d some =
    let place : length gs - 1 + 1 ≡ length gs = omega (arith, some) in
    sym (bottom_at top (length gs - 1) gs d (omega (arith, some))) ∙ ap (λ k. bottom top (take k gs)) place ∙ ap (bottom top) (take_all (length gs) gs (omega arith))

pub returns : goal.returns
returns c = last_start 4294967296 c.args.gaps.now _ c.requires.some
