use Rattle.std.proofs.Common.{◌≡◌, arith, ap, ◌∙◌, nat_eq, nat_lt, false, length}
use Rattle.std.proofs.lemmas.Bool.Decides.{nat_tests}
use Rattle.text_search.proofs.EndLemmas.{fits_is, fits_not}
use Rattle.text_search.proofs.next.fits.Goals as goal

pub returns-then-count-sought : goal.returns-then-count-sought
returns-then-count-sought c =
    ap (λ x. nat_eq x c.args.character) c.index-sought-count.is
    ∙ fits_is c.args.sought.now c.args.count c.args.character c.index-sought-count.result (omega arith)

pub returns-else-count-sought : goal.returns-else-count-sought
returns-else-count-sought c =
    let past : nat_lt c.args.count (length c.args.sought.now) ≡ false = grind (arith, nat_tests) in
    past ∙ fits_not c.args.sought.now c.args.count c.args.character (omega arith)
