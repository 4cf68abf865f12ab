use Rattle.std.proofs.Common.{◌≡◌, ◌∙◌, arith, sym, false, true≢false, ◌≤◌, length}
use Rattle.text_search.specs.Ends.{fits}
use Rattle.text_search.proofs.EndLemmas.{border_less, tries_border, one_longer, none_left}
use Rattle.text_search.proofs.next.next.Goals.{then-loop-k-test+else-not-fits, else-loop-k-test}
use Rattle.text_search.proofs.next.next.Goals as goal

pub loop-k-init : goal.loop-k-init
loop-k-init c = (omega arith, omega (arith, c.tick.ensures), λ read longest. (longest.0, λ more end above. let most = longest.1 more end in absurd (omega (arith, most, above))))

pub loop-k-smaller : goal.loop-k-smaller
loop-k-smaller c =
    border_less c.args.sought.now c.args.borders.now c.loop-k.k c.requires.borders (omega arith)
    (let less = c.loop-k.invariant.0 in omega (arith, less, c.requires.known))

pub loop-k-preserved : goal.loop-k-preserved
loop-k-preserved c =
    let (less, steps, known) = c.loop-k.invariant in
    let within : c.loop-k.k ≤ length c.args.borders.now = omega (arith, less, c.requires.known) in
    let shorter = border_less c.args.sought.now c.args.borders.now c.loop-k.k c.requires.borders (omega arith) within in
    let not_this : fits c.args.sought.now c.loop-k.k c.args.character ≡ false = sym c.fits.ensures ∙ c.if-not-fits.true in (
      omega (arith, less, shorter),
      omega (arith, steps, shorter, c.tick-in-loop-k.ensures),
      λ read longest. tries_border c.args.sought.now c.args.borders.now read c.loop-k.k c.args.character c.requires.borders (omega arith) within
          not_this (known read longest),
    )

pub returns-then-fits-clause-longest : goal.returns-then-fits-clause-longest
returns-then-fits-clause-longest c = λ read longest.
    one_longer c.args.sought.now read c.loop-k.k c.args.character (sym c.fits-2.ensures ∙ c.if-fits.true) (c.loop-k.invariant.2 read longest)

pub returns-else-fits-clause-longest : goal.returns-else-fits-clause-longest
returns-else-fits-clause-longest c = λ read longest.
    elim c.loop-k-test.branch [
      | then-loop-k-test+else-not-fits w ↦ absurd (true≢false (sym w.if-not-fits.false ∙ w.fits.ensures ∙ sym c.fits-2.ensures ∙ c.if-fits.false))
      | else-loop-k-test w ↦ none_left c.args.sought.now read c.loop-k.k c.args.character (omega arith) (sym c.fits-2.ensures ∙ c.if-fits.false)
          (c.loop-k.invariant.2 read longest)
    ]
