use Rattle.web_guests.proofs.StatingLemmas.{values_more}
use Rattle.web_guests.proofs.stated.Stated.of.Goals as goal

pub loop-span-preserved : goal.loop-span-preserved
loop-span-preserved c =
    rw (values_more c.args.head.now c.args.name.now c.args.spans.now c.loop-span.span-index c.loop-span-test.true)
    (c.and-stated.ensures _ c.loop-span.invariant)
