use Rattle.std.proofs.Common.{◌≤◌, ◌+◌, ◌*◌, arith, drop, take, suc}
use Rattle.text_search.specs.Ends.{IsLongest}
use Rattle.text_search.proofs.EndLemmas.{border_after, borders_more, first_border}
use Rattle.text_search.proofs.borders.borders.Goals.{then-i-gt0, else-i-gt0}
use Rattle.text_search.proofs.borders.borders.Goals as goal

pub next-count-requires-clause-borders : goal.next-count-requires-clause-borders
next-count-requires-clause-borders c = rw c.deref.ensures.value c.loop-i.invariant.0

pub loop-i-preserved : goal.loop-i-preserved
loop-i-preserved c =
    let (are, long, longest, steps) = c.loop-i.invariant in
    let known : IsLongest c.args.sought.now (drop 1 (take (suc c.loop-i.i) c.args.sought.now)) c.if-i-gt0.count =
    elim c.if-i-gt0.branch [
      | then-i-gt0 w ↦ rw w.count-is (border_after c.args.sought.now c.loop-i.i w.index-sought-i.result w.next-count.result (omega arith) (omega arith)
          w.index-sought-i.is (w.next-count.ensures.longest _ longest))
      | else-i-gt0 w ↦ rw w.count-is (first_border c.args.sought.now c.loop-i.i c.loop-i.count (omega arith) (omega arith) longest)
    ] in
    let counted : c.if-i-gt0.ticks + c.if-i-gt0.count ≤ c.args.ticks.now + 2 * (c.loop-i.i + 1) =
    elim c.if-i-gt0.branch [
      | then-i-gt0 w ↦ omega (arith, steps, w.next-count.ensures.ticks, w.ticks-is, w.count-is)
      | else-i-gt0 w ↦ omega (arith, steps, w.ticks-is, w.count-is)
    ] in
    let (are_more, long_more, longest_more) = borders_more c.args.sought.now c.loop-i.found.items c.push.new.self.items c.loop-i.i c.if-i-gt0.count
    are long (omega arith) known c.in_ok-push.ensures.items in
    (are_more, long_more, longest_more, counted)
