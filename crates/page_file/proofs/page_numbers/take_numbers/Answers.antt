use Rattle.std.proofs.Common.{arith, ap, length, length-drop}
use Rattle.page_file.proofs.NumberLemmas.{numbers_on}
use Rattle.page_file.proofs.page_numbers.take_numbers.Goals as goal

pub loop-preserved : goal.loop-preserved
loop-preserved c =
    let at = c.loop in
    let taken = c.take_number-number.ensures in
    record {
      items = rw (c.push_reserved.ensures.items, taken.first, taken.rest) (numbers_on at.found.items c.args.count at.counter at.rest.now _ c.loop-test.true at.invariant.items);
      room = omega (arith, c.push_reserved.ensures.len, c.push_reserved.ensures.capacity, at.invariant.room, c.loop-test.true);
      left = omega (arith, ap length taken.rest, length-drop 4 at.rest.now, at.invariant.left, c.loop-test.true);
    }
