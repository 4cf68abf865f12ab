use Rattle.std.proofs.Common.{◌≡◌, ◌-◌, length, arith, rules}
use Rattle.page_file.proofs.GapLemmas.{TakesLowest, takes_lowest, starts_below}
use Rattle.page_file.proofs.gaps.take_lowest.Goals as goal

pub overflow_add-gap : goal.overflow_add-gap
overflow_add-gap c =
    let size : c.len-at.result ≡ length c.args.gaps.now.items = search rules in
    let below = starts_below (c.len-at.result - 1) c.args.gaps.now.items c.remove-gap.result c.requires.falling (omega (arith, size, c.requires.some)) c.remove-gap.ensures.value in
    record { fits = omega (arith, below) }

of : (c : goal.After-put_gap) → TakesLowest c.args.gaps.now.items c.put_gap.new.gaps.items c.remove-gap.result.start
of c =
    let size : c.len-at.result ≡ length c.args.gaps.now.items = search rules in
    takes_lowest (c.len-at.result - 1) c.args.gaps.now.items c.remove-gap.new.self.items c.put_gap.new.gaps.items c.remove-gap.result
    c.requires.falling (omega (arith, size, c.requires.some)) c.remove-gap.ensures.value c.remove-gap.ensures.by_index.2 c.put_gap.ensures.items

pub returns-clause-lowest : goal.returns-clause-lowest
returns-clause-lowest c = (of c).lowest

pub returns-clause-loses : goal.returns-clause-loses
returns-clause-loses c = record { falling = (of c).falling; left = (of c).left }
