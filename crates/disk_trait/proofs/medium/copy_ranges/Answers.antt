use Rattle.std.proofs.Common.{◌≡◌, ℕ, List, ◌+◌, drop, get_or, subst}
use Rattle.std.proofs.lemmas.List.{drop_all, drop_more}
use Rattle.disk_trait.specs.Survivors.{Range, IsSameOutside}
use Rattle.disk_trait.proofs.SurvivorLemmas.{none_left_out, range_copied}
use Rattle.disk_trait.proofs.medium.copy_ranges.Goals as goal

pub loop-range-preserved : goal.loop-range-preserved
loop-range-preserved c =
    let ranges : List Range = c.args.ranges.now in
    let here = c.loop-range.range-index in
    let inside = c.requires.within here (0, 0) c.loop-range-test.true in
    let left = subst (λ rest. IsSameOutside rest c.loop-range.file c.args.bytes.now) (drop_more ranges here (0, 0) c.loop-range-test.true) c.loop-range.invariant in
    rw c.copy_range.ensures (range_copied (drop (here + 1) ranges) (get_or ranges here (0, 0)) c.loop-range.file c.args.bytes.now inside left)

pub returns : goal.returns
returns c =
    let all = subst (λ rest. IsSameOutside rest c.loop-range.file c.args.bytes.now) (drop_all c.loop-range.range-index c.args.ranges.now c.loop-range-test.false) c.loop-range.invariant in
    record { same = none_left_out c.loop-range.file c.args.bytes.now all }
