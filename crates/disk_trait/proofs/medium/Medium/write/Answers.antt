use Rattle.std.proofs.Common.{◌≡◌, ◌∷◌, ◌++◌, [], length, max, ◌+◌, arith, rules, ap, ◌∙◌}
use Rattle.disk_trait.proofs.FileLemmas.{length-overwritten}
use Rattle.disk_trait.proofs.SurvivorLemmas.{reads_leave, ranges_within}
use Rattle.disk_trait.proofs.medium.Medium.write.Goals as goal

pub invariant_of-self-clause-reads_survive : goal.invariant_of-self-clause-reads_survive
invariant_of-self-clause-reads_survive c =
    let pushed : c.push.new.self.items ≡ c.args.self.now.unsettled.items ++ (c.args.at, length c.args.bytes.now) ∷ [] = search rules in
    rw (c.overwrite.ensures.written, pushed) (reads_leave _ _ _ _ _ c.requires.within c.args.self.now.reads_survive)

pub invariant_of-self-clause-ranges_within : goal.invariant_of-self-clause-ranges_within
invariant_of-self-clause-ranges_within c =
    let pushed : c.push.new.self.items ≡ c.args.self.now.unsettled.items ++ (c.args.at, length c.args.bytes.now) ∷ [] = search rules in
    let size : length c.overwrite.new.file.items ≡ max (length c.args.self.now.bytes.items) (c.args.at + length c.args.bytes.now) =
    ap length c.overwrite.ensures.written ∙ length-overwritten _ _ _ c.requires.within in
    rw pushed (ranges_within _ _ _ _ _ c.args.self.now.ranges_within (omega arith) (omega arith))
