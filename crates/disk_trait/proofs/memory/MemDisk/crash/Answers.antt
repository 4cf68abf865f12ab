use Rattle.disk_trait.proofs.CrashLemmas.{left_may_be_left}
use Rattle.disk_trait.proofs.SurvivorLemmas.{settles}
use Rattle.disk_trait.proofs.memory.MemDisk.crash.Goals as goal

pub returns-clause-survived : goal.returns-clause-survived
returns-clause-survived c =
    let medium = c.args.self.now.medium in
    rw c.crash.ensures.left (left_may_be_left c.args.fate c.args.grown _ _ _ medium.reads_survive medium.ranges_within)

pub returns-clause-settled : goal.returns-clause-settled
returns-clause-settled c left leaves = settles _ _ _ left c.crash.ensures.settled c.crash.ensures.unsettled leaves
