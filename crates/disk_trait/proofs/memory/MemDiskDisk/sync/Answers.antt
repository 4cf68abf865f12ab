use Rattle.std.proofs.Common.{◌≡◌, [], rules}
use Rattle.disk_trait.proofs.SurvivorLemmas.{settles}
use Rattle.disk_trait.proofs.memory.MemDiskDisk.sync.Goals as goal

pub returns-clause-settled : goal.returns-clause-settled
returns-clause-settled c =
    let settled : c.settle.new.self.settled.items ≡ c.settle.new.self.bytes.items = search rules in
    let ranges : c.settle.new.self.unsettled.items ≡ [] = search rules in
    let same : c.settle.new.self.bytes.items ≡ c.args.self.now.medium.bytes.items = search rules in
    record { same = same; only = λ left leaves. settles _ _ _ left settled ranges leaves }
