use Rattle.disk_trait.proofs.SurvivorLemmas.{leaves_settled, settled_leaves, leaves_torn, leaves_only_torn}
use Rattle.disk_trait.proofs.laws.torn_writes_follow_the_rule.Goals as goal

pub returns-clause-sync : goal.returns-clause-sync
returns-clause-sync c settled left = (leaves_settled settled left, settled_leaves settled left)

pub returns-clause-write : goal.returns-clause-write
returns-clause-write c size settled ranges at n left begun within = (
  leaves_only_torn size settled ranges at n left begun within,
  λ (d, leaves, torn). leaves_torn size settled ranges at n d left leaves torn,
)
