use Rattle.std.proofs.Common.{rules, refl, ap, ◌∙◌}
use Rattle.group_commit.proofs.store.Store.sync2.Goals as goal
use Rattle.group_commit.specs.declared.phase.Phase.TheVariants.{Sync2, Gate}
use Rattle.group_commit.proofs.PagingLemmas.{paging_failed, paging_on}
use Rattle.group_commit.proofs.Sound.{sound_sync2, sound_sync_failed}
use Rattle.group_commit.proofs.DeviceCall.{call_failed, call_made}

pub invariant_of-self : goal.invariant_of-self
invariant_of-self g c = (
  sound_sync_failed g.D.DiskFacts _ c.self.inside.roots.slot _ _ c.sync.new.disk c.self.invariant.0 c.in-Err.ensures.syncs.tells.0 c.in-Err.ensures.syncs.unsettled,
  c.self.invariant.1,
  paging_failed _ Sync2 _ _ _ _ _ _ _ _ _ c.self.invariant.2 (ap (λ h. h.phase) c.self.view_is ∙ c.requires.phase) (λ is. absurd cc) refl refl,
)

pub invariant_of-self-2 : goal.invariant_of-self-2
invariant_of-self-2 g c = (
  sound_sync2 g.D.DiskFacts _ c.self.inside.roots.slot _ _ c.sync.new.disk c.self.invariant.0
      (ap (λ h. h.phase) c.self.view_is ∙ c.requires.phase)
      c.in_default.ensures.syncs.tells.0 c.in_default.ensures.syncs.settled
      (λ told. g.met.D.Disk.lawful c.self.inside.disk told) (ap (λ h. h.failed) c.self.view_is ∙ c.requires.works),
  c.self.invariant.1,
  paging_on _ Sync2 Gate _ _ _ _ _ _ _ c.self.invariant.2 (ap (λ h. h.phase) c.self.view_is ∙ c.requires.phase) (λ is. absurd cc) refl (λ k is. absurd cc),
)

pub returns-in-Err : goal.returns-in-Err
returns-in-Err g c = record {
  call = call_failed g.D.DiskFacts Sync2 _ _ _ _ c.self.inside.roots.slot c.self.inside.roots.slot _ _ c.self.view_is (ap (λ h. h.phase) c.self.view_is ∙ c.requires.phase) c.self.invariant.0
      (invariant_of-self g c).0 c.in-Err.ensures.syncs.tells c.in-Err.ensures.syncs.call (λ told. g.met.D.Disk.lawful c.self.inside.disk told) c.in-Err.ensures.refused (search rules)
      (λ told. record { settled = tt; unsettled = c.in-Err.ensures.syncs.unsettled told });
}

pub returns : goal.returns
returns g c = record {
  call = call_made g.D.DiskFacts Sync2 _ _ _ c.self.inside.roots.slot c.self.inside.roots.slot _ _ c.self.view_is (ap (λ h. h.phase) c.self.view_is ∙ c.requires.phase) c.self.invariant.0
      (invariant_of-self-2 g c).0 c.in_default.ensures.syncs.tells c.in_default.ensures.syncs.call (λ told. g.met.D.Disk.lawful c.self.inside.disk told) (search rules)
      (λ told. record { settled = c.in_default.ensures.syncs.settled told; unsettled = tt });
}
