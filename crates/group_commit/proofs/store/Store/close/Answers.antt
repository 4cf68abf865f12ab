use Rattle.std.proofs.Common.{rules, ap, ◌∙◌, true, refl}
use Rattle.group_commit.proofs.store.Store.close.Goals as goal
use Rattle.group_commit.specs.declared.phase.Phase.TheVariants.{Close, Sync1}
use Rattle.group_commit.proofs.PagingLemmas.{paging_failed, paging_on}
use Rattle.group_commit.proofs.Sound.{sound_close}
use Rattle.group_commit.proofs.Doing.{reads_one, slots_whole}
use Rattle.group_commit.proofs.DeviceCall.{call_failed, call_made}

pub close_stale-requires : goal.close_stale-requires
close_stale-requires g c = record {
  whole = λ told. slots_whole g.D.DiskFacts _ c.self.inside.roots.slot _ _ c.self.invariant.0 told (g.met.D.Disk.lawful c.self.inside.disk told);
  reads_one = λ told. reads_one g.D.DiskFacts _ _ _ c.self.invariant.0 (ap (λ h. h.phase) c.self.view_is ∙ c.requires.phase) told (g.met.D.Disk.lawful c.self.inside.disk told);
}

pub invariant_of-self : goal.invariant_of-self
invariant_of-self g c = (
  sound_close g.D.DiskFacts _ c.self.inside.roots.slot _ _ true c.close_stale.new.disk c.self.invariant.0
      (ap (λ h. h.phase) c.self.view_is ∙ c.requires.phase)
      c.in-Err.ensures.writes.tells.0 (λ told. (c.in-Err.ensures.writes.writes told).torn) (λ told ok. absurd cc)
      (λ told. g.met.D.Disk.lawful c.self.inside.disk told) (ap (λ h. h.failed) c.self.view_is ∙ c.requires.works),
  c.self.invariant.1,
  paging_failed _ Close _ _ _ _ _ _ _ _ _ c.self.invariant.2 (ap (λ h. h.phase) c.self.view_is ∙ c.requires.phase) (λ is. absurd cc) refl refl,
)

pub invariant_of-self-in_default : goal.invariant_of-self-in_default
invariant_of-self-in_default g c = (
  sound_close g.D.DiskFacts _ c.self.inside.roots.slot _ _ c.self.inside.failed c.close_stale.new.disk c.self.invariant.0
      (ap (λ h. h.phase) c.self.view_is ∙ c.requires.phase)
      c.in_default.ensures.writes.tells.0 (λ told. (c.in_default.ensures.writes.writes told).torn) (λ told ok. (c.in_default.ensures.writes.writes told).written)
      (λ told. g.met.D.Disk.lawful c.self.inside.disk told) (ap (λ h. h.failed) c.self.view_is ∙ c.requires.works),
  c.self.invariant.1,
  paging_on _ Close Sync1 _ _ _ _ _ _ _ c.self.invariant.2 (ap (λ h. h.phase) c.self.view_is ∙ c.requires.phase) (λ is. absurd cc) refl (λ k is. absurd cc),
)

pub returns-in-Err : goal.returns-in-Err
returns-in-Err g c = record {
  call = call_failed g.D.DiskFacts Close _ _ _ _ c.self.inside.roots.slot c.self.inside.roots.slot _ _ c.self.view_is (ap (λ h. h.phase) c.self.view_is ∙ c.requires.phase) c.self.invariant.0
      (invariant_of-self g c).0 c.in-Err.ensures.writes.tells (λ told. (c.in-Err.ensures.writes.writes told).call) (λ told. g.met.D.Disk.lawful c.self.inside.disk told) refl (search rules)
      (λ told. record {
        is_one = reads_one g.D.DiskFacts _ _ _ c.self.invariant.0 (ap (λ h. h.phase) c.self.view_is ∙ c.requires.phase) told (g.met.D.Disk.lawful c.self.inside.disk told);
        writes = record { torn = (c.in-Err.ensures.writes.writes told).torn; written = tt; call = (c.in-Err.ensures.writes.writes told).call };
      });
}

pub returns : goal.returns
returns g c = record {
  call = call_made g.D.DiskFacts Close _ _ _ c.self.inside.roots.slot c.self.inside.roots.slot _ _ c.self.view_is (ap (λ h. h.phase) c.self.view_is ∙ c.requires.phase) c.self.invariant.0
      (invariant_of-self-in_default g c).0 c.in_default.ensures.writes.tells (λ told. (c.in_default.ensures.writes.writes told).call) (λ told. g.met.D.Disk.lawful c.self.inside.disk told) (search rules)
      (λ told. record {
        is_one = reads_one g.D.DiskFacts _ _ _ c.self.invariant.0 (ap (λ h. h.phase) c.self.view_is ∙ c.requires.phase) told (g.met.D.Disk.lawful c.self.inside.disk told);
        writes = record { torn = (c.in_default.ensures.writes.writes told).torn; written = (c.in_default.ensures.writes.writes told).written; call = (c.in_default.ensures.writes.writes told).call };
      });
}
