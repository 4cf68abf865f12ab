use Rattle.std.proofs.Common.{rules, ap, ◌∙◌, true, refl}
use Rattle.group_commit.proofs.store.Store.gate.Goals as goal
use Rattle.group_commit.specs.declared.phase.Phase.TheVariants.{Gate, Sync3}
use Rattle.group_commit.proofs.PagingLemmas.{paging_failed, paging_on}
use Rattle.group_commit.proofs.Sound.{sound_gate}
use Rattle.group_commit.proofs.Doing.{slots_whole}
use Rattle.group_commit.proofs.DeviceCall.{call_failed, call_made}

pub open_gate-requires : goal.open_gate-requires
open_gate-requires g c = record {
  whole = λ told. slots_whole g.D.DiskFacts _ c.self.inside.roots.slot _ _ c.self.invariant.0 told (g.met.D.Disk.lawful c.self.inside.disk told);
}

pub invariant_of-self : goal.invariant_of-self
invariant_of-self g c = (
  sound_gate g.D.DiskFacts _ c.self.inside.roots.slot _ _ true c.open_gate.new.disk c.self.invariant.0
      (ap (λ h. h.phase) c.self.view_is ∙ c.requires.phase)
      c.in-Err.ensures.writes.tells.0 (λ told. (c.in-Err.ensures.writes.writes told).torn) (λ told ok. absurd cc)
      (λ told. g.met.D.Disk.lawful c.self.inside.disk told),
  c.self.invariant.1,
  paging_failed _ Gate _ _ _ _ _ _ _ _ _ c.self.invariant.2 (ap (λ h. h.phase) c.self.view_is ∙ c.requires.phase) (λ is. absurd cc) refl refl,
)

pub invariant_of-self-in_default : goal.invariant_of-self-in_default
invariant_of-self-in_default g c = (
  sound_gate g.D.DiskFacts _ c.self.inside.roots.slot _ _ c.self.inside.failed c.open_gate.new.disk c.self.invariant.0
      (ap (λ h. h.phase) c.self.view_is ∙ c.requires.phase)
      c.in_default.ensures.writes.tells.0 (λ told. (c.in_default.ensures.writes.writes told).torn) (λ told ok. (c.in_default.ensures.writes.writes told).written)
      (λ told. g.met.D.Disk.lawful c.self.inside.disk told),
  c.self.invariant.1,
  paging_on _ Gate Sync3 _ _ _ _ _ _ _ c.self.invariant.2 (ap (λ h. h.phase) c.self.view_is ∙ c.requires.phase) (λ is. absurd cc) refl (λ k is. absurd cc),
)

pub returns-in-Err : goal.returns-in-Err
returns-in-Err g c = record {
  call = call_failed g.D.DiskFacts Gate _ _ _ _ c.self.inside.roots.slot c.self.inside.roots.slot _ _ c.self.view_is (ap (λ h. h.phase) c.self.view_is ∙ c.requires.phase) c.self.invariant.0
      (invariant_of-self g c).0 c.in-Err.ensures.writes.tells (λ told. (c.in-Err.ensures.writes.writes told).call) (λ told. g.met.D.Disk.lawful c.self.inside.disk told) refl (search rules)
      (λ told. record { torn = (c.in-Err.ensures.writes.writes told).torn; written = tt; call = (c.in-Err.ensures.writes.writes told).call });
}

pub returns : goal.returns
returns g c = record {
  call = call_made g.D.DiskFacts Gate _ _ _ c.self.inside.roots.slot c.self.inside.roots.slot _ _ c.self.view_is (ap (λ h. h.phase) c.self.view_is ∙ c.requires.phase) c.self.invariant.0
      (invariant_of-self-in_default g c).0 c.in_default.ensures.writes.tells (λ told. (c.in_default.ensures.writes.writes told).call) (λ told. g.met.D.Disk.lawful c.self.inside.disk told) (search rules)
      (λ told. record { torn = (c.in_default.ensures.writes.writes told).torn; written = (c.in_default.ensures.writes.writes told).written; call = (c.in_default.ensures.writes.writes told).call });
}
