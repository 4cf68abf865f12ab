use Rattle.std.proofs.Common.{rules, refl, ap, sym, ◌≡◌, ◌≢◌, ℕ, List, length, ◌∙◌, true}
use Rattle.disk_trait.specs.File.{overwritten}
use Rattle.disk_trait.specs.Calls.{Tears}
use Rattle.disk_trait.specs.declared.facts.DiskFacts.{Ghosts}
use Rattle.group_commit.specs.declared.phase.Phase.{Phase}
use Rattle.group_commit.specs.declared.phase.Phase.TheVariants.{Idle, Body, Sync2}
use Rattle.group_commit.proofs.store.Store.body.Goals as goal
use Rattle.group_commit.proofs.PagingLemmas.{paging_failed, paging_on}
use Rattle.group_commit.proofs.Sound.{sound_body}
use Rattle.group_commit.proofs.Doing.{slots_whole}
use Rattle.group_commit.proofs.DeviceCall.{call_failed, call_made}

not_idle : (p : Phase) → p ≡ Body → p ≢ Idle
not_idle p is idle = cc

sized : {D : Type 0} {facts : Ghosts D} {at : ℕ} {old new : D} (bytes : List ℕ) → length bytes ≡ 4088 → Tears facts at (length bytes) old new
    → Tears facts at 4088 old new
sized bytes size tears = rw (sym size) tears

of_bytes : {D : Type 0} {facts : Ghosts D} {at : ℕ} {old new : D} {bytes bytes' : List ℕ} → bytes ≡ bytes'
    → Tears facts at (length bytes) old new → Tears facts at (length bytes') old new
of_bytes same tears = rw (sym same) tears

pub put_body-requires : goal.put_body-requires
put_body-requires g c = record {
  whole = λ told. slots_whole g.D.DiskFacts _ c.self.inside.roots.slot _ _ c.self.invariant.0 told (g.met.D.Disk.lawful c.self.inside.disk told);
  long = c.body.ensures.whole;
}

pub invariant_of-self : goal.invariant_of-self
invariant_of-self g c = (
  sound_body g.D.DiskFacts _ c.self.inside.roots.slot _ _ true c.put_body.new.disk c.self.invariant.0
      (ap (λ h. h.phase) c.self.view_is ∙ c.requires.phase)
      c.in-Err.ensures.writes.tells.0 (λ told. sized c.body.result.now (ap length c.body.ensures.bytes ∙ (c.self.invariant.0.plan (not_idle _ (ap (λ h. h.phase) c.self.view_is ∙ c.requires.phase))).size) ((c.in-Err.ensures.writes.writes told).torn)) (λ told ok. absurd cc)
      (λ told. g.met.D.Disk.lawful c.self.inside.disk told),
  c.self.invariant.1,
  paging_failed _ Body _ _ _ _ _ _ _ _ _ c.self.invariant.2 (ap (λ h. h.phase) c.self.view_is ∙ c.requires.phase) (λ is. absurd cc) refl refl,
)

pub invariant_of-self-in_default : goal.invariant_of-self-in_default
invariant_of-self-in_default g c = (
  sound_body g.D.DiskFacts _ c.self.inside.roots.slot _ _ c.self.inside.failed c.put_body.new.disk c.self.invariant.0
      (ap (λ h. h.phase) c.self.view_is ∙ c.requires.phase)
      c.in_default.ensures.writes.tells.0 (λ told. sized c.body.result.now (ap length c.body.ensures.bytes ∙ (c.self.invariant.0.plan (not_idle _ (ap (λ h. h.phase) c.self.view_is ∙ c.requires.phase))).size) ((c.in_default.ensures.writes.writes told).torn)) (λ told ok. (c.in_default.ensures.writes.writes told).written ∙ ap (overwritten _ _) c.body.ensures.bytes)
      (λ told. g.met.D.Disk.lawful c.self.inside.disk told),
  c.self.invariant.1,
  paging_on _ Body Sync2 _ _ _ _ _ _ _ c.self.invariant.2 (ap (λ h. h.phase) c.self.view_is ∙ c.requires.phase) (λ is. absurd cc) refl (λ k is. absurd cc),
)

pub returns-in-Err : goal.returns-in-Err
returns-in-Err g c = record {
  call = call_failed g.D.DiskFacts Body _ _ _ _ c.self.inside.roots.slot c.self.inside.roots.slot _ _ c.self.view_is (ap (λ h. h.phase) c.self.view_is ∙ c.requires.phase) c.self.invariant.0
      (invariant_of-self g c).0 c.in-Err.ensures.writes.tells (λ told. (c.in-Err.ensures.writes.writes told).call) (λ told. g.met.D.Disk.lawful c.self.inside.disk told) refl (search rules)
      (λ told. record {
        size = (c.self.invariant.0.plan (not_idle _ (ap (λ h. h.phase) c.self.view_is ∙ c.requires.phase))).size;
        writes = record { torn = of_bytes c.body.ensures.bytes ((c.in-Err.ensures.writes.writes told).torn); written = tt; call = (c.in-Err.ensures.writes.writes told).call };
      });
}

pub returns : goal.returns
returns g c = record {
  call = call_made g.D.DiskFacts Body _ _ _ c.self.inside.roots.slot c.self.inside.roots.slot _ _ c.self.view_is (ap (λ h. h.phase) c.self.view_is ∙ c.requires.phase) c.self.invariant.0
      (invariant_of-self-in_default g c).0 c.in_default.ensures.writes.tells (λ told. (c.in_default.ensures.writes.writes told).call) (λ told. g.met.D.Disk.lawful c.self.inside.disk told) (search rules)
      (λ told. record {
        size = (c.self.invariant.0.plan (not_idle _ (ap (λ h. h.phase) c.self.view_is ∙ c.requires.phase))).size;
        writes = record { torn = of_bytes c.body.ensures.bytes ((c.in_default.ensures.writes.writes told).torn); written = (c.in_default.ensures.writes.writes told).written ∙ ap (overwritten _ _) c.body.ensures.bytes; call = (c.in_default.ensures.writes.writes told).call };
      });
}
