use Rattle.std.proofs.Common.{rules, refl, ◌≡◌, ap, ◌∙◌, sym}
use Rattle.group_commit.proofs.store.Store.sync3.Goals as goal
use Rattle.group_commit.specs.declared.phase.Phase.TheVariants.{Idle, Sync3}
use Rattle.group_commit.specs.Paging.{taken_in}
use Rattle.group_commit.proofs.MovingLemmas.{stays_put}
use Rattle.group_commit.proofs.PagingLemmas.{paging_failed, paging_through}
use Rattle.group_commit.proofs.Sound.{sound_sync3, sound_sync_failed}
use Rattle.group_commit.proofs.DeviceCall.{call_failed, call_made}

not_idle : Sync3 ≡ Idle → ⊥
not_idle is = absurd cc

pub invariant_of-self : goal.invariant_of-self
invariant_of-self g c = (
  sound_sync_failed g.D.DiskFacts _ c.self.inside.roots.slot _ _ c.sync.new.disk c.self.invariant.0 c.in-Err.ensures.syncs.tells.0 c.in-Err.ensures.syncs.unsettled,
  c.self.invariant.1,
  paging_failed _ Sync3 _ _ _ _ _ _ _ _ _ c.self.invariant.2 (ap (λ h. h.phase) c.self.view_is ∙ c.requires.phase) (λ is. absurd cc) refl refl,
)

pub adopt-requires : goal.adopt-requires
adopt-requires g c =
    let renews = c.self.invariant.2.renews (λ idle. not_idle (sym (ap (λ h. h.phase) c.self.view_is ∙ c.requires.phase) ∙ idle)) in
    record {
      tables = renews.tables_within;
      data_pages = renews.within;
      taken = rw (c.self.invariant.2.taken (ap (λ h. h.failed) c.self.view_is ∙ c.requires.works) ∙ ap (λ q. taken_in q c.self.inside.numbers.items) (ap (λ h. h.phase) c.self.view_is ∙ c.requires.phase)) renews.new_within;
    }

pub invariant_of-self-2 : goal.invariant_of-self-2
invariant_of-self-2 g c = (
  rw (c.swap.ensures.x_after, c.swap.ensures.y_after, c.swap-2.ensures.x_after, c.swap-2.ensures.y_after, c.change_places.ensures.slot, c.change_places.ensures.stale_open) (sound_sync3 g.D.DiskFacts _ c.self.inside.roots.slot _ _ c.sync.new.disk c.self.invariant.0
      (ap (λ h. h.phase) c.self.view_is ∙ c.requires.phase)
      c.in_default.ensures.syncs.tells.0 c.in_default.ensures.syncs.settled
      (λ told. g.met.D.Disk.lawful c.self.inside.disk told) (ap (λ h. h.failed) c.self.view_is ∙ c.requires.works)),
  rw (c.swap.ensures.x_after, c.swap.ensures.y_after, c.swap-2.ensures.x_after, c.swap-2.ensures.y_after) (record {
    of_current = c.self.invariant.1.of_next;
    of_next = c.self.invariant.1.of_current;
    moving = stays_put _ _ ((c.self.invariant.0.plan (λ idle. not_idle (sym (ap (λ h. h.phase) c.self.view_is ∙ c.requires.phase) ∙ idle))).format);
  }),
  rw (c.swap.ensures.x_after, c.swap.ensures.y_after) (paging_through _ _ _ _ _ _ _ _ _ c.self.invariant.2 (ap (λ h. h.phase) c.self.view_is ∙ c.requires.phase) (ap (λ h. h.failed) c.self.view_is ∙ c.requires.works) c.adopt.ensures),
)

pub returns-in-Err : goal.returns-in-Err
returns-in-Err g c = record {
  call = call_failed g.D.DiskFacts Sync3 _ _ _ _ c.self.inside.roots.slot c.self.inside.roots.slot _ _ c.self.view_is (ap (λ h. h.phase) c.self.view_is ∙ c.requires.phase) c.self.invariant.0
      (invariant_of-self g c).0 c.in-Err.ensures.syncs.tells c.in-Err.ensures.syncs.call (λ told. g.met.D.Disk.lawful c.self.inside.disk told) c.in-Err.ensures.refused (search rules)
      (λ told. record { settled = tt; unsettled = c.in-Err.ensures.syncs.unsettled told });
}

pub returns : goal.returns
returns g c = record {
  call = call_made g.D.DiskFacts Sync3 _ _ _ c.self.inside.roots.slot c.change_places.new.self.slot _ _ c.self.view_is (ap (λ h. h.phase) c.self.view_is ∙ c.requires.phase) c.self.invariant.0
      (invariant_of-self-2 g c).0 c.in_default.ensures.syncs.tells c.in_default.ensures.syncs.call (λ told. g.met.D.Disk.lawful c.self.inside.disk told) (search rules)
      (λ told. record { settled = c.in_default.ensures.syncs.settled told; unsettled = tt });
}
