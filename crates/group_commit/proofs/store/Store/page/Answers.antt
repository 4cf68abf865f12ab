use Rattle.std.proofs.Common.{ap, sym, ◌≡◌, ◌≢◌, ◌<◌, ◌≤◌, ◌*◌, ◌+◌, ℕ, length, get_or, refl, arith, ◌∙◌}
use Rattle.group_commit.proofs.store.Store.page.Goals as goal
use Rattle.group_commit.proofs.Inside.{inside_page}
use Rattle.group_commit.proofs.PagingLemmas.{paging_failed, paging_put, next_free, next_room}
use Rattle.group_commit.proofs.Sound.{sound_page, sound_page_failed}
use Rattle.group_commit.proofs.DeviceCall.{device_call}
use Rattle.group_commit.specs.Step.{write_page}
use Rattle.disk_trait.specs.File.{part, overwritten}
use Rattle.std.specs.Prelude.{Vec, vec_len}
use Rattle.std.proofs.Common.{rules}
use Rattle.std.specs.declared.alloc.Global.{Global}
use Rattle.group_commit.specs.Held.{behind_pages}
use Rattle.disk_trait.specs.Calls.{Tears}
use Rattle.disk_trait.specs.declared.facts.DiskFacts.{Ghosts}
use Rattle.group_commit.specs.declared.phase.Phase.{Phase}
use Rattle.group_commit.specs.declared.phase.Phase.TheVariants.{Idle, Pages}

not_idle : (p : Phase) {k : ℕ} → p ≡ Pages k → p ≢ Idle
not_idle p is idle = cc

whole_within : (k n m : ℕ) → k < n → m ≡ 4096 * n → 4096 * k + 4096 ≤ m
whole_within k n m within room = omega (arith, within, room)

torn_at : {D : Type 0} {facts : Ghosts D} {old new : D} (at at' n n' : ℕ) → at ≡ at' → n ≡ n' → Tears facts at n old new → Tears facts at' n' old new
torn_at at at' n n' same size tears = rw (sym same, sym size) tears

counted : (v : Vec ℕ Global) → vec_len v ≡ length v.items
counted v = search rules

pub number_at-requires : goal.number_at-requires
number_at-requires g c = record { within = rw (c.deref.ensures.value) ((c.self.invariant.0.plan (not_idle _ (ap (λ h. h.phase) c.self.view_is ∙ c.requires.phase))).under_way c.args.k (ap (λ h. h.phase) c.self.view_is ∙ c.requires.phase)) }

pub bytes_at-requires : goal.bytes_at-requires
bytes_at-requires g c = record {
  within = rw (c.deref-2.ensures.value) (whole_within c.args.k _ _ ((c.self.invariant.0.plan (not_idle _ (ap (λ h. h.phase) c.self.view_is ∙ c.requires.phase))).under_way c.args.k (ap (λ h. h.phase) c.self.view_is ∙ c.requires.phase)) c.self.invariant.0.room);
}

pub put_page-requires : goal.put_page-requires
put_page-requires g c = record {
  can_take = record {
    free = next_free _ c.args.k _ _ _ _ c.number_at.result _ _ _ c.self.invariant.2 (ap (λ h. h.phase) c.self.view_is ∙ c.requires.phase) (ap (λ h. h.failed) c.self.view_is ∙ c.requires.works) ((c.self.invariant.0.plan (not_idle _ (ap (λ h. h.phase) c.self.view_is ∙ c.requires.phase))).under_way c.args.k (ap (λ h. h.phase) c.self.view_is ∙ c.requires.phase)) (c.number_at.ensures ∙ ap (λ v. get_or v c.args.k 0) c.deref.ensures.value) (c.self.invariant.0.plan (not_idle _ (ap (λ h. h.phase) c.self.view_is ∙ c.requires.phase))).free;
    room = next_room _ c.args.k _ _ _ _ _ _ _ c.self.invariant.2 (ap (λ h. h.phase) c.self.view_is ∙ c.requires.phase) (ap (λ h. h.failed) c.self.view_is ∙ c.requires.works) ((c.self.invariant.0.plan (not_idle _ (ap (λ h. h.phase) c.self.view_is ∙ c.requires.phase))).under_way c.args.k (ap (λ h. h.phase) c.self.view_is ∙ c.requires.phase));
  };
  size = c.bytes_at.ensures.whole;
  inside = λ told. rw (c.number_at.ensures ∙ ap (λ v. get_or v c.args.k 0) c.deref.ensures.value) (inside_page g.D.DiskFacts _ c.self.inside.roots.slot _ _ c.args.k c.self.invariant.0 (ap (λ h. h.phase) c.self.view_is ∙ c.requires.phase) told (λ told. g.met.D.Disk.lawful c.self.inside.disk told) (ap (λ h. h.failed) c.self.view_is ∙ c.requires.works));
}

pub invariant_of-self : goal.invariant_of-self
invariant_of-self g c = (
  sound_page_failed g.D.DiskFacts _ c.self.inside.roots.slot _ _ c.args.k c.put_page.new.disk c.self.invariant.0 (ap (λ h. h.phase) c.self.view_is ∙ c.requires.phase)
      c.in-Err.ensures.writes.tells.0 (λ told. torn_at _ _ _ _ (ap (λ n. 4096 * n) (c.number_at.ensures ∙ ap (λ v. get_or v c.args.k 0) c.deref.ensures.value)) c.bytes_at.ensures.whole ((c.in-Err.ensures.writes.writes told).torn)),
  c.self.invariant.1,
  paging_failed _ (Pages c.args.k) _ _ _ _ _ _ _ _ _ c.self.invariant.2 (ap (λ h. h.phase) c.self.view_is ∙ c.requires.phase) (λ is. absurd cc) c.in-Err.ensures.takes.tables c.in-Err.ensures.takes.data_pages,
)

pub invariant_of-self-2 : goal.invariant_of-self-2
invariant_of-self-2 g c = (
  rw (c.behind-self-inside.ensures ∙ ap (behind_pages (c.args.k + 1) c.len.result) c.is_stale_open.ensures ∙ ap (λ n. behind_pages (c.args.k + 1) n c.self.inside.roots.stale_open) (c.len.ensures ∙ counted c.self.inside.numbers))
      (sound_page g.D.DiskFacts _ c.self.inside.roots.slot _ _ c.args.k c.put_page.new.disk c.self.invariant.0 (ap (λ h. h.phase) c.self.view_is ∙ c.requires.phase) (λ told. g.met.D.Disk.lawful c.self.inside.disk told)
      c.in_default.ensures.writes.tells.0 (λ told. torn_at _ _ _ _ (ap (λ n. 4096 * n) (c.number_at.ensures ∙ ap (λ v. get_or v c.args.k 0) c.deref.ensures.value)) c.bytes_at.ensures.whole ((c.in_default.ensures.writes.writes told).torn))
      (λ told. (c.in_default.ensures.writes.writes told).written
      ∙ ap (λ n. overwritten (g.D.DiskFacts.content c.self.inside.disk) (4096 * n) c.bytes_at.result.now) (c.number_at.ensures ∙ ap (λ v. get_or v c.args.k 0) c.deref.ensures.value)
      ∙ ap (overwritten (g.D.DiskFacts.content c.self.inside.disk) _) (c.bytes_at.ensures.bytes ∙ ap (λ v. part v (4096 * c.args.k) 4096) c.deref-2.ensures.value))
      (λ told. inside_page g.D.DiskFacts _ c.self.inside.roots.slot _ _ c.args.k c.self.invariant.0 (ap (λ h. h.phase) c.self.view_is ∙ c.requires.phase) told (λ told. g.met.D.Disk.lawful c.self.inside.disk told) (ap (λ h. h.failed) c.self.view_is ∙ c.requires.works))
      refl (ap (λ h. h.failed) c.self.view_is ∙ c.requires.works)),
  c.self.invariant.1,
  rw (c.behind-self-inside.ensures ∙ ap (behind_pages (c.args.k + 1) c.len.result) c.is_stale_open.ensures ∙ ap (λ n. behind_pages (c.args.k + 1) n c.self.inside.roots.stale_open) (c.len.ensures ∙ counted c.self.inside.numbers))
      (paging_put _ c.args.k c.self.inside.roots.stale_open _ _ _ _ c.number_at.result _ _ _ _ c.self.invariant.2 (ap (λ h. h.phase) c.self.view_is ∙ c.requires.phase) (ap (λ h. h.failed) c.self.view_is ∙ c.requires.works) ((c.self.invariant.0.plan (not_idle _ (ap (λ h. h.phase) c.self.view_is ∙ c.requires.phase))).under_way c.args.k (ap (λ h. h.phase) c.self.view_is ∙ c.requires.phase)) (c.number_at.ensures ∙ ap (λ v. get_or v c.args.k 0) c.deref.ensures.value) c.in_default.ensures.takes.taken),
)

pub returns-in-Err : goal.returns-in-Err
returns-in-Err g c = record {
  call = record {
    made = tt;
    went_on = tt;
    failed = search rules;
    call = device_call g.D.DiskFacts _ (write_page c.args.k) _ _ _ _ c.self.inside.roots.slot c.self.inside.roots.slot _ _ c.self.view_is c.self.invariant.0
        (invariant_of-self g c).0 c.in-Err.ensures.writes.tells (λ told. (c.in-Err.ensures.writes.writes told).call) (λ told. g.met.D.Disk.lawful c.self.inside.disk told) c.in-Err.ensures.refused;
    does = rw (sym c.self.view_is) (λ told. record {
      page = part c.self.inside.fresh.items (4096 * c.args.k) 4096;
      within = (c.self.invariant.0.plan (not_idle _ (ap (λ h. h.phase) c.self.view_is ∙ c.requires.phase))).under_way c.args.k (ap (λ h. h.phase) c.self.view_is ∙ c.requires.phase);
      size = ap length (sym (c.bytes_at.ensures.bytes ∙ ap (λ v. part v (4096 * c.args.k) 4096) c.deref-2.ensures.value)) ∙ c.bytes_at.ensures.whole;
      writes = record {
        torn = torn_at _ _ _ _ (ap (λ n. 4096 * n) (c.number_at.ensures ∙ ap (λ v. get_or v c.args.k 0) c.deref.ensures.value)) (ap length (c.bytes_at.ensures.bytes ∙ ap (λ v. part v (4096 * c.args.k) 4096) c.deref-2.ensures.value)) ((c.in-Err.ensures.writes.writes told).torn);
        call = (c.in-Err.ensures.writes.writes told).call;
        written = tt;
      };
    });
  };
}

pub returns : goal.returns
returns g c = record {
  call = record {
    made = search rules;
    went_on = search rules;
    failed = tt;
    call = device_call g.D.DiskFacts _ (write_page c.args.k) _ _ _ _ c.self.inside.roots.slot c.self.inside.roots.slot _ _ c.self.view_is c.self.invariant.0
        (invariant_of-self-2 g c).0 c.in_default.ensures.writes.tells (λ told. (c.in_default.ensures.writes.writes told).call) (λ told. g.met.D.Disk.lawful c.self.inside.disk told) tt;
    does = rw (sym c.self.view_is) (λ told. record {
      page = part c.self.inside.fresh.items (4096 * c.args.k) 4096;
      within = (c.self.invariant.0.plan (not_idle _ (ap (λ h. h.phase) c.self.view_is ∙ c.requires.phase))).under_way c.args.k (ap (λ h. h.phase) c.self.view_is ∙ c.requires.phase);
      size = ap length (sym (c.bytes_at.ensures.bytes ∙ ap (λ v. part v (4096 * c.args.k) 4096) c.deref-2.ensures.value)) ∙ c.bytes_at.ensures.whole;
      writes = record {
        torn = torn_at _ _ _ _ (ap (λ n. 4096 * n) (c.number_at.ensures ∙ ap (λ v. get_or v c.args.k 0) c.deref.ensures.value)) (ap length (c.bytes_at.ensures.bytes ∙ ap (λ v. part v (4096 * c.args.k) 4096) c.deref-2.ensures.value)) ((c.in_default.ensures.writes.writes told).torn);
        call = (c.in_default.ensures.writes.writes told).call;
        written = (c.in_default.ensures.writes.writes told).written
            ∙ ap (λ n. overwritten (g.D.DiskFacts.content c.self.inside.disk) (4096 * n) c.bytes_at.result.now) (c.number_at.ensures ∙ ap (λ v. get_or v c.args.k 0) c.deref.ensures.value)
            ∙ ap (overwritten (g.D.DiskFacts.content c.self.inside.disk) (4096 * get_or c.self.inside.numbers.items c.args.k 0)) (c.bytes_at.ensures.bytes ∙ ap (λ v. part v (4096 * c.args.k) 4096) c.deref-2.ensures.value);
      };
    });
  };
}
