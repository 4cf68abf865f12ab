use Rattle.std.proofs.Common.{rules, ◌≡◌, ap, sym, ◌∙◌, false, length, Ok, Err, inl, refl, arith}
use Rattle.std.specs.Prelude.{ℕ, Vec, vec_len}
use Rattle.std.specs.declared.alloc.Global.{Global}
use Rattle.std.proofs.lemmas.Result.{err_from_is_err_and}
use Rattle.group_commit.specs.Standing.{IsSoundStore}
use Rattle.group_commit.specs.Paging.{taken_in}
use Rattle.group_commit.specs.Saved.{with_stream, base_of}
use Rattle.group_commit.specs.declared.phase.Phase.TheVariants.{Idle, Pages}
use Rattle.group_commit.proofs.BeginLemmas.{IsDue, is_due, is_wanting, base_body}
use Rattle.group_commit.proofs.DeviceCall.{left_of}
use Rattle.group_commit.proofs.Doing.{live_idle}
use Rattle.group_commit.proofs.PagingLemmas.{paging_begun, paging_roomy}
use Rattle.group_commit.proofs.Sound.{sound_begin}
use Rattle.group_commit.proofs.store.Store.begin.Goals as goal

counted : (v : Vec ℕ Global) → vec_len v ≡ length v.items
counted v = search rules

pub plan_next-requires : goal.plan_next-requires
plan_next-requires g c =
    let due : IsDue (base_of c.args.whole c.args.self.now.current) c.args.self.now c.args.count (length c.args.records.now) = is_due (base_of c.args.whole c.args.self.now.current) c.args.self.now _ _ _ _ c.answer_due-due.ensures (c.in-Ok-Some.is ∙ ap Ok (rw c.in-Ok-Some.is at c.in-Ok-Some.field-0-is)) in
    let idle : c.self.inside.phase ≡ Idle = ap (λ h. h.phase) c.self.view_is ∙ due.idle in
    let works : c.self.inside.failed ≡ false = ap (λ h. h.failed) c.self.view_is ∙ due.works in
    let all : c.args.self.now.current ≡ with_stream c.self.inside.current c.self.inside.stream = sym (ap (λ h. h.current) c.self.view_is) in
    record {
      is_index = c.self.invariant.2.is_index;
      none_taken = c.self.invariant.2.taken works ∙ ap (λ q. taken_in q c.self.inside.numbers.items) idle;
      long = c.self.invariant.1.of_current;
      some = c.requires due.some;
      room = rw all at due.stream;
      version = rw all at (rw (base_body c.args.whole c.args.self.now.current) at due.version);
      count = rw all at (rw (base_body c.args.whole c.args.self.now.current) at due.room);
    }

pub returns-in_default-clause-answer : goal.returns-in_default-clause-answer
returns-in_default-clause-answer g c = inl c.answer_due-due.ensures

pub returns-in_err-plan-clause-answer : goal.returns-in_err-plan-clause-answer
returns-in_err-plan-clause-answer g c =
    let p = err_from_is_err_and c.from_residual.result c.from_residual.ensures.1 in
    is_wanting _ _ _ _ c.answer_due-due.ensures (c.in-Ok-Some.is ∙ ap Ok (rw c.in-Ok-Some.is at c.in-Ok-Some.field-0-is)) (p.1 ∙ ap Err p.2)

pub returns-in_err-reserve-clause-answer : goal.returns-in_err-reserve-clause-answer
returns-in_err-reserve-clause-answer g c =
    let p = err_from_is_err_and c.from_residual-in_err-reserve.result c.from_residual-in_err-reserve.ensures.1 in
    is_wanting _ _ _ _ c.answer_due-due.ensures (c.in-Ok-Some.is ∙ ap Ok (rw c.in-Ok-Some.is at c.in-Ok-Some.field-0-is)) (p.1 ∙ ap Err p.2)

pub invariant_of-self : goal.invariant_of-self
invariant_of-self g c =
    let due : IsDue (base_of c.args.whole c.args.self.now.current) c.args.self.now c.args.count (length c.args.records.now) = is_due (base_of c.args.whole c.args.self.now.current) c.args.self.now _ _ _ _ c.answer_due-due.ensures (c.in-Ok-Some.is ∙ ap Ok (rw c.in-Ok-Some.is at c.in-Ok-Some.field-0-is)) in
    let idle : c.self.inside.phase ≡ Idle = ap (λ h. h.phase) c.self.view_is ∙ due.idle in
    (c.self.invariant.0, c.self.invariant.1, paging_roomy _ _ _ _ _ _ _ _ _ c.self.invariant.2 idle c.in_err-reserve.ensures.same)

sound_new : (g : _) (c : goal.After-self-3-1 g)
    → IsSoundStore g.D.DiskFacts (record {
      disk = c.self.inside.disk;
      phase = Pages 0;
      slot = c.self.inside.roots.slot;
      current = with_stream c.self.inside.current c.self.inside.stream;
      next = with_stream c.in_ok-plan.plan.next c.in_ok-plan.next_stream;
      numbers = c.in_ok-plan.plan.numbers.items;
      stale_open = c.self.inside.roots.stale_open;
      failed = c.self.inside.failed;
    }) c.self.inside.roots.slot c.in_ok-plan.plan.numbers.items c.in_ok-plan.plan.fresh.items
sound_new g c =
    let due : IsDue (base_of c.args.whole c.args.self.now.current) c.args.self.now c.args.count (length c.args.records.now) = is_due (base_of c.args.whole c.args.self.now.current) c.args.self.now _ _ _ _ c.answer_due-due.ensures (c.in-Ok-Some.is ∙ ap Ok (rw c.in-Ok-Some.is at c.in-Ok-Some.field-0-is)) in
    let idle : c.self.inside.phase ≡ Idle = ap (λ h. h.phase) c.self.view_is ∙ due.idle in
    sound_begin g.D.DiskFacts _ c.self.inside.roots.slot _ _ (with_stream c.in_ok-plan.plan.next c.in_ok-plan.next_stream) _ _
    c.self.invariant.0 idle
    c.in_ok-plan.ensures.plan.room c.in_ok-plan.ensures.plan.plan

pub invariant_of-self-2 : goal.invariant_of-self-2
invariant_of-self-2 g c =
    let due : IsDue (base_of c.args.whole c.args.self.now.current) c.args.self.now c.args.count (length c.args.records.now) = is_due (base_of c.args.whole c.args.self.now.current) c.args.self.now _ _ _ _ c.answer_due-due.ensures (c.in-Ok-Some.is ∙ ap Ok (rw c.in-Ok-Some.is at c.in-Ok-Some.field-0-is)) in
    let idle : c.self.inside.phase ≡ Idle = ap (λ h. h.phase) c.self.view_is ∙ due.idle in
    let works : c.self.inside.failed ≡ false = ap (λ h. h.failed) c.self.view_is ∙ due.works in (
      sound_new g c,
      record { of_current = c.self.invariant.1.of_current; of_next = c.in_ok-plan.ensures.long; moving = c.self.invariant.1.moving },
      paging_begun _ _ _ _ _ _ _ _ _ _ _ _ _ c.self.invariant.2 idle works c.in_ok-plan.ensures.renews c.in_ok-reserve.ensures.same
          (omega (arith, c.in_ok-reserve.ensures.room, c.len.ensures, counted c.in_ok-plan.plan.numbers)),
    )

pub returns-clause-answer : goal.returns-clause-answer
returns-clause-answer g c = inl c.answer_due-due.ensures

pub returns-clause-began : goal.returns-clause-began
returns-clause-began g c = λ ops spells n is.
    let due : IsDue (base_of c.args.whole c.args.self.now.current) c.args.self.now c.args.count (length c.args.records.now) = is_due (base_of c.args.whole c.args.self.now.current) c.args.self.now _ _ _ _ c.answer_due-due.ensures (c.in-Ok-Some.is ∙ ap Ok (rw c.in-Ok-Some.is at c.in-Ok-Some.field-0-is)) in
    let idle : c.self.inside.phase ≡ Idle = ap (λ h. h.phase) c.self.view_is ∙ due.idle in
    let works : c.self.inside.failed ≡ false = ap (λ h. h.failed) c.self.view_is ∙ due.works in
    let plan = c.in_ok-plan.ensures.plan in
    rw (sym c.self.view_is) (record {
      disk = refl;
      current = refl;
      stale_open = refl;
      works = works;
      phase = refl;
      slot = refl;
      numbers = plan.changes;
      free = plan.plan.free;
      lowest = plan.plan.lowest;
      follows = plan.follows;
      spells = spells;
      had = plan.had;
      pages = plan.pages;
      live_slot = live_idle g.D.DiskFacts _ c.self.inside.roots.slot _ _ c.self.invariant.0 idle;
      left = left_of g.D.DiskFacts _ c.self.inside.roots.slot _ _ (sound_new g c);
    })

pub returns-clause-same : goal.returns-clause-same
returns-clause-same g c = λ other. absurd (other _ (c.in-Ok-Some.is ∙ ap Ok (rw c.in-Ok-Some.is at c.in-Ok-Some.field-0-is)))
