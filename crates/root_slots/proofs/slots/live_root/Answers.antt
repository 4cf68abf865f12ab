use Rattle.std.proofs.Common.{ap, sym, ◌∙◌, ◌==◌, arith, inl, inr}
use Rattle.std.proofs.lemmas.Result.{err_from_is_err_and}
use Rattle.root_slots.specs.Slots.{live}
use Rattle.root_slots.specs.Live.{rooted, root_at, live_root}
use Rattle.root_slots.proofs.Faults.{names_on, not_memory, found_ok}
use Rattle.root_slots.proofs.slots.live_root.Goals as goal

pub returns-in_err-slot-clause-fault : goal.returns-in_err-slot-clause-fault
returns-in_err-slot-clause-fault c =
    let p = err_from_is_err_and c.from_residual.result c.from_residual.ensures.1 in
    rw (p.1, p.2) (names_on _ (live c.args.slots.now) (live_root c.args.slots.now) (λ n is. ap (root_at c.args.slots.now) is) c.in_err-slot.ensures.fault)

pub returns-in_err-slot-clause-refused : goal.returns-in_err-slot-clause-refused
returns-in_err-slot-clause-refused c =
    let p = err_from_is_err_and c.from_residual.result c.from_residual.ensures.1 in
    rw (p.1, p.2) (inr c.in_err-slot.ensures.refused)

pub returns-in_err-root-clause-fault : goal.returns-in_err-root-clause-fault
returns-in_err-root-clause-fault c =
    let p = err_from_is_err_and c.from_residual-in_err-root.result c.from_residual-in_err-root.ensures.1 in
    rw (p.1, p.2) (names_on _ (rooted c.body_at.result.now) (live_root c.args.slots.now)
    (λ n is. ap (root_at c.args.slots.now) c.in_ok-slot.ensures.slot ∙ ap rooted (sym c.body_at.ensures.body) ∙ is) c.in_err-root.ensures.fault)

pub returns-in_err-root-clause-refused : goal.returns-in_err-root-clause-refused
returns-in_err-root-clause-refused c =
    let p = err_from_is_err_and c.from_residual-in_err-root.result c.from_residual-in_err-root.ensures.1 in
    rw (p.1, p.2) (elim c.in_err-root.ensures.refused [ inl memory ↦ inl memory | inr bad ↦ inr (inr bad) ])

pub returns-in_err-slot-clause-memory : goal.returns-in_err-slot-clause-memory
returns-in_err-slot-clause-memory c =
    let p = err_from_is_err_and c.from_residual.result c.from_residual.ensures.1 in
    rw (p.1, p.2) (not_memory _ c.in_err-slot.ensures.refused)

pub returns-in_err-root-clause-memory : goal.returns-in_err-root-clause-memory
returns-in_err-root-clause-memory c =
    let p = err_from_is_err_and c.from_residual-in_err-root.result c.from_residual-in_err-root.ensures.1 in
    rw (p.1, p.2) (λ memory. found_ok _ c.in_ok-slot.slot c.in_ok-slot.ensures.slot)

pub returns-clause-found : goal.returns-clause-found
returns-clause-found c = record {
  whole = omega (arith, c.requires);
  below = c.in_ok-slot.ensures.below;
  picked = c.in_ok-slot.ensures.slot;
  other = ap (λ g. g == 1) c.gate_of-stale_open.ensures;
  spells = rw (sym c.body_at.ensures.body) c.in_ok-root.ensures.says;
  written = rw (sym c.body_at.ensures.body) c.in_ok-root.ensures.written;
}
