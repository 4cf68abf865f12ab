use Rattle.std.proofs.Common.{rules, ◌≡◌, ◌≤◌, ap, sym, ◌∙◌, arith, length, IsOk, ℕ, Result}
use Rattle.std.proofs.lemmas.Result.{err_from_is_err_and}
use Rattle.disk_trait.specs.File.{part}
use Rattle.root_slots.specs.Slots.{live}
use Rattle.root_slots.specs.Live.{live_root}
use Rattle.root_slots.proofs.Faults.{names_on, quiet_slot}
use Rattle.page_file.proofs.Looked.{looked_on}
use Rattle.root_slots.proofs.SlotReads.{live_root_first, live_first, live_on}
use Rattle.root_slots.proofs.roots.Roots.load.Goals as goal

pub returns-in_err-slot-clause-fault : goal.returns-in_err-slot-clause-fault
returns-in_err-slot-clause-fault g c = λ told.
    let p = err_from_is_err_and c.from_residual-in_err-slot.result c.from_residual-in_err-slot.ensures.1 in
    let file = g.D.DiskFacts.content c.args.disk.now in
    let read : c.read_inside.new.bytes ≡ part file 0 8192 =
    c.in_default.ensures.read (c.size_of.ensures.looks.tells.1 told) ∙ ap (λ f. part f 0 8192) (c.in_ok-file_size.ensures.looks.looks told).same in
    let whole : 8192 ≤ length file = omega (arith, c.in_ok-file_size.ensures.size told, c.if-file_size.false) in
    rw (p.1, p.2) (names_on _ (live_root c.read_inside.new.bytes) (live_root file)
    (λ n is. sym (live_root_first file whole) ∙ (rw read at is)) c.in_err-slot.ensures.fault)

pub returns-in_err-slot-clause-memory : goal.returns-in_err-slot-clause-memory
returns-in_err-slot-clause-memory g c = λ told.
    let p = err_from_is_err_and c.from_residual-in_err-slot.result c.from_residual-in_err-slot.ensures.1 in
    let file = g.D.DiskFacts.content c.args.disk.now in
    let read : c.read_inside.new.bytes ≡ part file 0 8192 =
    c.in_default.ensures.read (c.size_of.ensures.looks.tells.1 told) ∙ ap (λ f. part f 0 8192) (c.in_ok-file_size.ensures.looks.looks told).same in
    let whole : 8192 ≤ length file = omega (arith, c.in_ok-file_size.ensures.size told, c.if-file_size.false) in
    let same : live c.read_inside.new.bytes ≡ live file = ap live read ∙ live_first file whole in
    rw (p.1, p.2) (λ memory. by_same same (c.in_err-slot.ensures.memory memory))
  where
    by_same : {r s : Result ℕ ℕ} → r ≡ s → IsOk r → IsOk s
    by_same {r} {s} same ok = rw (sym same) ok

pub returns-in_err-slot-clause-looks : goal.returns-in_err-slot-clause-looks
returns-in_err-slot-clause-looks g c =
    let p = err_from_is_err_and c.from_residual-in_err-slot.result c.from_residual-in_err-slot.ensures.1 in
    rw (p.1, p.2, quiet_slot _ c.in_err-slot.ensures.refused)
    (looked_on g.D.DiskFacts 0 0 c.args.disk.now c.size_of.new.disk c.read_inside.new.disk c.in_ok-file_size.ensures.looks
    (record { looks = c.in_default.ensures.looks; tells = c.in_default.ensures.tells }))

pub returns-clause-read : goal.returns-clause-read
returns-clause-read g c = record {
  live_one = λ told.
      let file = g.D.DiskFacts.content c.args.disk.now in
      let read : c.read_inside.new.bytes ≡ part file 0 8192 =
      c.in_default.ensures.read (c.size_of.ensures.looks.tells.1 told) ∙ ap (λ f. part f 0 8192) (c.in_ok-file_size.ensures.looks.looks told).same in
      let whole : 8192 ≤ length file = omega (arith, c.in_ok-file_size.ensures.size told, c.if-file_size.false) in
      live_on file _ _ _ whole (rw read at c.in_ok-slot.ensures.found);
  size = c.in_ok-file_size.ensures.size;
  below = search rules;
  valid = search rules;
}

pub returns-clause-looks : goal.returns-clause-looks
returns-clause-looks g c =
    looked_on g.D.DiskFacts 0 0 c.args.disk.now c.size_of.new.disk c.read_inside.new.disk c.in_ok-file_size.ensures.looks
    (record { looks = c.in_default.ensures.looks; tells = c.in_default.ensures.tells })
