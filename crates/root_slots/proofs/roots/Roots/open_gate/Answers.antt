use Rattle.std.proofs.Common.{◌-◌, ◌*◌, sym}
use Rattle.std.proofs.lemmas.Result.{on_ok_weaker}
use Rattle.root_slots.specs.Survivors.{LivesBeforeNewer, LivesOrOther}
use Rattle.root_slots.proofs.LiveLemmas.{leaves_torn, opened_lives, opened_other}
use Rattle.root_slots.proofs.roots.Roots.open_gate.Goals as goal

pub returns-clause-live : goal.returns-clause-live
returns-clause-live g c = λ told.
    let slot = c.self.inside.slot in
    let leaves = leaves_torn g.D.DiskFacts (4096 * (1 - slot)) 1 c.args.disk.now c.write_inside.new.disk (LivesBeforeNewer slot) (LivesOrOther slot) in
    rw (sym c.self.view_is) (leaves (c.write_inside.ensures.writes told).torn (opened_lives slot))

pub returns-clause-opened : goal.returns-clause-opened
returns-clause-opened g c = λ told.
    let slot = c.self.inside.slot in
    let done = c.write_inside.ensures.writes told in
    let now = (g.met.D.Disk.lawful c.args.disk.now told).reads_survive in
    rw (sym c.self.view_is)
    (λ before. on_ok_weaker c.write_inside.result (λ is. opened_other slot _ _ done.torn.reads is (before _ now)) done.written)
