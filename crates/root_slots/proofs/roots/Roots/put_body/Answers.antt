use Rattle.std.proofs.Common.{◌+◌, ◌-◌, ◌*◌, sym}
use Rattle.std.proofs.lemmas.Result.{on_ok_weaker}
use Rattle.root_slots.specs.Survivors.{LivesAlone}
use Rattle.root_slots.proofs.LiveLemmas.{leaves_torn, put_lives, put_newer}
use Rattle.root_slots.proofs.roots.Roots.put_body.Goals as goal

pub returns-clause-live : goal.returns-clause-live
returns-clause-live g c = λ told.
    let slot = c.self.inside.slot in
    let torn = rw c.requires.long at (c.write_inside.ensures.writes told).torn in
    rw (sym c.self.view_is)
    (leaves_torn g.D.DiskFacts (4096 * (1 - slot) + 8) 4088 c.args.disk.now c.write_inside.new.disk
    (LivesAlone slot) (LivesAlone slot) torn (put_lives slot))

pub returns-clause-put : goal.returns-clause-put
returns-clause-put g c = λ told.
    let slot = c.self.inside.slot in
    let done = c.write_inside.ensures.writes told in
    let torn = rw c.requires.long at (c.write_inside.ensures.writes told).torn in
    let now = (g.met.D.Disk.lawful c.args.disk.now told).reads_survive in
    rw (sym c.self.view_is)
    (λ before newer. on_ok_weaker c.write_inside.result
    (λ is. put_newer slot _ _ c.args.body.now torn.reads is c.requires.long newer (before _ now)) done.written)
