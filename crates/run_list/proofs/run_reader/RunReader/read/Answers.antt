use Rattle.std.proofs.Common.{◌<◌, length, sym}
use Rattle.run_list.proofs.LastRead.{before_known, begun_same, front_same, has_read}
use Rattle.run_list.proofs.run_reader.RunReader.read.Goals as goal

pub next-requires-clause-begun : goal.next-requires-clause-begun
next-requires-clause-begun c =
    begun_same c.list-list.result.now c.self.inside.list c.self.inside.at c.self.inside.begun c.list-list.ensures.front c.self.invariant.within c.self.invariant.begins

pub next-requires-clause-before : goal.next-requires-clause-before
next-requires-clause-before c =
    rw (c.take.ensures.value, front_same c.list-list.result.now c.self.inside.list c.self.inside.at c.list-list.ensures.front c.self.invariant.within)
    (before_known c.self.inside.list c.self.inside.at c.self.inside.op c.self.invariant.within c.self.invariant.last)

pub invariant_of-self : goal.invariant_of-self
invariant_of-self c =
    let lt : c.self.inside.at < length c.self.inside.list = rw (sym c.self.view_is) at c.requires in
    has_read c.self.inside.list c.list-list.result.now c.self.inside.at c.in-Ok.begun c.in-Ok.op c.list-list.ensures.front lt c.in-Ok.ensures.op c.in-Ok.ensures.begun
