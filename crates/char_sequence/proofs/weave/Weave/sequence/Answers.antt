use Rattle.std.proofs.Common.{◌<◌, length, sym, ◌∙◌, arith}
use Rattle.char_sequence.proofs.WovenLemmas.{reads_all, reads_none, reads_one}
use Rattle.char_sequence.proofs.weave.Weave.sequence.Goals as goal
use Rattle.char_sequence.proofs.weave.Weave.sequence.Goals.{in-None, in-Some+in_ok-push-in-Some}

pub loop-preserved : goal.loop-preserved
loop-preserved c =
    let next = rw c.deref.ensures.value at c.next_of-at.ensures in
    let read = c.cell_at.ensures in
    let within : c.loop.counter < length c.self.inside.cells =
    (let inside = c.loop-test.true in let end = c.len-end.ensures in omega arith) in
    let long = length c.self.inside.cells in
    elim c.match-cell_at.branch [
      | in-Some+in_ok-push-in-Some w ↦
          reads_one c.self.inside.cells c.self.inside.next.items c.loop.at long c.loop.counter c.next_of-at.result w.in-Some.cell
          c.loop.building c.match-cell_at.building _ within next (sym read ∙ w.in-Some.is)
          (w.building-is ∙ w.in_ok-push-in-Some.ensures.put) c.loop.invariant
      | in-None w ↦
          reads_none c.self.inside.cells c.self.inside.next.items c.loop.at long c.loop.counter c.next_of-at.result
          c.loop.building c.match-cell_at.building _ within next (sym read ∙ w.in-None.is) w.building-is
          c.loop.invariant
    ]

pub returns : goal.returns
returns c =
    c.in_ok-into_chunks.ensures
    ∙ (reads_all c.self.inside.cells c.self.inside.next.items c.loop.at _ c.loop.counter c.loop.building _
    (let out = c.loop-test.false in let end = c.len-end.ensures in omega arith)
    c.loop.invariant ∙ c.self.view_is)
