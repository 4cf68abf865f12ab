use Rattle.std.proofs.Common.{sym, ◌∙◌, arith}
use Rattle.char_sequence.proofs.LastingLemmas.{one_seen, own_next}
use Rattle.char_sequence.proofs.PlaceLemmas.{ends_chunk}
use Rattle.char_sequence.proofs.SizeLemmas.{within_place}
use Rattle.char_sequence.proofs.lasting.seen_in_own.Goals as goal
use Rattle.char_sequence.proofs.lasting.seen_in_own.Goals.{in-Some+then-not-cell, in-Some+else-not-cell, in_default}

pub loop-j-preserved : goal.loop-j-preserved
loop-j-preserved c =
    let held = c.args.chunks.now in
    let so_far = c.loop-j.invariant.seen in
    let few = c.loop-j.invariant.few in
    let ticks_so_far = c.loop-j.invariant.ticks in
    let tick = c.cell.ensures.tick in
    elim c.match-cell.branch [
      | in-Some+then-not-cell w ↦
          let next = own_next held c.args.place.now.chunk c.loop-j.j w.in-Some.cell (sym c.cell.ensures.cell ∙ w.in-Some.is) in
          let one = one_seen w.in-Some.cell _ w.if-not-cell.true in
          let is = w.count-is in
          record { seen = omega arith; few = omega arith; ticks = omega arith }
      | in-Some+else-not-cell w ↦
          let next = own_next held c.args.place.now.chunk c.loop-j.j w.in-Some.cell (sym c.cell.ensures.cell ∙ w.in-Some.is) in
          let one = one_seen w.in-Some.cell _ w.if-not-cell.false in
          let is = w.count-is in
          record { seen = omega arith; few = omega arith; ticks = omega arith }
      | in_default w ↦
          let end = ends_chunk held c.args.place.now.chunk c.loop-j.j (sym c.cell.ensures.cell ∙ w.in_default.is) in
          let within = within_place held c.args.place.now.chunk c.args.place.now.at c.requires in
          let more = c.loop-j-test.true in
          let last = c.loop-j.auto.j-end in
          absurd (omega arith)
    ]
