use Rattle.std.proofs.Common.{◌≡◌, take, sym, ◌∙◌, arith}
use Rattle.std.proofs.lemmas.List.{take_all}
use Rattle.op_model.specs.Causality.{clock_of}
use Rattle.list_counts.specs.Counts.{counts_of}
use Rattle.shared_hub.proofs.PeerLemmas.{none_more, row_more, rows_counted}
use Rattle.shared_hub.proofs.guarded.Guarded.peers.Goals as goal
use Rattle.shared_hub.proofs.guarded.Guarded.peers.Goals.{in-Some+in_ok-push, in_default}

-- the row of a peer that has said what it has is put after the others
pub loop-peer-preserved : goal.loop-peer-preserved
loop-peer-preserved g c =
    let list = c.self.inside.locked.replica.list in
    let links = c.as_slice-peer-items.result.now in
    let so_far = rw (← c.self.view_is) at c.loop-peer.invariant in
    elim c.match-peer.branch [
      | in-Some+in_ok-push w ↦
          let peer = w.in-Some.field-0 in
          let row : w.of-counts.result ≡ counts_of peer.replica peer.its (clock_of list) =
          rw w.clock.ensures at (rw w.in-Some.is at w.of-counts.ensures) in
          rw (
            w.peers-is,
            ← c.self.view_is,
            row_more list links c.loop-peer.peer-index c.peer-item.result peer (omega arith)
                (sym c.peer-item.is ∙ w.in-Some.is),
            ← row,
            ← so_far,
          ) w.in_ok-push.ensures.items
      | in_default w ↦
          rw (
            w.peers-is,
            ← c.self.view_is,
            none_more list links c.loop-peer.peer-index c.peer-item.result (omega arith)
                (sym c.peer-item.is ∙ w.in_default.is),
          ) so_far
    ]

pub returns-clause-rows : goal.returns-clause-rows
returns-clause-rows g c =
    rw (← c.as_slice-peer-items.ensures)
    (rw (take_all c.loop-peer.peer-index c.as_slice-peer-items.result.now (omega arith)) at c.loop-peer.invariant)

pub returns-clause-counted : goal.returns-clause-counted
returns-clause-counted g c =
    rw c.loop-peer.invariant (rows_counted c.args.self.now.locked.replica.list (take c.loop-peer.peer-index c.as_slice-peer-items.result.now))
