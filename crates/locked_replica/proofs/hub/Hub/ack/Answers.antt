use Rattle.std.proofs.Common.{sym}
use Rattle.hub_parts.specs.Fitting.{side_of}
use Rattle.locked_replica.proofs.SharedCalls.{call_ack}
use Rattle.locked_replica.proofs.hub.Hub.ack.Goals as goal

pub returns : goal.returns
returns g c =
    rw (sym c.self.view_is) (record {
      call = call_ack g.D.DiskFacts c.self.inside.locked c.self.inside.flusher (λ told. g.met.D.Disk.lawful c.self.inside.flusher.store.disk told) c.kept.ensures c.kept-2.ensures c.self.invariant
          c.args.ticket c.ack-settled.result c.ack-settled.new.self c.kept-3.ensures (c.ack-settled.ensures.fits (side_of c.self.inside.flusher) c.self.invariant) c.ack-settled.ensures.call c.ack-settled.ensures.acked;
    })
