use Rattle.std.proofs.Common.{rules}
use Rattle.disk_trait.specs.Calls.{WritesOrRefuses}
use Rattle.disk_trait.proofs.fault.FaultDiskDisk.write_at.Goals as goal

pub returns-clause-written : goal.returns-clause-written
returns-clause-written g c told =
    let below : WritesOrRefuses g.D.DiskFacts c.if-fails_now.answer c.args.pos c.args.bytes.now c.args.self.now.disk c.if-fails_now.self.disk = search rules in
    record {
      torn = record { reads = below.torn.reads; no_more = below.torn.no_more; no_fewer = below.torn.no_fewer };
      written = below.written;
      past_end = below.past_end;
      unchanged = λ past_end.
          let keeps = below.unchanged past_end in
          record { same = keeps.same; no_more = keeps.no_more; no_fewer = keeps.no_fewer };
    }
