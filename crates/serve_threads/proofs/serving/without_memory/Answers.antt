use Rattle.std.proofs.Common.{refl}
use Rattle.shared_hub.proofs.GoingLemmas.{goes_nowhere}
use Rattle.serve_threads.proofs.serving.without_memory.Goals as goal

-- the disk is the flusher's, as it was
pub returns : goal.returns
returns g c =
    record {
      flusher = c.args.flusher;
      disk = c.into_disk.ensures;
      kept = c.kept.ensures;
      goes = goes_nowhere g.D.DiskFacts c.args.flusher c.args.flusher (λ disk told. g.met.D.Disk.lawful disk told) c.kept.ensures refl;
      beside = c.requires;
    }
