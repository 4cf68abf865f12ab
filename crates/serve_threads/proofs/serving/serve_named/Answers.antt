use Rattle.std.proofs.Common.{ap, ◌∙◌}
use Rattle.serve_threads.proofs.serving.serve_named.Goals as goal

-- what stood under the lock at the beginning fits the flusher that was given back
pub without_memory-requires : goal.without_memory-requires
without_memory-requires g c =
    rw c.in-Err.ensures.refused (record { locked = c.args.parts.locked; sound = c.kept.ensures; fits = c.requires.fresh.fits })

-- and what stood under it at the end fits the one that has gone on
pub returns : goal.returns
returns g c =
    let turn = c.audit_committer.ensures.turn in record {
      flusher = c.run-has_begun.result.1.flusher;
      disk = c.into_disk.ensures ∙ ap (λ f. f.store.disk) c.into_flusher.ensures
          ∙ ap (λ committer. committer.flusher.store.disk) c.audit_committer.ensures.same.1;
      kept = turn.flusher;
      goes = rw c.in-Ok.ensures.begun at c.run-has_begun.ensures;
      beside = record { locked = c.into_guarded-guarded.result.locked; sound = turn.locked; fits = turn.fits };
    }
