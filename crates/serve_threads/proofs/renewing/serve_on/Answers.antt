use Rattle.serve_threads.specs.Turns.{one, more}
use Rattle.serve_threads.proofs.renewing.serve_on.Goals as goal

-- the first turn
pub loop-init : goal.loop-init
loop-init g c = one c.serve_all-served.result.disk c.serve_all-served.ensures

-- one more
pub loop-preserved : goal.loop-preserved
loop-preserved g c =
    more c.in-Ok.next.0 c.in_ok-parts.parts.flusher c.serve_all-served-in-loop.result.disk (rw c.in-Ok.ensures.next c.loop.invariant)
    (record {
      locked = c.in_ok-parts.parts.locked;
      opened = c.in_ok-parts.ensures.opened;
      loaded = c.in_ok-parts.ensures.loaded;
      looked = c.in_ok-parts.ensures.looks;
    })
    c.serve_all-served-in-loop.ensures
