use Rattle.std.proofs.Common.{◌≡◌, ◌≤◌, ◌-◌, ◌++◌, ◌&&◌, None, length, drop}
use Rattle.causal_sync.specs.Frames.{frames_bytes, is_over, AreFrames}
use Rattle.causal_sync.specs.Hearing.{is_none}
use Rattle.causal_sync.proofs.take_frame.take_frames.Given as goal

-- the frames so far, and the bytes behind them, are all bytes
abbrev pub invariant-loop-found : goal.invariant-loop-found
invariant-loop-found l =
    record {
      all : frames_bytes l.found.frames.items ++ drop l.found.used l.bytes ≡ l.bytes;
      are : AreFrames l.own l.is_first l.found.frames.items;
      over : l.found.is_over ≡ is_over l.found.frames.items;
      next : l.found.is_first ≡ (is_none l.found.frames.items && l.is_first);
      clean : l.found.fault ≡ None;
      within : l.found.used ≤ length l.bytes;
    }

abbrev pub decreases-loop-found : goal.decreases-loop-found
decreases-loop-found l = length l.bytes - l.found.used
