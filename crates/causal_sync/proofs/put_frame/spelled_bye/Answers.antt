use Rattle.std.proofs.Common.{refl}
use Rattle.causal_sync.specs.Frames.{content_bytes, frame_bytes}
use Rattle.causal_sync.proofs.put_frame.spelled_bye.Goals as goal

pub returns : goal.returns
unfolding content_bytes frame_bytes
returns c = rw (c.in_ok-extend_from_slice.ensures.items, c.in_ok-bytes.ensures) refl
