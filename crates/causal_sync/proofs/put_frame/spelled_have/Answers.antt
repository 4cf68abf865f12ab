use Rattle.causal_sync.proofs.Spellings.{have_spelled}
use Rattle.causal_sync.proofs.put_frame.spelled_have.Goals as goal

pub returns : goal.returns
returns c =
    rw (c.in_ok-put_clock.ensures.ok, c.in_ok-extend_from_slice.ensures.items, c.in_ok-bytes.ensures) (have_spelled c.args.clock.now c.len.result c.len.ensures.value)
