use Rattle.change_codec.specs.Spelling.{number_bytes}
use Rattle.causal_sync.proofs.Spellings.{hello_spelled}
use Rattle.causal_sync.proofs.put_frame.spelled_hello.Goals as goal

pub returns : goal.returns
unfolding number_bytes
returns c = rw (c.in_ok-extend_from_slice-2.ensures.items, c.in_ok-extend_from_slice.ensures.items, c.in_ok-bytes.ensures, c.bytes.ensures) (hello_spelled c.args.own)
