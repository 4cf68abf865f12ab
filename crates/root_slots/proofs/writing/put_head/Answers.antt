use Rattle.root_slots.specs.Body.{head_bytes}
use Rattle.root_slots.proofs.SpellingLemmas.{one_chain}
use Rattle.root_slots.proofs.writing.put_head.Goals as goal

pub returns : goal.returns
unfolding head_bytes
returns c =
    rw (c.in_ok-extend_from_slice-7.ensures.items, c.in_ok-extend_from_slice-6.ensures.items, c.in_ok-extend_from_slice-5.ensures.items, c.in_ok-extend_from_slice-4.ensures.items, c.in_ok-extend_from_slice-3.ensures.items, c.in_ok-extend_from_slice-2.ensures.items, c.in_ok-extend_from_slice.ensures.items)
    (rw (c.to_be_bytes.ensures, c.magic.ensures, c.to_be_bytes-2.ensures, c.bytes.ensures, c.to_be_bytes-3.ensures, c.to_be_bytes-4.ensures, c.to_be_bytes-5.ensures) (one_chain c.args.out.now.items _ _ _ _ _ _ _))
