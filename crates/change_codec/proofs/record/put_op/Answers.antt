use Rattle.std.proofs.Common.{◌≡◌, ◌-◌, length, refl, append_assoc, arith}
use Rattle.change_codec.specs.Spelling.{body_bytes, spelled}
use Rattle.change_codec.proofs.Lengths.{length-bytes32, length_body}
use Rattle.change_codec.proofs.record.put_op.Goals as goal

pub put_u32-requires : goal.put_u32-requires
put_u32-requires c =
    omega (arith, length-bytes32 (c.record_length-len.result - 4), length_body c.args.op.now, c.record_length-len.ensures.value, c.in_ok-reserve.ensures.ok)

pub put_body-requires : goal.put_body-requires
put_body-requires c =
    omega (arith, length-bytes32 (c.record_length-len.result - 4), length_body c.args.op.now, c.record_length-len.ensures.value, c.in_ok-reserve.ensures.ok, c.put_u32.ensures.len, c.put_u32.ensures.capacity)

pub returns-clause-ok : goal.returns-clause-ok
unfolding spelled
returns-clause-ok c =
    let len : c.record_length-len.result - 4 ≡ length (body_bytes c.args.op.now) = omega (arith, length_body c.args.op.now, c.record_length-len.ensures.value) in
    rw (c.put_body.ensures.items, c.put_u32.ensures.items, c.in_ok-reserve.ensures.items, append_assoc, len) refl
