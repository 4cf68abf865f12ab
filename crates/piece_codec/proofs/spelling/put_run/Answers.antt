use Rattle.std.proofs.Common.{◌≡◌, length, refl, append_assoc, arith}
use Rattle.change_codec.proofs.Lengths.{length-bytes32}
use Rattle.piece_codec.specs.Spelling.{run_bytes, spelled_run}
use Rattle.piece_codec.proofs.spelling.put_run.Goals as goal

pub put_u32-requires : goal.put_u32-requires
put_u32-requires c =
    let value = c.body_length-len.ensures.value c.args.others.now refl in
    omega (arith, length-bytes32 c.body_length-len.result, c.in_ok-reserve.ensures.ok)

pub put_run_bytes-requires-clause-room : goal.put_run_bytes-requires-clause-room
put_run_bytes-requires-clause-room c =
    let value = c.body_length-len.ensures.value c.args.others.now refl in
    omega (arith, value, length-bytes32 c.body_length-len.result, c.in_ok-reserve.ensures.ok, c.put_u32.ensures.len, c.put_u32.ensures.capacity)

pub returns-clause-ok : goal.returns-clause-ok
unfolding spelled_run
returns-clause-ok c =
    let value : c.body_length-len.result ≡ length (run_bytes c.args.first.now c.args.others.now) = c.body_length-len.ensures.value c.args.others.now refl in
    rw (c.put_run_bytes.ensures.items, c.put_u32.ensures.items, c.in_ok-reserve.ensures.items, append_assoc, value) refl
