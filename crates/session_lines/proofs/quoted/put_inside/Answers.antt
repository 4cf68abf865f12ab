use Rattle.std.proofs.Common.{◌<◌, length, get_or, arith}
use Rattle.session_lines.proofs.PutLemmas.{◌>>◌, stops}
use Rattle.session_lines.proofs.QuotedLemmas.{inside-more}
use Rattle.session_lines.proofs.SaidLemmas.{same_at}
use Rattle.session_lines.proofs.quoted.put_inside.Goals as goal

pub loop-byte-preserved : goal.loop-byte-preserved
loop-byte-preserved c =
    let bytes = c.args.bytes.now in
    let i = c.loop-byte.byte-index in
    let within : i < length bytes = omega arith in
    rw (inside-more bytes i (get_or bytes i 0) within (same_at bytes i 0 _ within)) (c.loop-byte.invariant >> c.in_ok-put_byte.ensures)

pub returns-in_err-put_byte : goal.returns-in_err-put_byte
returns-in_err-put_byte c = stops c.from_residual.ensures.0 (c.loop-byte.invariant >> c.in_err-put_byte.ensures)
