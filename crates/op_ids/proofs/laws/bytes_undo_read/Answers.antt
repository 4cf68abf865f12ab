use Rattle.std.proofs.Common.{◌≡◌, ◌<◌, ℕ, length, get_or, rules}
use Rattle.op_ids.proofs.ByteLemmas.{to_be_bytes-from_be_bytes_16}
use Rattle.op_ids.proofs.laws.bytes_undo_read.Goals as goal

pub returns : goal.returns
returns c =
    let size : length c.args.bytes ≡ 16 = search rules in
    let small : (i : ℕ) → get_or c.args.bytes i 0 < 256 = search rules in
    to_be_bytes-from_be_bytes_16 c.args.bytes size small
