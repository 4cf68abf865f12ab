use Rattle.std.proofs.Common.{◌≡◌, List, ℕ, length, ap, arith}
use Rattle.change_codec.specs.Spelling.{number_bytes}
use Rattle.piece_codec.specs.Stream.{spelled_pieces}
use Rattle.causal_sync.proofs.Spellings.{ops_spelled}
use Rattle.causal_sync.proofs.put_frame.spelled_ops.Goals as goal

pub returns : goal.returns
unfolding number_bytes
returns c =
    let records = c.in_ok-records.records in
    let spelled = c.in_ok-records.ensures.value in
    let size : c.len.result ≡ length (spelled_pieces c.args.pieces.now) = (let items = records.ok.0 in omega (arith, c.len.ensures, items, ap (λ (x : List ℕ). length x) spelled)) in
    rw (c.in_ok-extend_from_slice-3.ensures.items, c.deref.ensures.value, spelled, c.in_ok-extend_from_slice-2.ensures.items, c.in_ok-extend_from_slice.ensures.items, c.in_ok-bytes.ensures, c.to_be_bytes.ensures)
    (ops_spelled c.args.pieces.now c.len.result size)
