use Rattle.std.proofs.Common.{◌≡◌, ◌+◌, ◌≤◌, ◌<◌, ◌⊎◌, inl, inr, [], length, get_or, sym, arith}
use Rattle.char_sequence.specs.Cells.{shown}
use Rattle.char_sequence.proofs.HiddenLemmas.{hides_chunk, rest_hidden}
use Rattle.char_sequence.proofs.SizeLemmas.{size_read}
use Rattle.char_sequence.proofs.hidden.next_chunk.Goals as goal
use Rattle.char_sequence.proofs.hidden.next_chunk.Goals.{else-at-size-via-then-at-size+else-size-gt0, else-at-size-via-else-at-size}

pub returns-clause-hidden : goal.returns-clause-hidden
returns-clause-hidden c =
    let own = size_read c.args.chunks.now c.args.at.now.chunk c.in_ok-size.size (sym c.in_ok-size.ensures.size) in
    let more : c.args.at.now.chunk + 1 < length c.args.chunks.now = (let test = c.if-next-len.false in let all = c.len.ensures in omega arith) in
    let k = get_or c.args.chunks.now c.args.at.now.chunk [] in
    let passed : (length k ≤ c.args.at.now.at) ⊎ (length (shown k) ≡ 0) = elim c.else-at-size.branch [
      | else-at-size-via-then-at-size+else-size-gt0 w ↦ inr (let none = w.if-size-gt0.false in let is = own.2 in omega arith)
      | else-at-size-via-else-at-size w ↦ inl (let end = w.if-at-size.false in let is = own.1 in omega arith)
    ] in
    hides_chunk c.args.chunks.now c.args.at.now more (rest_hidden k c.args.at.now.at passed)
