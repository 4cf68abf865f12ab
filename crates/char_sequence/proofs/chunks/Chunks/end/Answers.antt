use Rattle.std.proofs.Common.{◌≡◌, ◌-◌, suc, length, arith}
use Rattle.char_sequence.proofs.ReplacedLemmas.{end_before}
use Rattle.char_sequence.proofs.chunks.Chunks.end.Goals as goal

pub returns-in-Some-clause-before : goal.returns-in-Some-clause-before
returns-in-Some-clause-before c =
    let held = c.self.inside.chunks.items in
    let item = rw c.deref.ensures.value at c.in-Some.ensures.item in
    let some = item.3.0 in
    let ok = c.self.inside.chunks.ok.0 in
    let count : c.len.result ≡ length held = omega arith in
    let last : length held ≡ suc (length held - 1) = omega arith in
    rw (← c.self.view_is, c.len-in-Some.ensures, count) (end_before held (length held - 1) c.in-Some.last.now last item.1)
