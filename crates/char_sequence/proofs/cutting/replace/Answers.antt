use Rattle.std.proofs.Common.{◌≡◌, ◌+◌, drop, ap, ◌∙◌, arith}
use Rattle.char_sequence.proofs.CuttingLemmas.{drained, past_all, spliced}
use Rattle.char_sequence.proofs.cutting.replace.Goals as goal
use Rattle.char_sequence.proofs.cutting.replace.Goals.{then-i-len, else-i-len}

pub returns-clause-put : goal.returns-clause-put
returns-clause-put c =
    let old = c.args.chunks.now.items in
    let put = c.in_ok-splice.ensures.items in
    let all = drained put.0 put.1 c.args.by.items put.2.0 (put.2.1 ∙ c.args.by.ok.0) put.3 in
    let same : drop c.if-i-len.end old ≡ drop (c.args.i + 1) old =
    elim c.if-i-len.branch [
      | then-i-len w ↦ ap (λ n. drop n old) w.end-is
      | else-i-len w ↦ ap (λ n. drop n old) w.end-is ∙ past_all old c.args.i
          (let out = w.if-i-len.false in let long = c.len.ensures in let ok = c.args.chunks.now.ok.0 in omega arith)
    ] in
    spliced old _ c.args.by.items put.1 c.args.i c.if-i-len.end all put.4 same
