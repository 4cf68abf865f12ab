use Rattle.std.proofs.Common.{◌+◌, ◌*◌, ◌/◌, ◌++◌, length, drop, ap, ◌∙◌}
use Rattle.group_commit.proofs.TailLemmas.{tail_parts}
use Rattle.group_commit.proofs.stream_tail.next_tail.Goals as goal

pub returns : goal.returns
returns c =
    let full = 4096 * ((length c.args.tail.now + length c.args.more.now) / 4096) in
    c.in_ok-extend_from_slice-2.ensures.items
    ∙ ap (λ a. a ++ c.behind-2.result.now) (c.in_ok-extend_from_slice.ensures.items ∙ ap (λ n. n ++ c.behind.result.now) c.new-next.ensures.items ∙ c.behind.ensures)
    ∙ ap (λ b. drop full c.args.tail.now ++ b) (c.behind-2.ensures ∙ ap (λ n. drop n c.args.more.now) c.saturating_sub.ensures)
    ∙ tail_parts c.args.tail.now c.args.more.now
