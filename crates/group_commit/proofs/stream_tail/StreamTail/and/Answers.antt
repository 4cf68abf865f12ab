use Rattle.std.proofs.Common.{◌++◌, ap, sym, ◌∙◌}
use Rattle.group_commit.specs.Saved.{tail_of}
use Rattle.group_commit.proofs.TailLemmas.{tail_more}
use Rattle.group_commit.proofs.stream_tail.StreamTail.and.Goals as goal

pub invariant_of-result : goal.invariant_of-result
invariant_of-result c =
    c.in_ok-tail.ensures ∙ ap (λ t. tail_of (t ++ c.args.more.now)) (c.deref.ensures.value ∙ c.self.invariant)
    ∙ tail_more c.self.inside.written.items c.args.more.now ∙ ap tail_of (sym c.and.ensures)
