use Rattle.std.proofs.Common.{arith, ap, length, ◌∙◌}
use Rattle.std.proofs.Common.{List}
use Rattle.op_pieces.specs.Pieces.{Run}
use Rattle.causal_sync.proofs.Told.{cut_few}
use Rattle.causal_sync.proofs.link.Link.say_ops.Goals as goal

pub spelled_ops-requires : goal.spelled_ops-requires
spelled_ops-requires c =
    let pieces = c.deref.ensures.value ∙ c.in_ok-cut-in-Ok.ensures in
    omega (arith, ap (λ (ps : List Run). length ps) pieces, cut_few c.args.ops.now, c.requires.most)
