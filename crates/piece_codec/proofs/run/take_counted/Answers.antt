use Rattle.std.proofs.Common.{◌≡◌, true, arith}
use Rattle.change_codec.specs.Lent.{deps_of}
use Rattle.piece_codec.specs.Reading.{first_of, is_count}
use Rattle.piece_codec.proofs.RunLaws.{counted_piece}
use Rattle.piece_codec.proofs.run.take_counted.Goals as goal

pub make_run-requires-clause-piece : goal.make_run-requires-clause-piece
make_run-requires-clause-piece c =
    let told = c.is_count.ensures in
    let passed = c.if-not-is_count.false in
    let counted : is_count (first_of c.args.front.now.head (deps_of c.args.front.now.deps.now) c.args.front.now.tail 0) c.args.front.now.tail.count ≡ true = cc in
    counted_piece c.args.front.now.head (deps_of c.args.front.now.deps.now) c.args.front.now.tail c.args.bytes.now c.in-Ok.value c.in-Ok.others.items (λ i. omega (arith, c.type_inv.bytes i)) counted c.in-Ok.ensures
