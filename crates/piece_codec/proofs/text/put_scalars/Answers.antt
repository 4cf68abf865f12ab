use Rattle.std.proofs.Common.{◌∙◌, append_assoc, ap, length, refl, arith}
use Rattle.std.proofs.lemmas.List.{append-nil}
use Rattle.change_codec.proofs.Lengths.{length-bytes32}
use Rattle.piece_codec.proofs.Lengths.{scalars_from, length-scalars_from, no_scalars}
use Rattle.piece_codec.proofs.text.put_scalars.Goals as goal

pub put_u32-requires : goal.put_u32-requires
put_u32-requires c =
    let at = c.loop-value in
    let len = length-scalars_from c.args.values.now at.value-index c.value-item.result c.loop-value-test.true c.value-item.is in
    omega (arith, len, length-bytes32 c.value-item.result, c.requires, at.invariant.len, at.invariant.capacity)

pub loop-value-preserved : goal.loop-value-preserved
loop-value-preserved c =
    let at = c.loop-value in
    let put = c.put_u32.ensures in
    let len = length-scalars_from c.args.values.now at.value-index c.value-item.result c.loop-value-test.true c.value-item.is in
    let next = scalars_from c.args.values.now at.value-index c.value-item.result c.loop-value-test.true c.value-item.is in
    record {
      items = rw (put.items, append_assoc, ← next) at.invariant.items;
      len = omega (arith, len, length-bytes32 c.value-item.result, at.invariant.len, put.len);
      capacity = put.capacity ∙ at.invariant.capacity;
    }

pub returns : goal.returns
returns c =
    let at = c.loop-value in
    let none = no_scalars c.args.values.now at.value-index c.loop-value-test.false in
    record {
      items = rw (← at.invariant.items, none, append-nil at.out.items) refl;
      len = omega (arith, at.invariant.len, ap length none);
      capacity = at.invariant.capacity;
    }
