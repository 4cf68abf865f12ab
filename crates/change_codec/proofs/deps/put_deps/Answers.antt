use Rattle.std.proofs.Common.{◌∙◌, append_assoc, arith}
use Rattle.change_codec.proofs.DepsLemmas.{entries_from, length-entries_from}
use Rattle.change_codec.proofs.deps.put_deps.Goals as goal

pub put_entry-requires : goal.put_entry-requires
put_entry-requires c =
    let at = c.loop-entry in
    let len = length-entries_from c.entries-entry-items.result.now at.entry-index c.entry-item.result c.loop-entry-test.true c.entry-item.is in
    omega (arith, len, at.invariant.len, at.invariant.capacity)

pub loop-entry-preserved : goal.loop-entry-preserved
loop-entry-preserved c =
    let at = c.loop-entry in
    let entries = c.entries-entry-items.result.now in
    let put = c.put_entry.ensures in
    let len = length-entries_from entries at.entry-index c.entry-item.result c.loop-entry-test.true c.entry-item.is in
    let next = entries_from entries at.entry-index c.entry-item.result c.loop-entry-test.true c.entry-item.is in
    record {
      items = rw (put.items, append_assoc, ← next) at.invariant.items;
      len = omega (arith, len, at.invariant.len, put.len);
      capacity = put.capacity ∙ at.invariant.capacity;
    }
