use Rattle.std.proofs.Common.{[], true, length, ap, arith}
use Rattle.std.proofs.lemmas.List.{get_or_default}
use Rattle.char_sequence.proofs.ReplacedLemmas.{chunk_sizes, few_set, removed_cells, set_sized}
use Rattle.char_sequence.proofs.SumLemmas.{counted_set, fits_set}
use Rattle.char_sequence.proofs.GroupLemmas.{written_back}
use Rattle.char_sequence.proofs.chunks.Chunks.remove.Goals as goal

pub overflow_add-self : goal.overflow_add-self
overflow_add-self c =
    let fits = fits_set c.self.inside.chunks.items c.self.inside.shown c.shown-before.result c.shown-after.result c.self.invariant.0.sized c.self.invariant.1
    c.self.invariant.2 c.shown-after.ensures.few in
    omega arith

pub invariant_of-self : goal.invariant_of-self
invariant_of-self c =
    let held = c.self.inside.chunks.items in
    let inside = rw (← c.self.view_is) at c.requires.0 in
    let sizes = chunk_sizes held c.args.i c.self.invariant.0 inside in
    let same = c.index_mut-chunk.ensures.value in
    let one = get_or_default held c.args.i c.index_mut-chunk.result.now [] inside in
    let long = rw (same, one) at c.remove.ensures.len in (
      set_sized held c.args.i c.remove.new.self c.self.invariant.0 inside (omega arith) (omega arith) (omega arith),
      few_set held c.args.i c.remove.new.self c.self.invariant.1,
      counted_set held c.args.i c.self.inside.shown c.shown-before.result c.shown-after.result c.index_mut-chunk.result.now c.remove.new.self inside same
          c.self.invariant.2 c.shown-before.ensures.shown c.shown-after.ensures.shown,
      (let ok = c.self.inside.groups.ok.0 in let all = ap length c.deref_mut.ensures.value in let as_many = c.recount.auto.groups in
          rw (written_back c.self.inside.groups.len c.recount.new.groups c.self.inside.groups.items (omega arith))
          (c.recount.ensures held c.index_mut-chunk.result.now c.remove.new.self (rw c.deref_mut.ensures.value c.self.invariant.3)
          c.self.invariant.0.sized c.self.invariant.1 inside same c.shown-before.ensures.shown c.shown-after.ensures.shown c.shown-after.ensures.few)),
    )

pub returns : goal.returns
returns c = λ d there.
    let inside = rw (← c.self.view_is) at c.requires.0 in
    rw (← c.self.view_is)
    (removed_cells c.self.inside.chunks.items c.args.i c.args.j c.index_mut-chunk.result.now c.remove.new.self d (record d { is_removed = true }) inside
    c.index_mut-chunk.ensures.value (rw c.self.view_is there) (c.remove.ensures.removed d))
