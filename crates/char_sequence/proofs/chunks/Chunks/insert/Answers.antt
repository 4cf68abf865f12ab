use Rattle.std.proofs.Common.{length, refl, sym, ap, rules, arith}
use Rattle.std.proofs.lemmas.List.{nil_from_length}
use Rattle.char_sequence.proofs.ReplacedLemmas.{before_from, few_set, one_cell, put_cells, put_sized}
use Rattle.char_sequence.proofs.SumLemmas.{counted_set, fits_set}
use Rattle.char_sequence.proofs.GroupLemmas.{written_back}
use Rattle.char_sequence.proofs.chunks.Chunks.insert.Goals as goal

pub overflow_add-self : goal.overflow_add-self
overflow_add-self c =
    let fits = fits_set c.self.inside.chunks.items c.self.inside.shown c.shown-before.result c.shown-after.result c.self.invariant.0.sized c.self.invariant.1
    c.self.invariant.2 c.shown-after.ensures.few in
    omega arith

pub invariant_of-self-then-has_room : goal.invariant_of-self-then-has_room
invariant_of-self-then-has_room c =
    let room = rw (← c.self.view_is) at (c.if-has_room.ensures refl) in (
      put_sized c.self.inside.chunks.items c.args.i c.args.j c.index_mut-chunk.result.now c.insert.new.self c.cell-item.result c.self.invariant.0
          room.0 c.index_mut-chunk.ensures.value room.1 c.in_ok-insert.ensures.put,
      few_set c.self.inside.chunks.items c.args.i c.insert.new.self c.self.invariant.1,
      counted_set c.self.inside.chunks.items c.args.i c.self.inside.shown c.shown-before.result c.shown-after.result c.index_mut-chunk.result.now c.insert.new.self
          room.0 c.index_mut-chunk.ensures.value c.self.invariant.2 c.shown-before.ensures.shown c.shown-after.ensures.shown,
      (let ok = c.self.inside.groups.ok.0 in let all = ap length c.deref_mut.ensures.value in let same = c.recount.auto.groups in
          rw (written_back c.self.inside.groups.len c.recount.new.groups c.self.inside.groups.items (omega arith))
          (c.recount.ensures c.self.inside.chunks.items c.index_mut-chunk.result.now c.insert.new.self (rw c.deref_mut.ensures.value c.self.invariant.3)
          c.self.invariant.0.sized c.self.invariant.1 room.0 c.index_mut-chunk.ensures.value c.shown-before.ensures.shown c.shown-after.ensures.shown
          c.shown-after.ensures.few)),
    )

pub returns-then-has_room-clause-put : goal.returns-then-has_room-clause-put
returns-then-has_room-clause-put c =
    let room = rw (← c.self.view_is) at (c.if-has_room.ensures refl) in
    let one = one_cell c.args.cells.now c.cell-item.result c.in-len1.len_at_least c.in-len1.len_below c.cell-item.is in
    rw (← c.self.view_is)
    (put_cells c.self.inside.chunks.items c.args.i c.args.j c.index_mut-chunk.result.now c.insert.new.self c.args.cells.now c.cell-item.result
    room.0 c.index_mut-chunk.ensures.value c.in_ok-insert.ensures.put one)

pub returns-then-is_empty-clause-put : goal.returns-then-is_empty-clause-put
returns-then-is_empty-clause-put c =
    let none = nil_from_length c.args.cells.now (search rules) in
    rw none (sym (before_from c.args.self.now c.args.i c.args.j c.requires))
