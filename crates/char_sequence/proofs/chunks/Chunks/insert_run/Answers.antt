use Rattle.std.proofs.Common.{length, refl, ◌∙◌, ap, arith}
use Rattle.char_sequence.proofs.ReplacedLemmas.{few_replaced, run_cells, run_sized}
use Rattle.char_sequence.proofs.SumLemmas.{counted_run, fits_run}
use Rattle.char_sequence.proofs.GroupLemmas.{front_groups, front_stays, written_back}
use Rattle.char_sequence.proofs.chunks.Chunks.insert_run.Goals as goal

pub overflow_add-self : goal.overflow_add-self
overflow_add-self c =
    let held = c.self.inside.chunks.items in
    let joined = rw c.deref.ensures.value at c.in_ok-all.ensures in
    let place = rw (← c.self.view_is) at c.requires in
    let are = run_sized held c.args.i c.args.j c.in_ok-cut.cut.items _ _ c.deref-2.result.now c.args.cells.now c.self.invariant.0 place
    refl (c.deref-2.ensures.value ∙ joined) c.in_ok-cut.ensures.chunks c.in_ok-cut.ensures.halved c.in_ok-replace.ensures.put in
    let few = few_replaced held c.in_ok-cut.cut.items c.replace.new.chunks.items c.args.i c.in_ok-replace.ensures.put
    (let test = c.if-len-before.false in let here = c.len-before.ensures in let more = c.len.ensures in let few = c.self.invariant.1 in
    let long = c.self.inside.chunks.ok.0 in let by_long = c.in_ok-cut.cut.ok.0 in omega arith) in
    let put = run_cells held c.args.i c.args.j c.in_ok-cut.cut.items _ _ c.deref-2.result.now c.args.cells.now
    refl (c.deref-2.ensures.value ∙ joined) c.in_ok-cut.ensures.cells c.in_ok-replace.ensures.put in
    let counted = counted_run held c.replace.new.chunks.items c.args.i c.args.j c.self.inside.shown c.shown_in.result c.args.cells.now place put
    c.self.invariant.2 c.shown_in.ensures in
    let fits = fits_run c.replace.new.chunks.items c.self.inside.shown c.shown_in.result are.sized few counted in
    omega arith

pub invariant_of-self-2 : goal.invariant_of-self-2
invariant_of-self-2 c =
    let joined = rw c.deref.ensures.value at c.in_ok-all.ensures in
    let place = rw (← c.self.view_is) at c.requires in (
      run_sized c.self.inside.chunks.items c.args.i c.args.j c.in_ok-cut.cut.items _ _ c.deref-2.result.now c.args.cells.now c.self.invariant.0 place
          refl (c.deref-2.ensures.value ∙ joined) c.in_ok-cut.ensures.chunks c.in_ok-cut.ensures.halved c.in_ok-replace.ensures.put,
      few_replaced c.self.inside.chunks.items c.in_ok-cut.cut.items c.replace.new.chunks.items c.args.i c.in_ok-replace.ensures.put
          (let test = c.if-len-before.false in let here = c.len-before.ensures in let more = c.len.ensures in let few = c.self.invariant.1 in
          let long = c.self.inside.chunks.ok.0 in let by_long = c.in_ok-cut.cut.ok.0 in omega arith),
      counted_run c.self.inside.chunks.items c.replace.new.chunks.items c.args.i c.args.j c.self.inside.shown c.shown_in.result c.args.cells.now place
          (run_cells c.self.inside.chunks.items c.args.i c.args.j c.in_ok-cut.cut.items _ _ c.deref-2.result.now c.args.cells.now
          refl (c.deref-2.ensures.value ∙ joined) c.in_ok-cut.ensures.cells c.in_ok-replace.ensures.put)
          c.self.invariant.2 c.shown_in.ensures,
      (let ok = c.in_ok-groups.groups.ok.0 in let all = ap length c.deref_mut.ensures.value in let same = c.count.auto.groups in
          rw (written_back c.in_ok-groups.groups.len c.count.new.groups c.in_ok-groups.groups.items (omega arith))
          (rw c.deref-3.ensures.value at c.count.ensures)),
    )

pub returns-clause-put : goal.returns-clause-put
returns-clause-put c =
    let joined = rw c.deref.ensures.value at c.in_ok-all.ensures in
    rw (← c.self.view_is)
    (run_cells c.self.inside.chunks.items c.args.i c.args.j c.in_ok-cut.cut.items _ _ c.deref-2.result.now c.args.cells.now
    refl (c.deref-2.ensures.value ∙ joined) c.in_ok-cut.ensures.cells c.in_ok-replace.ensures.put)

pub count-requires-clause-same : goal.count-requires-clause-same
count-requires-clause-same c = λ g below inside.
    let place = rw (← c.self.view_is) at c.requires in
    let stays = front_stays c.self.inside.chunks.items _ _ c.args.i c.args.j place c.in_ok-replace.ensures.put in
    rw (c.deref-4.ensures.value, c.deref-3.ensures.value)
    (front_groups c.self.inside.groups.items c.self.inside.chunks.items _ c.args.i c.self.invariant.3 stays.0 stays.1 g below)
