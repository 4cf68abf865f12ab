use Rattle.std.proofs.Common.{◌<◌, ◌^◌, length, arith}
use Rattle.char_sequence.proofs.AppendLemmas.{appended, fits_appended}
use Rattle.char_sequence.proofs.chunks.Chunks.append.Goals as goal

pub overflow_add-self : goal.overflow_add-self
overflow_add-self c =
    let held = c.self.inside.chunks.items in
    let room : length held < 2 ^ 54 =
    (let test = c.if-len-ge-MOST_CHUNKS.false in let many = c.len.ensures in let ok = c.self.inside.chunks.ok.0 in omega arith) in
    let fits = fits_appended held c.in_ok-chunk.chunk c.args.cells.now c.self.inside.shown c.shown.result c.in_ok-chunk.ensures
    (rw (← c.self.view_is) at c.requires.sized) c.requires.many c.requires.few room c.self.invariant.2 c.shown.ensures.shown in
    omega arith

pub invariant_of-self-2 : goal.invariant_of-self-2
invariant_of-self-2 c =
    let held = c.self.inside.chunks.items in
    let room : length held < 2 ^ 54 =
    (let test = c.if-len-ge-MOST_CHUNKS.false in let many = c.len.ensures in let ok = c.self.inside.chunks.ok.0 in omega arith) in
    let now = rw c.in_ok-reserve.ensures.items at c.push_reserved.ensures.items in
    let all = appended held c.push_reserved.new.self.items c.in_ok-chunk.chunk c.args.cells.now c.self.inside.shown c.shown.result now
    c.in_ok-chunk.ensures (rw (← c.self.view_is) at c.requires.sized) c.requires.many c.requires.few room c.self.invariant.2 c.shown.ensures.shown in
    let groups = rw (c.in_ok-reserve-2.ensures.items, c.deref.ensures.value) at c.count_last.ensures in
    (all.0, all.1, all.2, groups held c.in_ok-chunk.chunk c.self.invariant.3 now)
