use Rattle.std.proofs.Common.{◌<◌, arith, refl}
use Rattle.char_sequence.proofs.GapLemmas.{first_gap, gap_behind}
use Rattle.char_sequence.proofs.ReadLemmas.{seen_none}
use Rattle.char_sequence.specs.Chunks.{cells_of}
use Rattle.char_sequence.proofs.shown.gap.Goals as goal

pub returns-then-count-eq0 : goal.returns-then-count-eq0
returns-then-count-eq0 c = (let none = c.if-count-eq0.true in omega arith, refl, first_gap c.args.chunks.now c.args.count c.if-count-eq0.true)

pub returns-in-Some : goal.returns-in-Some
returns-in-Some c =
    let some : 0 < c.args.count = (let test = c.if-count-eq0.false in omega arith) in
    let is = gap_behind c.args.chunks.now c.args.count c.in-Some.seen some c.in-Some.ensures.found in
    (is.0, refl, is.1)

pub returns-in-None : goal.returns-in-None
returns-in-None c =
    let none = seen_none (cells_of c.args.chunks.now) _ c.in-None.ensures.found in
    let test = c.if-count-eq0.false in
    omega arith
