use Rattle.std.proofs.Common.{sym, ◌∙◌, ap, arith}
use Rattle.char_sequence.specs.Links.{cell_at_place}
use Rattle.char_sequence.proofs.LinkLemmas.{passed_none, passed_more, passed_to_end, passed_to_less, passed_to_none}
use Rattle.char_sequence.proofs.links.past.Goals as goal

pub loop-init : goal.loop-init
loop-init c = λ order cs leads. passed_none c.args.cell.now c.args.from order cs

pub returns-in-None : goal.returns-in-None
returns-in-None c = λ order cs leads few.
    passed_to_none c.args.cells.now c.args.next.now c.args.cell.now c.args.from order cs c.loop.counter c.loop.at leads
    (c.loop.invariant order cs leads)
    (ap (cell_at_place c.args.cells.now) (sym c.next_of-behind.ensures) ∙ (sym c.cell_at.ensures ∙ c.in-None.is))

pub returns-then-not-is_below : goal.returns-then-not-is_below
returns-then-not-is_below c = λ order cs leads few.
    passed_to_less c.args.cells.now c.args.next.now c.args.cell.now c.in-Some.other c.args.from order cs c.loop.counter c.loop.at leads
    (c.loop.invariant order cs leads) (ap (cell_at_place c.args.cells.now) (sym c.next_of-behind.ensures) ∙ (sym c.cell_at.ensures ∙ c.in-Some.is))
    (sym c.is_below.ensures ∙ c.if-not-is_below.true)

pub loop-preserved : goal.loop-preserved
loop-preserved c = λ order cs leads.
    rw c.next_of-behind.ensures
    (passed_more c.args.cells.now c.args.next.now c.args.cell.now c.in-Some.other c.args.from order cs c.loop.counter c.loop.at leads
    (c.loop.invariant order cs leads) (ap (cell_at_place c.args.cells.now) (sym c.next_of-behind.ensures) ∙ (sym c.cell_at.ensures ∙ c.in-Some.is))
    (sym c.is_below.ensures ∙ c.if-not-is_below.false))

pub returns : goal.returns
returns c = λ order cs leads few.
    passed_to_end c.args.cells.now c.args.next.now c.args.cell.now c.args.from order cs c.loop.counter c.loop.at leads
    (c.loop.invariant order cs leads)
    (omega arith)
