use Rattle.std.proofs.Common.{sym, ◌∙◌, ap, append-nil, ◌++◌}
use Rattle.char_sequence.specs.Cells.{shown_values}
use Rattle.char_sequence.specs.Chunks.{cells_of, from}
use Rattle.char_sequence.proofs.StartLemmas.{fewer}
use Rattle.char_sequence.proofs.ReadLemmas.{values_more}
use Rattle.char_sequence.proofs.reading.values.Goals as goal

pub loop-cell-preserved : goal.loop-cell-preserved
loop-cell-preserved c = record {
  place = c.in-Some.ensures.place;
  found = values_more (cells_of c.args.chunks.now) (from c.args.chunks.now c.loop-cell.at.chunk c.loop-cell.at.at)
      (from c.args.chunks.now c.in-Some.behind.chunk c.in-Some.behind.at) c.loop-cell.found.items c.push_value.new.found.items c.in-Some.cell
      c.loop-cell.invariant.found c.in-Some.ensures.first c.in_ok-push_value.ensures;
}

pub loop-cell-smaller : goal.loop-cell-smaller
loop-cell-smaller c = fewer c.args.chunks.now c.loop-cell.at c.in-Some.behind c.in-Some.cell c.in-Some.ensures

pub returns : goal.returns
returns c =
    sym (c.loop-cell.invariant.found ∙ (ap (λ cs. c.loop-cell.found.items ++ shown_values cs) c.in_default.ensures ∙ append-nil c.loop-cell.found.items))
