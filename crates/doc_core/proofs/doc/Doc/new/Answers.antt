use Rattle.std.proofs.Common.{refl}
use Rattle.char_sequence.proofs.HoldsLemmas.{holds_empty}
use Rattle.doc_core.proofs.doc.Doc.new.Goals as goal

pub returns-clause-empty : goal.returns-clause-empty
returns-clause-empty c = record {
  characters = rw c.new.ensures (holds_empty c.args.doc);
  marks = c.new-2.ensures c.args.doc;
  rev = refl;
  writers = c.new-3.ensures;
}
