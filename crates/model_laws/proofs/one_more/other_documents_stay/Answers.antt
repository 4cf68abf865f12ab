use Rattle.std.proofs.lemmas.Bool.{ne_eqb}
use Rattle.model_laws.proofs.Growth.{other_walk, other_text, other_spans, other_rev}
use Rattle.model_laws.proofs.one_more.other_documents_stay.Goals as goal

pub returns : goal.returns
returns c = record {
  walk = λ ops doc op n. other_walk ops doc op (ne_eqb op.doc doc n);
  text = λ ops doc op n. other_text ops doc op (ne_eqb op.doc doc n);
  spans = λ ops doc op n. other_spans ops doc op (ne_eqb op.doc doc n);
  rev = λ ops doc op n. other_rev ops doc op (ne_eqb op.doc doc n);
}
