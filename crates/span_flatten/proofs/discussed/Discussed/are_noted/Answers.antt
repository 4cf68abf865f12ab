use Rattle.std.proofs.Common.{inl, inr, ◌∙◌}
use Rattle.std.proofs.lemmas.Bool.{both_ways, cases_Bool}
use Rattle.span_flatten.proofs.NotedLemmas.{noted_other, noted_same}
use Rattle.span_flatten.proofs.discussed.Discussed.are_noted.Goals as goal

pub returns : goal.returns
returns c = λ ids ms set noted are.
    elim (cases_Bool c.is_empty.result) [
      | inl none ↦ none ∙ noted_same c.args.self.now ids ms set (c.is_empty.ensures.0 none) noted are
      | inr some ↦ some ∙ noted_other c.args.self.now ids ms set (λ none. both_ways c.is_empty.result some (c.is_empty.ensures.1 none)) noted are
    ]
