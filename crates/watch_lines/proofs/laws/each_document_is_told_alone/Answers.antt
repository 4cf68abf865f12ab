use Rattle.watch_lines.specs.TellingSeveral.{none_told}
use Rattle.watch_lines.proofs.AloneLemmas.{told_alone}
use Rattle.watch_lines.proofs.laws.each_document_is_told_alone.Goals as goal

pub returns : goal.returns
returns c = λ given doc. told_alone none_told given doc
