use Rattle.std.proofs.Common.{◌∙◌, ap}
use Rattle.std.proofs.lemmas.Result.{IfOk-weaker}
use Rattle.char_sequence.specs.Chunks.{cells_of, from}
use Rattle.char_sequence.proofs.ReadLemmas.{run_there}
use Rattle.char_sequence.proofs.sequence.Sequence.run_after.Goals as goal

pub returns : goal.returns
returns c = IfOk-weaker c.tombstones.result _ _ (λ run is_run. λ ops doc holds.
    is_run ∙ run_there ops doc c.args.count (cells_of c.self.inside.chunks)
    (from c.self.inside.chunks c.behind.result.chunk c.behind.result.at) (ap cells_of c.self.view_is ∙ holds.content) c.behind.ensures.rest)
    c.tombstones.ensures
