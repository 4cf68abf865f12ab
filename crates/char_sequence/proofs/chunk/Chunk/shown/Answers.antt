use Rattle.char_sequence.proofs.ChunkLemmas.{few_shown}
use Rattle.char_sequence.proofs.chunk.Chunk.shown.Goals as goal

pub returns-clause-few : goal.returns-clause-few
returns-clause-few c = few_shown _ _ c.self.invariant
