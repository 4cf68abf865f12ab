use Rattle.std.proofs.Common.{refl}
use Rattle.span_flatten.proofs.NotedLemmas.{noted_now}
use Rattle.span_flatten.proofs.discussed.Discussed.note.Goals as goal

pub returns : goal.returns
returns c = λ ms set are. (record { ranks = are.ranks; standing = are.standing }, noted_now c.args.self.now _ ms set refl c.clear.ensures.empty are)
