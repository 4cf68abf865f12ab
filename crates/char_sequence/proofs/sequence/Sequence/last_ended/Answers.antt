use Rattle.std.proofs.Common.{◌∙◌, ap}
use Rattle.op_model.specs.Made.{tombstones_at}
use Rattle.char_sequence.specs.Chunks.{cells_of, from}
use Rattle.char_sequence.specs.Reading.{last_ended}
use Rattle.char_sequence.proofs.EndedLemmas.{ended_of_characters}
use Rattle.char_sequence.proofs.OnceLemmas.{once_content}
use Rattle.char_sequence.proofs.ReadLemmas.{run_there}
use Rattle.char_sequence.proofs.sequence.Sequence.last_ended.Goals as goal

pub returns : goal.returns
returns g c = λ ops doc holds.
    let same = ap cells_of c.self.view_is ∙ holds.content in
    c.last_ended.ensures (once_content (cells_of c.self.inside.chunks) ops doc (record { orderly = holds.orderly; content = same }))
    ∙ ap (last_ended (g.M.EndsAfter.ends_after c.args.marks.now) c.args.before)
    (run_there ops doc c.args.count (cells_of c.self.inside.chunks) (from c.self.inside.chunks c.behind-from.result.chunk c.behind-from.result.at)
    same c.behind-from.ensures.rest)
    ∙ ended_of_characters (g.M.EndsAfter.ends_after c.args.marks.now) c.args.before (tombstones_at ops doc c.args.count)
