use Rattle.std.proofs.Common.{sym, ◌∙◌, ap, map, subst}
use Rattle.op_model.specs.Made.{id_before, tombstones_at}
use Rattle.op_model.specs.Text.{visible}
use Rattle.char_sequence.specs.Chunks.{cells_of, from}
use Rattle.char_sequence.specs.Reading.{last_ended}
use Rattle.char_sequence.specs.Gaps.{IsGap}
use Rattle.char_sequence.proofs.EndedLemmas.{ended_of_characters}
use Rattle.char_sequence.proofs.GapLemmas.{before_gap}
use Rattle.char_sequence.proofs.OnceLemmas.{once_content}
use Rattle.char_sequence.proofs.ReadLemmas.{run_there}
use Rattle.char_sequence.proofs.sequence.Sequence.last_ended_at.Goals as goal

pub last_ended-requires : goal.last_ended-requires
last_ended-requires g c = (subst (λ held. IsGap held c.args.gap.now) (sym c.self.view_is) c.requires).place

pub returns : goal.returns
returns g c = λ ops doc holds.
    let held = c.self.inside.chunks in
    let gap = c.args.gap.now in
    let is = subst (λ held. IsGap held gap) (sym c.self.view_is) c.requires in
    let same = ap cells_of c.self.view_is ∙ holds.content in
    c.last_ended.ensures (once_content (cells_of held) ops doc (record { orderly = holds.orderly; content = same }))
    ∙ (ap (last_ended (g.M.EndsAfter.ends_after c.args.marks.now) gap.before)
    (run_there ops doc gap.count (cells_of held) (from held gap.place.chunk gap.place.at) same is.rest)
    ∙ ap (λ old. last_ended (g.M.EndsAfter.ends_after c.args.marks.now) old (map (λ c. c.id) (tombstones_at ops doc gap.count))) (before_gap ops doc held gap same is))
    ∙ ended_of_characters (g.M.EndsAfter.ends_after c.args.marks.now) (id_before (visible ops doc) gap.count) (tombstones_at ops doc gap.count)
