-- Used by private functions and proofs alone.
--
-- What a pass over the characters of a document knows of the marks before and now, and of what changed.
use Rattle.std.specs.Prelude.{◌≡◌, ℕ, false, List, ◌++◌, length, take, Bool, true, not, ◌&&◌, drop, ◌+◌}
use Rattle.std.specs.List.{list_any}
use Rattle.op_model.specs.declared.mark.Marks.{Marks}
use Rattle.op_model.specs.declared.marking.Marking.{Marking}
use Rattle.op_model.specs.declared.op.Op.{Op}
use Rattle.op_model.specs.declared.change_step.ChangeStep.{ChangeStep}
use Rattle.op_model.specs.Changes.{step_of, steps}
use Rattle.op_model.specs.Marks.{markings}
use Rattle.op_model.specs.Spans.{is_same_marks}
use Rattle.op_model.specs.Walk.{walk}
use Rattle.char_sequence.specs.declared.cell.Cell.{Cell}
use Rattle.char_sequence.specs.Chunks.{ChunkCells}
use Rattle.char_sequence.specs.Content.{AreContent}
use Rattle.char_sequence.specs.Weave.{AreOnce}
use Rattle.span_flatten.specs.declared.active.Active.{Active}
use Rattle.span_flatten.specs.declared.marked.Marked.{Marked}
use Rattle.span_flatten.specs.declared.since.Since.{Since}
use Rattle.span_flatten.specs.declared.plan.Plan.{Plan}
use Rattle.span_flatten.specs.declared.change_sweep.ChangeSweep.{ChangeSweep}
use Rattle.span_flatten.specs.Deciding.{Decides}
use Rattle.span_flatten.specs.Formatting.{marks_in}
use Rattle.fixed_numbers.specs.declared.limits.TheConstants.{MAX_LISTED}
use Rattle.span_flatten.specs.Listing.{listed_steps}
use Rattle.span_flatten.specs.Picking.{picked}
use Rattle.span_flatten.specs.Since.{has_inserted, has_removed, older, IsSince}
use Rattle.span_flatten.specs.Spots.{has_chunk, may_cover, AreSpots, NotesChunks}
use Rattle.span_flatten.specs.Sweeping.{begun_at, ended_at, kept, IsActive}

-- the marks of a character that just the mark operations cover that have begun and not ended
abbrev pub marks_by : Active → List Marking → Marks
marks_by a ms = marks_in (picked ms (kept a))

-- what was looked at: the marks by all mark operations, and whether those by the mark operations of before are the same
pub record IsLooked (m : Marked) (olds ms : List Marking) : Type 0 where
  pub marks : m.marks ≡ marks_by m.present ms
  pub same : m.are_same ≡ is_same_marks (marks_by m.past olds) (marks_by m.present ms)

-- kept is what decides by those of before, and by all; unless some began or ended since, the marks were looked at
pub record IsDecided (m : Marked) (olds ms : List Marking) : Type 0 where
  pub past : Decides m.past.deciding olds (kept m.past)
  pub present : Decides m.present.deciding ms (kept m.present)
  pub fresh : m.is_changed ≡ false → IsLooked m olds ms

-- a given number of first cells were reached, and a given number of these passed
pub record IsMarked (m : Marked) (cells : List Cell) (olds ms : List Marking) (reached passed : ℕ) : Type 0 where
  pub past : IsActive m.past (length olds) (begun_at cells olds reached passed) (ended_at cells olds reached passed)
  pub present : IsActive m.present (length ms) (begun_at cells ms reached passed) (ended_at cells ms reached passed)
  pub decided : IsDecided m olds ms

-- what changed in the first k characters of a document, tombstones counted
abbrev pub told : List Op → List Op → ℕ → ℕ → List ChangeStep
told before more doc k = steps (step_of before (before ++ more) doc) (take k (walk (before ++ more) doc))

-- these steps tell what changed in the first k characters of whichever document these cells and mark operations are, since what is
-- noted came
abbrev pub IsTold : List ChangeStep → Since → List Cell → List Marking → ℕ → Type 0
IsTold ss since cells ms k = (before more : List Op) (doc : ℕ) → AreContent cells (before ++ more) doc → ms ≡ markings (before ++ more) doc
    → IsSince since before more doc → ss ≡ told before more doc k

-- the first k of these cells were passed, of which each id is one cell's
pub record IsPassed (s : ChangeSweep) (since : Since) (cells : List Cell) (ms : List Marking) (k : ℕ) : Type 0 where
  pub marked : AreOnce cells → IsMarked s.marked cells (older since ms) ms k k
  pub told : IsTold s.steps.items since cells ms k
  pub few : listed_steps s.steps.items + s.left ≡ MAX_LISTED

-- what changed in the first k of these cells is told; they were passed, unless the last ones were skipped
pub record IsOnWay (s : ChangeSweep) (since : Since) (cells : List Cell) (ms : List Marking) (k : ℕ) : Type 0 where
  pub here : s.is_here ≡ true → AreOnce cells → IsMarked s.marked cells (older since ms) ms k k
  pub told : IsTold s.steps.items since cells ms k
  pub few : listed_steps s.steps.items + s.left ≡ MAX_LISTED

-- noted is where these mark operations are in force, and each chunk with a character that came or went
pub record IsPlan (p : Plan) (held : ChunkCells) (since : Since) (ms : List Marking) : Type 0 where
  pub spots : AreSpots held p.spots.items ms
  pub came : NotesChunks held p.touched (has_inserted since)
  pub went : NotesChunks held p.touched (has_removed since)

-- by what is noted nothing changed in a chunk: no character came or went, and none of the mark operations since covers one
abbrev pub is_quiet : Plan → ℕ → ℕ → Bool
is_quiet p olds i = not (has_chunk p.touched i) && not (list_any (may_cover i) (drop olds p.spots.items))
