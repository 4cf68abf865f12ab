-- Files whose format has no runs: the first commit on such a file writes its whole list anew.
use Rattle.std.specs.Prelude.{◌≡◌, ℕ, ◌≤◌, Bool, true, not, List, length}
use Rattle.op_model.specs.declared.op.Op.{Op}
use Rattle.piece_codec.specs.Formats.{has_runs}
use Rattle.piece_codec.specs.Stream.{SpellsList}
use Rattle.stream_list.specs.Streams.{SpellsSome}
use Rattle.root_slots.specs.Root.{format_of, count_of}
use Rattle.group_commit.specs.Plan.{newest}
use Rattle.group_commit.specs.Saved.{Saved, base_of}

-- the format of the root's stream has no runs
abbrev pub moves : Saved → Bool
moves root = not (has_runs (format_of root.body))

-- what a commit over the root builds on: the root, or the same without its stream where it moves
abbrev pub base_for : Saved → Saved
base_for root = base_of (moves root) root

-- the bytes spell the root's operations in the newest format, and are no longer than its stream
pub record SpellsAnew (root : Saved) (bytes : List ℕ) : Type 0 where
  pub ops : List Op
  pub had : SpellsSome (format_of root.body) ops (count_of root.body) root.stream
  pub anew : SpellsList newest ops bytes
  pub short : length bytes ≤ length root.stream

-- where the root moves, they do
abbrev pub CanMove : Saved → List ℕ → Type 0
CanMove root bytes = moves root ≡ true → SpellsAnew root bytes
