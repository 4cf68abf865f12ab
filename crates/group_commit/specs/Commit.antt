-- What a crash leaves in each phase of a commit.
use Rattle.std.specs.Prelude.{◌≡◌, ◌⊎◌, Ok, ℕ, List}
use Rattle.group_commit.specs.Image.{stored, pages_reached}
use Rattle.group_commit.specs.Saved.{Saved}
use Rattle.group_commit.specs.declared.phase.Phase.{Phase}
use Rattle.group_commit.specs.declared.phase.Phase.TheVariants.{Sync3}

-- this file's live slot has this root and its stream, and the pages that it reaches in the file are the root's
pub record IsRootOf (root : Saved) (file : List ℕ) : Type 0 where
  pub holds : stored file ≡ Ok (root.body, root.stream)
  pub reaches : pages_reached file root.body ≡ root.pages

-- what the image of a file may be that a crash leaves in a phase: the committed root, and from the gate's write on either one
abbrev pub IsLeft : Phase → Saved → Saved → List ℕ → Type 0
IsLeft Sync3 current next file = IsRootOf current file ⊎ IsRootOf next file
IsLeft phase current next file = IsRootOf current file
