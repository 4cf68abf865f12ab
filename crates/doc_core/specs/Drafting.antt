-- What a draft of a document stands for.
use Rattle.std.specs.Prelude.{◌≡◌, ℕ, List, [], ◌∷◌, ◌++◌}
use Rattle.list_counts.specs.Documents.{first_writers}
use Rattle.op_model.specs.declared.op.Op.{Op}
use Rattle.op_model.specs.Placing.{Fits}
use Rattle.op_model.specs.Text.{rev}
use Rattle.char_sequence.specs.Woven.{Woven, IsWovenOf}
use Rattle.mark_anchors.specs.Gathered.{Gathered, AreGathered}
use Rattle.doc_core.specs.Standing.{counted}

-- a draft as contracts see it: its number, its characters, its mark operations, how many operations it counts, and who wrote in it
pub record Drafted : Type 0 where
  pub number : ℕ
  pub characters : Woven
  pub marks : Gathered
  pub rev : ℕ
  pub writers : List ℕ

-- the draft is what these operations make of its document
pub record IsDraftOf (d : Drafted) (ops : List Op) : Type 0 where
  pub characters : IsWovenOf d.characters ops d.number
  pub marks : AreGathered d.marks ops d.number
  pub rev : d.rev ≡ counted (rev ops d.number)
  pub writers : d.writers ≡ first_writers ops d.number

-- From the draft of any operations that this one fits, the call leads to the draft of them and it.
abbrev pub TakesDraft : Op → Drafted → Drafted → Type 0
TakesDraft op old new = (ops : List Op) → IsDraftOf old ops → Fits ops old.number op → IsDraftOf new (ops ++ op ∷ [])
