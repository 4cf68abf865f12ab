-- What is shown of a document as it was.
use Rattle.std.specs.Prelude.{◌≡◌, ◌⊎◌, ◌<◌, ◌≤◌, ℕ, List, Result, IfOk, IfErr}
use Rattle.std.specs.Global.{Vec}
use Rattle.disk_trait.specs.declared.facts.DiskFacts.{Ghosts}
use Rattle.group_commit.specs.Opening.{IsLookedAt}
use Rattle.op_model.specs.declared.op.Op.{Op}
use Rattle.op_model.specs.Text.{rev}
use Rattle.op_model.specs.Spans.{spans}
use Rattle.recovery.specs.Image.{IsImage}
use Rattle.replica_core.specs.Past.{up_to}
use Rattle.span_export.specs.declared.exporting.Form.{Form}
use Rattle.span_export.specs.Exported.{exported}
use Rattle.store_orders.specs.Shown.{Refuses}
use Rattle.store_orders.specs.declared.fault.Fault.{Fault}
use Rattle.store_orders.specs.declared.fault.Fault.TheVariants.{Memory, Field}

-- the document has had so many operations, and these bytes are what is exported of it as it was then
abbrev pub TellsPast : List Op → ℕ → ℕ → Form → List ℕ → Type 0
TellsPast list doc count form bytes = (count ≤ rev list doc) × (bytes ≡ exported form (spans (up_to list doc count) doc))

-- memory was refused, or the document has fewer operations
abbrev pub RefusesPast : List Op → ℕ → ℕ → Fault → Type 0
RefusesPast list doc count fault = (fault ≡ Memory) ⊎ ((fault ≡ Field) × (rev list doc < count))

-- Of a disk that tells its content that of its image is shown, or why not. The disk was only looked at.
pub record ShowsPast {D : Type 0} (facts : Ghosts D) (doc count : ℕ) (form : Form) (old : D) (shown : Result (Vec ℕ) Fault) (new : D) : Type 0 where
  pub looked : (failures : ℕ) × IsLookedAt facts failures 1 old new
  pub ok : facts.tells old
      → IfOk shown (λ lines. (replica version : ℕ) × (ops : List Op) × IsImage (facts.content old) replica version ops
      × TellsPast ops doc count form lines.items)
  pub err : facts.tells old
      → IfErr shown (λ fault. Refuses fault (facts.content old)
      ⊎ ((replica version : ℕ) × (ops : List Op) × IsImage (facts.content old) replica version ops × RefusesPast ops doc count fault))
