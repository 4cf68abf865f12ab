-- What is shown of a document, and of a disk.
use Rattle.std.specs.Prelude.{◌≡◌, ◌⊎◌, ℕ, List, ◌++◌, Result, IfOk, IfErr}
use Rattle.std.specs.Global.{Vec}
use Rattle.disk_trait.specs.declared.facts.DiskFacts.{Ghosts}
use Rattle.group_commit.specs.Opening.{IsLookedAt}
use Rattle.op_model.specs.declared.op.Op.{Op}
use Rattle.op_model.specs.Text.{text, rev}
use Rattle.op_model.specs.Spans.{spans}
use Rattle.list_counts.specs.Versions.{versions}
use Rattle.session_lines.specs.Saying.{said}
use Rattle.session_lines.specs.declared.answer.Answer.TheVariants.{Text, Spans, Versions}
use Rattle.recovery.specs.Faults.{IsFault, number_of as number_of_open}
use Rattle.recovery.specs.Image.{IsImage}
use Rattle.recovery.specs.declared.open_fault.OpenError.{OpenError}
use Rattle.store_orders.specs.Ends.{number_of}
use Rattle.store_orders.specs.declared.fault.Fault.{Fault}
use Rattle.store_orders.specs.declared.fault.Fault.TheVariants.{Memory}

-- its text, and the text cut where its marks change, a line each
abbrev pub said_document : List Op → ℕ → List ℕ
said_document list doc = said (Text (rev list doc) (text list doc)) ++ said (Spans (rev list doc) (spans list doc))

-- its versions of at most so many operations each, a line
abbrev pub said_history : List Op → ℕ → ℕ → List ℕ
said_history list doc every = said (Versions (rev list doc) (versions list doc every))

-- these bytes are what is told of the operations of a file's image
abbrev pub TellsImage : (List Op → List ℕ) → List ℕ → List ℕ → Type 0
TellsImage told file bytes = (replica version : ℕ) × (ops : List Op) × IsImage file replica version ops × (bytes ≡ told ops)

-- memory was refused, or this is the refusal of an opening of the file
abbrev pub Refuses : Fault → List ℕ → Type 0
Refuses fault file = (fault ≡ Memory) ⊎ ((cause : OpenError) × (number_of fault ≡ number_of_open cause) × IsFault cause file)

-- Of a disk that tells its content just what is told of its image is shown, or why not. The disk was only looked at.
pub record Shows {D : Type 0} (facts : Ghosts D) (told : List Op → List ℕ) (old : D) (shown : Result (Vec ℕ) Fault) (new : D) : Type 0 where
  pub looked : (failures : ℕ) × IsLookedAt facts failures 1 old new
  pub ok : facts.tells old → IfOk shown (λ lines. TellsImage told (facts.content old) lines.items)
  pub err : facts.tells old → IfErr shown (λ fault. Refuses fault (facts.content old))
