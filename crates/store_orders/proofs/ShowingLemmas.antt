-- What is shown of a disk that was opened.
use Rattle.std.proofs.Common.{◌≡◌, ℕ, List, Result, Ok, Err, inl, inr}
use Rattle.std.specs.Result.{IfOk, IfErr}
use Rattle.std.specs.Global.{Vec}
use Rattle.disk_trait.specs.declared.facts.DiskFacts.{Ghosts}
use Rattle.group_commit.specs.Opening.{IsLookedAt}
use Rattle.op_model.specs.declared.op.Op.{Op}
use Rattle.recovery.specs.Image.{IsImage}
use Rattle.span_export.specs.declared.exporting.Form.{Form}
use Rattle.store_orders.specs.Past.{RefusesPast, ShowsPast, TellsPast}
use Rattle.store_orders.specs.Shown.{Shows}
use Rattle.store_orders.specs.declared.fault.Fault.{Fault}
use Rattle.store_orders.specs.declared.fault.Fault.TheVariants.{Memory}

-- it is what is told of the list of its image, unless there was no memory for that
pub shows : {D : Type 0} (facts : Ghosts D) (told : List Op → List ℕ) (old new : D) (shown : Result (Vec ℕ) Fault) (replica version : ℕ) (ops : List Op)
    → (facts.tells old → IsImage (facts.content old) replica version ops) → IsLookedAt facts 0 1 old new
    → IfOk shown (λ lines. lines.items ≡ told ops) → IfErr shown (λ fault. fault ≡ Memory) → Shows facts told old shown new
shows facts told old new (Ok lines) replica version ops image looked ok err =
    record { looked = (0, looked); ok = λ tells. (replica, version, ops, image tells, ok); err = λ tells. tt }
shows facts told old new (Err fault) replica version ops image looked ok err =
    record { looked = (0, looked); ok = λ tells. tt; err = λ tells. inl err }

-- it is what is told of the list of its image as it was, unless that was never so long or there was no memory
pub shows_past : {D : Type 0} (facts : Ghosts D) (doc count : ℕ) (form : Form) (old new : D) (shown : Result (Vec ℕ) Fault) (replica version : ℕ) (ops : List Op)
    → (facts.tells old → IsImage (facts.content old) replica version ops) → IsLookedAt facts 0 1 old new
    → IfOk shown (λ lines. TellsPast ops doc count form lines.items) → IfErr shown (RefusesPast ops doc count) → ShowsPast facts doc count form old shown new
shows_past facts doc count form old new (Ok lines) replica version ops image looked ok err =
    record { looked = (0, looked); ok = λ tells. (replica, version, ops, image tells, ok); err = λ tells. tt }
shows_past facts doc count form old new (Err fault) replica version ops image looked ok err =
    record { looked = (0, looked); ok = λ tells. tt; err = λ tells. inr (replica, version, ops, image tells, err) }
