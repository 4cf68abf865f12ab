-- What is opened from the file that reads give is what the machine's crash leaves.
use Rattle.std.proofs.Common.{◌≡◌, ◌⊎◌, ℕ, List, take, ap, ◌∙◌, IfOk, IfErr, Result, Ok, Err}
use Rattle.disk_trait.specs.declared.facts.DiskFacts.{Ghosts}
use Rattle.op_model.specs.declared.op.Op.{Op}
use Rattle.op_model.specs.Machine.{opened}
use Rattle.recovery.specs.Faults.{number_of, failures_of, IsFault}
use Rattle.recovery.specs.Image.{IsImage}
use Rattle.recovery.specs.declared.open_fault.OpenError.{OpenError}
use Rattle.recovery.proofs.FaultLemmas.{no_fault}
use Rattle.recovery.proofs.ImageLemmas.{one_image}
use Rattle.root_slots.specs.Root.{version_of}
use Rattle.locked_replica.specs.Hub.{Parts, state_of}
use Rattle.locked_replica.specs.Recovery.{IsCrash}
use Rattle.locked_replica.specs.Reopening.{IsReopened}

-- a file has one image, so what is opened from it is what the crash leaves with it
reopened_hub : {D : Type 0} (facts : Ghosts D) (old new : Parts D) → IsCrash old (facts.content old.store.disk)
    → IsImage (facts.content old.store.disk) new.replica.replica (version_of new.store.current.body) new.replica.list
    → state_of new ≡ opened new.replica.replica new.replica.list (version_of new.store.current.body) → IsReopened facts old new
reopened_hub facts old new crash image is =
    let (same_owner, same_version, same_list) = one_image _ _ _ _ _ _ _ image crash.image in
    let same : state_of new ≡ opened old.replica.replica (take crash.count old.replica.list) crash.version =
    is ∙ ap (λ r. opened r new.replica.list (version_of new.store.current.body)) same_owner
    ∙ ap (λ l. opened old.replica.replica l (version_of new.store.current.body)) same_list
    ∙ ap (λ v. opened old.replica.replica (take crash.count old.replica.list) v) same_version in
    record { owner = same_owner; image = image; crash = rw same crash.leaves }

pub reopened : {D E : Type 0} (facts : Ghosts D) (old : Parts D) (result : Result (Parts D) E) → IsCrash old (facts.content old.store.disk)
    → IfOk result (λ (new : Parts D). IsImage (facts.content old.store.disk) new.replica.replica (version_of new.store.current.body) new.replica.list)
    → IfOk result (λ (new : Parts D). state_of new ≡ opened new.replica.replica new.replica.list (version_of new.store.current.body))
    → IfOk result (λ new. IsReopened facts old new)
reopened facts old (Ok new) crash image is = reopened_hub facts old new crash image is
reopened facts old (Err fault) crash image is = tt

-- a file with an image is refused with 1, or where the device fails
pub refused_well : {A E : Type 0} (cause : E → OpenError) (file : List ℕ) (replica version : ℕ) (ops : List Op) (result : Result A E)
    → IsImage file replica version ops → IfErr result (λ fault. IsFault (cause fault) file)
    → IfErr result (λ fault. (number_of (cause fault) ≡ 1) ⊎ (failures_of (cause fault) ≡ 1))
refused_well cause file replica version ops (Ok a) image is = tt
refused_well cause file replica version ops (Err fault) image is = no_fault file replica version ops (cause fault) image is
