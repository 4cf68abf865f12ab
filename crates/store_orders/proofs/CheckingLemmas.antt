-- What is shown of a disk that was opened, and looked at once more.
use Rattle.std.proofs.Common.{◌≡◌, ◌∙◌, ℕ, List, Result, Ok, Err, inl, inr, arith}
use Rattle.std.specs.Result.{IfOk, IfErr}
use Rattle.std.specs.Global.{Vec}
use Rattle.disk_trait.specs.declared.facts.DiskFacts.{Ghosts}
use Rattle.disk_trait.proofs.Looking.{looks_then}
use Rattle.group_commit.specs.Loading.{IsFirstFault, of_roots}
use Rattle.group_commit.specs.Opening.{IsLookedAt}
use Rattle.group_commit.specs.declared.open_fault.OpenError.{OpenError}
use Rattle.group_commit.proofs.Faults.{names_stored}
use Rattle.op_model.specs.declared.op.Op.{Op}
use Rattle.recovery.specs.Faults.{number_of as number_of_open}
use Rattle.recovery.specs.Image.{IsImage}
use Rattle.recovery.specs.declared.open_fault.OpenError.TheVariants.{Load}
use Rattle.root_slots.specs.Faults.{NamesRootFault}
use Rattle.root_slots.specs.Live.{live_root}
use Rattle.root_slots.specs.declared.error.RootsError.{RootsError}
use Rattle.root_slots.specs.declared.error.RootsError.TheVariants as roots
use Rattle.store_orders.specs.Ends.{number_of}
use Rattle.store_orders.specs.Shown.{Refuses, Shows}
use Rattle.store_orders.specs.declared.fault.Fault.{Fault}
use Rattle.store_orders.specs.declared.fault.Fault.TheVariants.{Memory}

-- an opening that went well, and reads that follow
looked_after : {D : Type 0} (facts : Ghosts D) (f : ℕ) (old mid new : D) → IsLookedAt facts 0 1 old mid → IsLookedAt facts f 0 mid new
    → IsLookedAt facts f 1 old new
looked_after facts f old mid new first second = record {
  looks = λ told.
      let a = first.looks told in
      let b = second.looks (first.tells.1 told) in
      record {
        same = b.same ∙ a.same;
        no_more = λ c left. a.no_more c (b.no_more c left);
        moments = (looks_then facts 0 1 f 0 old mid new a b).moments;
        failures = omega (arith, a.failures, b.failures);
        writes = b.writes ∙ a.writes;
        syncs = omega (arith, a.syncs, b.syncs);
      };
  tells = (λ told. first.tells.0 (second.tells.0 told), λ told. second.tells.1 (first.tells.1 told));
}

-- what refuses the root slots is the first fault of the file
first_fault : (e : RootsError) (file : List ℕ) → NamesRootFault e (live_root file) → IsFirstFault (of_roots e) file
first_fault roots.Memory file named = inl (names_stored roots.Memory file named)
first_fault roots.NoRoot file named = inl (names_stored roots.NoRoot file named)
first_fault roots.BadRoot file named = inl (names_stored roots.BadRoot file named)
first_fault roots.ReadFailed file named = inl (names_stored roots.ReadFailed file named)

-- so it is told as an opening's
pub refuses_slots : (e : RootsError) (error : OpenError) (fault : Fault) (file : List ℕ) → error ≡ of_roots e
    → number_of fault ≡ number_of_open (Load error) → NamesRootFault e (live_root file) → Refuses fault file
refuses_slots e error fault file same number named = inr (Load error, number, rw same (first_fault e file named))

-- out of memory is told of any file
pub refuses_memory : (shown : Result (Vec ℕ) Fault) (file : List ℕ) → IfErr shown (λ fault. fault ≡ Memory) → IfErr shown (λ fault. Refuses fault file)
refuses_memory (Ok lines) file err = tt
refuses_memory (Err fault) file err = inl err

-- what is found of a disk that was opened is told of the list of its image
pub shows_found : {D : Type 0} (facts : Ghosts D) (told : List Op → List ℕ) (old mid new : D) (shown : Result (Vec ℕ) Fault) (replica version f : ℕ) (ops : List Op)
    → (facts.tells old → IsImage (facts.content old) replica version ops) → IsLookedAt facts 0 1 old mid → IsLookedAt facts f 0 mid new
    → (facts.tells old → IfOk shown (λ lines. lines.items ≡ told ops)) → (facts.tells old → IfErr shown (λ fault. Refuses fault (facts.content old)))
    → Shows facts told old shown new
shows_found facts told old mid new (Ok lines) replica version f ops image first second ok err =
    record { looked = (f, looked_after facts f old mid new first second); ok = λ tells. (replica, version, ops, image tells, ok tells); err = λ tells. tt }
shows_found facts told old mid new (Err fault) replica version f ops image first second ok err =
    record { looked = (f, looked_after facts f old mid new first second); ok = λ tells. tt; err = err }
