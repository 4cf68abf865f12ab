-- A disk that is looked at, call after call.
use Rattle.std.proofs.Common.{ℕ}
use Rattle.disk_trait.specs.declared.facts.DiskFacts.{Ghosts}
use Rattle.disk_trait.proofs.Looking.{looks_on}
use Rattle.page_file.specs.DiskCalls.{IsLookedAt}

-- some calls that all went well, and those that follow
pub looked_on : {D : Type 0} (facts : Ghosts D) (f s : ℕ) (old mid new : D) → IsLookedAt facts 0 0 old mid → IsLookedAt facts f s mid new
    → IsLookedAt facts f s old new
looked_on facts f s old mid new first second = record {
  looks = λ told. looks_on facts f s old mid new (first.looks told) (second.looks (first.tells.1 told));
  tells = (λ told. first.tells.0 (second.tells.0 told), λ told. second.tells.1 (first.tells.1 told));
}
