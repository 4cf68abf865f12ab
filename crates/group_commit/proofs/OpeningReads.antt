-- A refused opening, by its sync and its reads.
use Rattle.std.proofs.Common.{◌≡◌, ℕ, true, false, List, sym, ◌∙◌, arith, Result, Ok, Err}
use Rattle.std.specs.Prelude.{IfErr}
use Rattle.disk_trait.proofs.Looking.{looks_then}
use Rattle.disk_trait.specs.declared.facts.DiskFacts.{Ghosts}
use Rattle.page_file.specs.DiskCalls.{IsLookedAt}
use Rattle.group_commit.proofs.Faults.{read_failed}
use Rattle.group_commit.specs.Loading.{failed_in, failures_of, is_of_sync, IsReadFault}
use Rattle.group_commit.specs.Opening.{HandsBack}
use Rattle.group_commit.specs.declared.open_fault.OpenError.{OpenError}

-- a refused read behind a sync that didn't fail
pub refused_read : {D T : Type 0} (facts : Ghosts D) (r : Result T OpenError) (old mid new : D) → IsLookedAt facts 0 1 old mid
    → (facts.tells old → (c : List ℕ) → facts.survives mid c → c ≡ facts.content mid) → IsLookedAt facts (failed_in r) 0 mid new
    → (facts.tells mid → IfErr r (λ e. IsReadFault e (facts.content mid)))
    → IfErr r (λ e. HandsBack facts (failures_of e) (is_of_sync e) old new)
refused_read facts (Ok x) old mid new synced settled read fault = tt
refused_read facts (Err e) old mid new synced settled read fault =
    record {
      looked = record {
        looks = λ told.
            let both = looks_then facts 0 1 (failures_of e) 0 old mid new (synced.looks told) (read.looks (synced.tells.1 told)) in
            record {
              same = both.same;
              no_more = both.no_more;
              moments = both.moments;
              failures = omega (arith, both.failures);
              writes = both.writes;
              syncs = omega (arith, both.syncs);
            };
        tells = (λ told. synced.tells.0 (read.tells.0 told), λ told. read.tells.1 (synced.tells.1 told));
      };
      alone = λ told is. absurd (differ (sym (read_failed e (facts.content mid) (fault (synced.tells.1 told))) ∙ is));
      settled = λ told is c left.
          let looks = read.looks (synced.tells.1 told) in settled told c (looks.no_more c left) ∙ sym looks.same;
    }
  where
    differ : false ≡ true → ⊥
    differ is = absurd cc
