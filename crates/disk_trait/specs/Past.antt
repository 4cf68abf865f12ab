-- What a disk's log says of the past.
use Rattle.std.specs.Prelude.{◌⊎◌, ◌≤◌, ℕ, ◌+◌, List, [], ◌∷◌, length}
use Rattle.std.proofs.Common.{inl, inr, arith}
use Rattle.disk_trait.specs.declared.log.Log.{Log}

-- the log after one more call, which found the disk in this state and added these numbers of failures,
-- writes and syncs
abbrev pub called : {S : Type 0} → S → ℕ → ℕ → ℕ → Log S → Log S
called state failures writes syncs log =
    record log {
      found = state ∷ log.found;
      failures = log.failures + failures;
      writes = log.writes + writes;
      syncs = log.syncs + syncs;
    }

-- since that time, some call found a state of which a crash might have left this file
abbrev pub FoundSince : {S : Type 0} → (S → List ℕ → Type 0) → List S → ℕ → List ℕ → Type 0
FoundSince leaves [] t c = ⊥
FoundSince leaves (state ∷ earlier) t c = ((t ≤ length earlier) × leaves state c)
    ⊎ FoundSince leaves earlier t c

-- a crash now may leave this file, or one since that time might have
abbrev pub LeftSince : {S : Type 0} → (S → List ℕ → Type 0) → S → Log S → ℕ → List ℕ → Type 0
LeftSince leaves now log t c = leaves now c ⊎ FoundSince leaves log.found t c

-- since now no call has found anything
none_since : {S : Type 0} (leaves : S → List ℕ → Type 0) (found : List S) (t : ℕ) (c : List ℕ)
    → length found ≤ t → FoundSince leaves found t c → ⊥
none_since leaves [] t c late none = elim none [ ]
none_since leaves (state ∷ earlier) t c late (inl it) = omega (arith, it.0)
none_since leaves (state ∷ earlier) t c late (inr more) = none_since leaves earlier t c (omega arith) more

-- what was found since a time was found since an earlier one
since_earlier : {S : Type 0} (leaves : S → List ℕ → Type 0) (found : List S) (t u : ℕ) (c : List ℕ)
    → t ≤ u → FoundSince leaves found u c → FoundSince leaves found t c
since_earlier leaves [] t u c le none = elim none [ ]
since_earlier leaves (state ∷ earlier) t u c le (inl it) = inl (omega (arith, it.0), it.1)
since_earlier leaves (state ∷ earlier) t u c le (inr more) = inr (since_earlier leaves earlier t u c le more)

-- so since now there is what a crash may leave now
pub left_only_now : {S : Type 0} (leaves : S → List ℕ → Type 0) (now : S) (log : Log S) (c : List ℕ)
    → LeftSince leaves now log (length log.found) c → leaves now c
left_only_now leaves now log c (inl it) = it
left_only_now leaves now log c (inr more) = absurd (none_since leaves log.found (length log.found) c (omega arith) more)

-- and since an earlier time at least what there is since a later one
pub left_since_earlier : {S : Type 0} (leaves : S → List ℕ → Type 0) (now : S) (log : Log S) (t u : ℕ) (c : List ℕ)
    → t ≤ u → LeftSince leaves now log u c → LeftSince leaves now log t c
left_since_earlier leaves now log t u c le (inl it) = inl it
left_since_earlier leaves now log t u c le (inr more) = inr (since_earlier leaves log.found t u c le more)

-- after one more call: what there was, and what a crash may leave now
pub left_after_call : {S : Type 0} (leaves : S → List ℕ → Type 0) (old new : S) (failures writes syncs : ℕ) (log : Log S) (t : ℕ) (c : List ℕ)
    → LeftSince leaves new (called old failures writes syncs log) t c → LeftSince leaves old log t c
    ⊎ leaves new c
left_after_call leaves old new failures writes syncs log t c (inl it) = inr it
left_after_call leaves old new failures writes syncs log t c (inr (inl it)) = inl (inl it.1)
left_after_call leaves old new failures writes syncs log t c (inr (inr more)) = inl (inr more)

pub left_before_call : {S : Type 0} (leaves : S → List ℕ → Type 0) (old new : S) (failures writes syncs : ℕ) (log : Log S) (t : ℕ) (c : List ℕ)
    → t ≤ length log.found
    → LeftSince leaves old log t c → LeftSince leaves new (called old failures writes syncs log) t c
left_before_call leaves old new failures writes syncs log t c le (inl it) = inr (inl (le, it))
left_before_call leaves old new failures writes syncs log t c le (inr more) = inr (inr more)
