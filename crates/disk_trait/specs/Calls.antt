-- What a call does to a disk, in terms of what is known of it.
use Rattle.std.specs.Prelude.{◌≡◌, ◌⊎◌, ◌↔◌, ◌<◌, ◌≤◌, ℕ, ◌+◌, List, length, Result, Ok, Err}
use Rattle.std.specs.Prelude.{OnOk, IsErrOf}
use Rattle.disk_trait.specs.File.{Torn, overwritten, part}
use Rattle.disk_trait.specs.declared.error.DiskError.{DiskError}
use Rattle.disk_trait.specs.declared.error.DiskError.TheVariants.{PastEnd}
use Rattle.disk_trait.specs.declared.facts.DiskFacts.{Ghosts}

-- a call that answers so has failed once, or not: `PastEnd` is no failure
abbrev pub failed : {T : Type 0} → Result T DiskError → ℕ
failed (Ok x) = 0
failed (Err PastEnd) = 0
failed (Err e) = 1

-- a write that answers so was begun once, or not
abbrev pub begun : {T : Type 0} → Result T DiskError → ℕ
begun (Ok x) = 1
begun (Err PastEnd) = 0
begun (Err e) = 1

-- One call: time goes on by one, the past stays, and these numbers of failures, writes and syncs are added.
pub record IsOneCall {D : Type 0} (facts : Ghosts D) (more_failures more_writes more_syncs : ℕ)
    (old new : D) : Type 0 where
  pub one_more : facts.time new ≡ facts.time old + 1
  -- what a crash in the call or right after it may leave, it may leave before the call or after it
  pub nothing_else : (t : ℕ) (c : List ℕ) → t ≤ facts.time old → facts.left_since new t c
      → facts.left_since old t c ⊎ facts.survives new c
  pub past : (t : ℕ) (c : List ℕ) → t ≤ facts.time old → facts.left_since old t c
      → facts.left_since new t c
  pub failures : facts.failures new ≡ facts.failures old + more_failures
  pub writes : facts.writes new ≡ facts.writes old + more_writes
  pub syncs : facts.syncs new ≡ facts.syncs old + more_syncs

-- reads give the same, and a crash may leave the same files
pub record Keeps {D : Type 0} (facts : Ghosts D) (old new : D) : Type 0 where
  pub same : facts.content new ≡ facts.content old
  pub no_more : (c : List ℕ) → facts.survives new c → facts.survives old c
  pub no_fewer : (c : List ℕ) → facts.survives old c → facts.survives new c

-- A write of n bytes, whole or torn: outside of its range reads give the same. A crash may leave
-- what it could before, and besides only such a file torn in that range.
pub record Tears {D : Type 0} (facts : Ghosts D) (at n : ℕ) (old new : D) : Type 0 where
  pub reads : Torn at n (facts.content old) (facts.content new)
  pub no_more : (c : List ℕ) → facts.survives new c
      → (d : List ℕ) × facts.survives old d × Torn at n d c
  pub no_fewer : (c : List ℕ) → facts.survives old c → facts.survives new c

-- A read of n bytes at an offset, which answers so and leaves these bytes: where it is done they are
-- the file's, and it is refused as past the end exactly where the range reaches past it.
pub record ReadsPart {D T : Type 0} (facts : Ghosts D) (answer : Result T DiskError) (at n : ℕ)
    (bytes : List ℕ) (disk : D) : Type 0 where
  pub read : OnOk answer (bytes ≡ part (facts.content disk) at n)
  pub past_end : IsErrOf answer PastEnd ↔ (length (facts.content disk) < at + n)

-- A write of these bytes at an offset, which answers so: outside of their range nothing changes, and
-- where it is done they are there.
pub record WritesOrRefuses {D T : Type 0} (facts : Ghosts D) (answer : Result T DiskError) (at : ℕ)
    (bytes : List ℕ) (old new : D) : Type 0 where
  pub torn : Tears facts at (length bytes) old new
  pub written : OnOk answer (facts.content new ≡ overwritten (facts.content old) at bytes)
  -- it is refused as past the end exactly where it begins past it, and then nothing changes at all
  pub past_end : IsErrOf answer PastEnd ↔ (length (facts.content old) < at)
  pub unchanged : IsErrOf answer PastEnd → Keeps facts old new

-- reads give the same, and a crash leaves that and nothing else
pub record Settles {D : Type 0} (facts : Ghosts D) (old new : D) : Type 0 where
  pub same : facts.content new ≡ facts.content old
  pub only : (c : List ℕ) → facts.survives new c → c ≡ facts.content new

-- what is so of a disk at every moment
pub record IsLawful {D : Type 0} (facts : Ghosts D) (disk : D) : Type 0 where
  -- the file as it reads is one that a crash may leave
  pub reads_survive : facts.survives disk (facts.content disk)
  -- now is one of the moments since an earlier time
  pub counts_now : (t : ℕ) (c : List ℕ) → t ≤ facts.time disk → facts.survives disk c
      → facts.left_since disk t c
  -- since now there is no other moment
  pub only_now : (c : List ℕ) → facts.left_since disk (facts.time disk) c → facts.survives disk c
  -- the moments since a time are among those since an earlier one
  pub since_earlier : (t u : ℕ) (c : List ℕ) → t ≤ u → facts.left_since disk u c
      → facts.left_since disk t c

-- A crash at any moment since `old`, in the calls up to `new` or between, leaves a file with P.
pub record LeavesOnly {D : Type 0} (facts : Ghosts D) (old new : D) (P : List ℕ → Type 0) : Type 0 where
  pub later : facts.time old ≤ facts.time new
  pub each : (c : List ℕ) → facts.left_since new (facts.time old) c → P c
  -- for calls that began earlier
  pub before : (t : ℕ) (c : List ℕ) → t ≤ facts.time old → facts.left_since new t c
      → facts.left_since old t c ⊎ P c
