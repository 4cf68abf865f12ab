-- What a document that is watched has come to.
use Rattle.std.specs.Prelude.{◌≡◌, ◌≤◌, ◌<◌, ⊤, ℕ, take, Option, Some, None}
use Rattle.op_model.specs.Text.{rev}
use Rattle.hub_parts.specs.Locked.{LockedHeld}
use Rattle.shared_hub.specs.declared.watched.Watched.{Watched}
use Rattle.shared_hub.specs.declared.watched.Watched.TheVariants as watched

-- how many settled operations a document has
abbrev pub settled_rev : LockedHeld → ℕ → ℕ
settled_rev l doc = rev (take l.replica.settled l.replica.list) doc

-- so many operations are more than were seen; before the first look, any number is
abbrev pub IsNewer : Option ℕ → ℕ → Type 0
IsNewer None n = ⊤
IsNewer (Some seen) n = seen < n

-- so many operations were seen, at least
abbrev pub HasSeen : Option ℕ → ℕ → Type 0
HasSeen None n = ⊥
HasSeen (Some seen) n = n ≤ seen

-- if the answer is a number of operations, then that is so
abbrev pub IfRev : Watched → (ℕ → Type 0) → Type 0
IfRev (watched.Rev n) P = P n
IfRev watched.Nothing P = ⊤
IfRev watched.Failed P = ⊤

-- if the answer is no number of operations, this is so
abbrev pub UnlessRev : Watched → Type 0 → Type 0
UnlessRev (watched.Rev n) P = ⊤
UnlessRev watched.Nothing P = P
UnlessRev watched.Failed P = P

-- the answer is no number of operations
abbrev pub HasNoRev : Watched → Type 0
HasNoRev result = IfRev result (λ n. ⊥)

-- what a document has come to beside this locked part, for one who has seen so many operations
pub record IsWatched (result : Watched) (doc : ℕ) (seen : Option ℕ) (l : LockedHeld) : Type 0 where
  pub rev : IfRev result (λ n. n ≡ settled_rev l doc)
  pub newer : IfRev result (λ n. IsNewer seen n)
  pub nothing : UnlessRev result (HasSeen seen (settled_rev l doc))
