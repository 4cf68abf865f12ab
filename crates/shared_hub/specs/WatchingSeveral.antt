-- What a session watches of a hub, and what it is told.
use Rattle.std.specs.Prelude.{◌≡◌, ◌≤◌, ◌<◌, ◌⊎◌, ⊤, ℕ, Bool, true, List, Option, None, Some, slice_get, take}
use Rattle.std.specs.BTreeMap.{is_at}
use Rattle.std.specs.List.{list_any}
use Rattle.std.specs.Ordering.{nat_cmp}
use Rattle.op_model.specs.declared.op.Op.{Op}
use Rattle.hub_parts.specs.Locked.{LockedHeld}
use Rattle.shared_hub.specs.Watching.{settled_rev}
use Rattle.shared_hub.specs.declared.watched_of.WatchedOf.{WatchedOf}
use Rattle.shared_hub.specs.declared.watched_of.WatchedOf.TheVariants as watched

-- a document is among these
abbrev pub is_among : List ℕ → ℕ → Bool
is_among docs doc = list_any (is_at (nat_cmp doc)) docs

-- a document is one of those that are watched, or all are
abbrev pub is_watched : Option (List ℕ) → ℕ → Bool
is_watched None doc = true
is_watched (Some docs) doc = is_among docs doc

-- the documents that are watched, if not all are, those of which a session is to be told, and how many operations were looked at
pub record WatchHeld : Type 0 where
  pub docs : Option (List ℕ)
  pub due : List ℕ
  pub looked : ℕ

-- if the answer is a number of a document, then this is so
abbrev pub IfRevOf : WatchedOf → (ℕ → ℕ → Type 0) → Type 0
IfRevOf (watched.Rev doc n) P = P doc n
IfRevOf watched.Nothing P = ⊤
IfRevOf watched.Failed P = ⊤

-- the document is watched, and has so many settled operations beside this locked part
pub record IsToldOf (b : WatchHeld) (l : LockedHeld) (doc n : ℕ) : Type 0 where
  pub watched : is_watched b.docs doc ≡ true
  pub rev : n ≡ settled_rev l doc

-- the document of which an answer tells, if it tells of one
abbrev pub doc_told : WatchedOf → Option ℕ
doc_told (watched.Rev doc n) = Some doc
doc_told watched.Nothing = None
doc_told watched.Failed = None

-- an operation of a watched document, in a list, is among those that were looked at meanwhile
pub record IsSeen (old new : WatchHeld) (list : List Op) (i : ℕ) (op : Op) : Type 0 where
  pub there : slice_get list i ≡ Some op
  pub begin : old.looked ≤ i
  pub end : i < new.looked
  pub watched : is_watched old.docs op.doc ≡ true

-- What a look at a list leaves: it goes on, and no document is forgotten. One that was due, or that is watched and has an operation that was
-- looked at, is due then, unless it is the one that is told.
pub record LooksOn (told : Option ℕ) (old new : WatchHeld) (list : List Op) : Type 0 where
  pub goes : old.looked ≤ new.looked
  pub kept : (doc : ℕ) → is_among old.due doc ≡ true → (is_among new.due doc ≡ true) ⊎ (told ≡ Some doc)
  pub seen : (i : ℕ) (op : Op) → IsSeen old new list i op → (is_among new.due op.doc ≡ true) ⊎ (told ≡ Some op.doc)

-- the settled operations of a locked part
abbrev pub settled_list : LockedHeld → List Op
settled_list l = take l.replica.settled l.replica.list
