-- How a commit begins.
use Rattle.std.specs.Prelude.{◌≡◌, ◌⊎◌, ℕ, ◌+◌, ◌==◌, Bool, true, false, not, ◌&&◌, nat_lt, nat_le, if◌then◌else◌}
use Rattle.std.specs.Prelude.{List, [], ◌∷◌, ◌++◌, length, Result, Ok, Err, Option}
use Rattle.std.specs.Prelude.{Some, None}
use Rattle.fixed_numbers.specs.declared.limits.TheConstants.{MAX_OPERATIONS, MAX_STREAM_LENGTH, MAX_VERSION}
use Rattle.disk_trait.specs.declared.facts.DiskFacts.{Ghosts}
use Rattle.op_model.specs.declared.op.Op.{Op}
use Rattle.op_model.specs.Records.{stream_length}
use Rattle.piece_codec.specs.Stream.{SpellsList}
use Rattle.stream_list.specs.Streams.{SpellsSome}
use Rattle.page_file.specs.Free.{AreLowest}
use Rattle.page_file.specs.Pages.{are_pages}
use Rattle.root_slots.specs.Root.{format_of, version_of, count_of, tables_of}
use Rattle.root_slots.specs.Slots.{live}
use Rattle.group_commit.specs.Changes.{changed_pages, data_of}
use Rattle.group_commit.specs.Moving.{base_for, moves}
use Rattle.group_commit.specs.Saved.{Saved, HasDataPages}
use Rattle.group_commit.specs.Commit.{IsLeft}
use Rattle.group_commit.specs.Held.{StoreHeld}
use Rattle.group_commit.specs.Plan.{IsNextRoot, KeepsPages, newest}
use Rattle.group_commit.specs.declared.error.StoreError.{StoreError}
use Rattle.group_commit.specs.declared.error.StoreError.TheVariants.{Memory, Limit, Busy, Failed}
use Rattle.group_commit.specs.declared.phase.Phase.{Phase}
use Rattle.group_commit.specs.declared.phase.Phase.TheVariants.{Idle, Pages}

-- no commit is under way
abbrev pub is_idle : Phase → Bool
is_idle Idle = true
is_idle phase = false

abbrev pub is_none : List Op → Bool
is_none [] = true
is_none (op ∷ ops) = false

-- the bytes are records of a commit: they spell these operations in the newest format, and there are count of them
abbrev pub AreWritten : List Op → ℕ → List ℕ → Type 0
AreWritten ops count records = SpellsSome newest ops count records

-- there is a further version behind this root, and room for this number of operations, whose records take this number of bytes: at
-- most 2^24 operations in a file, and 2^30 bytes of stream
abbrev pub has_room_for : Saved → ℕ → ℕ → Bool
has_room_for current count bytes =
    nat_lt (version_of current.body) MAX_VERSION && nat_le (count_of current.body + count) MAX_OPERATIONS
    && nat_le (length current.stream + bytes) MAX_STREAM_LENGTH

-- there is a further version, and room for the records of these operations, one by one
abbrev pub has_room : Saved → List Op → Bool
has_room current ops = has_room_for current (length ops) (stream_length ops)

-- The answer that is due of a begin over a base with so many more operations, whose records take so many bytes. The order of test is
-- failed 44, busy 8, nothing to commit, limit 7, or the length of the new list.
abbrev pub due_on : {D : Type 0} → Saved → StoreHeld D → ℕ → ℕ → Result (Option ℕ) StoreError
due_on base held count bytes =
    if held.failed then Err Failed
    else if not (is_idle held.phase) then Err Busy
    else if count == 0 then Ok None
    else if not (has_room_for base count bytes) then Err Limit
    else Ok (Some (count_of held.current.body + count))

-- of one whose records come behind the live root's stream
abbrev pub begin_due : {D : Type 0} → StoreHeld D → ℕ → ℕ → Result (Option ℕ) StoreError
begin_due held count bytes = due_on held.current held count bytes

-- a commit is due to begin
abbrev pub IsBegun : Result (Option ℕ) StoreError → Type 0
IsBegun (Ok (Some n)) = Unit {0}
IsBegun answer = ⊥

-- the answer is the one that is due, or out of memory in place of a commit
abbrev pub IsAnswer : Result (Option ℕ) StoreError → Result (Option ℕ) StoreError → Type 0
IsAnswer due answer = (answer ≡ due) ⊎ ((answer ≡ Err Memory) × IsBegun due)

-- A commit over a base has begun. Its records spell these operations, and its root has so many more than the live one. No device call
-- is made, and the live root stays.
pub record BeginsOn {D : Type 0} (facts : Ghosts D) (old : StoreHeld D) (base : Saved) (ops : List Op) (more : ℕ) (records : List ℕ) (new : StoreHeld D)
    : Type 0 where
  pub disk : new.disk ≡ old.disk
  pub current : new.current ≡ old.current
  pub stale_open : new.stale_open ≡ old.stale_open
  pub works : new.failed ≡ false
  pub phase : new.phase ≡ Pages 0
  pub slot : new.slot ≡ old.slot
  -- it writes the pages that change or are new, and no other
  pub numbers : new.numbers ≡ changed_pages base new.next
  -- behind the slots, none of them twice, none of them live, and each the lowest that is free
  pub free : are_pages (new.numbers ++ old.current.pages) ≡ true
  pub lowest : AreLowest old.current.pages new.numbers
  pub follows : IsNextRoot base records more new.next
  pub spells : SpellsList newest ops records
  pub had : HasDataPages old.current (data_of old.current)
  -- it reaches these and the base's that stay
  pub pages : KeepsPages base records new.next
  pub live_slot : facts.tells new.disk → (c : List ℕ) → facts.survives new.disk c → live c ≡ Ok new.slot
  pub left : facts.tells new.disk → (c : List ℕ) → facts.survives new.disk c → IsLeft new.phase new.current new.next c

-- A commit of these operations, whose records these bytes are, has begun. They come behind the live root's stream; where that root
-- moves, behind the records of its operations, which are written anew with them.
pub record Begins {D : Type 0} (facts : Ghosts D) (old : StoreHeld D) (ops : List Op) (records : List ℕ) (new : StoreHeld D) : Type 0 where
  pub before : List ℕ
  pub written : List Op
  pub begins : BeginsOn facts old (base_for old.current) written (length ops) (before ++ records) new
  pub stays : moves old.current ≡ false → before ≡ []
  -- where it moves, all pages of the next root are new
  pub all_new : moves old.current ≡ true → new.numbers ≡ data_of new.next ++ tables_of new.next.body
  -- the next root's stream spells these operations behind those that the live one's spells
  pub spells : (list : List Op) → SpellsList (format_of old.current.body) list old.current.stream → SpellsList newest (list ++ ops) new.next.stream
