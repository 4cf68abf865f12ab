-- What each device call of a commit makes of what a file has.
use Rattle.std.proofs.Common.{◌≡◌, ◌≢◌, ℕ, ◌+◌, ◌-◌, ◌*◌, ◌<◌, ◌≤◌, Bool, true, false, List, length, get_or, refl, sym, ap, ◌∙◌, inl, inr, arith, Ok}
use Rattle.std.proofs.lemmas.Bool.{cases_eq, cases_lt}
use Rattle.disk_trait.specs.File.{part, Torn}
use Rattle.page_file.specs.Pages.{page, pages, has, are_pages}
use Rattle.page_file.proofs.Parts.{pages_other, pages_behind, page_other, part_outside}
use Rattle.page_file.proofs.Apart.{no_two, each_behind}
use Rattle.root_slots.specs.Root.{version_of}
use Rattle.root_slots.specs.Slots.{gate, body, live}
use Rattle.group_commit.specs.Image.{in_slot, root_and_stream, stream, tables_in, data_pages_in}
use Rattle.group_commit.specs.Saved.{Saved}
use Rattle.group_commit.specs.Commit.{IsRootOf, IsLeft}
use Rattle.group_commit.specs.Standing.{HasPages, IsOlder, StaleSlot, Stands, ReadAs, HasWritten, MakesNext}
use Rattle.group_commit.specs.declared.phase.Phase.{Phase}
use Rattle.group_commit.specs.declared.phase.Phase.TheVariants.{Idle, Pages, Close, Sync1, Body, Sync2, Gate, Sync3}
use Rattle.group_commit.proofs.Frame.{stores_same, reading_of}
use Rattle.root_slots.proofs.SlotWrites.{SameSlot, slot_beside, body_behind_gate, gate_before_body}
use Rattle.group_commit.proofs.SlotLemmas.{slot_before_pages, other_of_other, live_alone, live_greater}

-- a stored root's pages lie behind the slots, none of them twice
pub pages_apart : (root : Saved) (file : List ℕ) → HasPages root file → are_pages root.pages ≡ true
pages_apart root file has_pages =
    ap are_pages (sym has_pages.reaches)
    ∙ (reading_of root.body (tables_in file root.body) (pages (data_pages_in root.body (tables_in file root.body)) file) root.stream has_pages.spells).apart

-- a write before the pages leaves them, and so does a write of another page
pub keeps_behind : (root : Saved) (d c : List ℕ) (at k : ℕ) → Torn at k d c → at + k ≤ 8192 → HasPages root d → HasPages root c
keeps_behind root d c at k torn within has_pages =
    stores_same root.body root.stream root.pages d c has_pages (pages_behind d c at k root.pages torn within (pages_apart root d has_pages))

pub keeps_other : (root : Saved) (d c : List ℕ) (m : ℕ) → Torn (4096 * m) 4096 d c → has m root.pages ≡ false → HasPages root d → HasPages root c
keeps_other root d c m torn lacks has_pages = stores_same root.body root.stream root.pages d c has_pages (pages_other d c m root.pages torn lacks)

older_same : (slot : ℕ) (current : Saved) (d c : List ℕ) → SameSlot (1 - slot) d c → IsOlder slot current d → IsOlder slot current c
older_same slot current d c same older is = rw (same.bodies) (older (sym same.gates ∙ is))

-- a page is written
pub stands_page : (k k' slot : ℕ) (stale_open : Bool) (current next : Saved) (d c : List ℕ) (m : ℕ) → slot < 2 → 2 ≤ m → has m current.pages ≡ false
    → Torn (4096 * m) 4096 d c → Stands (Pages k) slot stale_open current next d → Stands (Pages k') slot stale_open current next c
stands_page k k' slot stale_open current next d c m below above lacks torn s =
    let here = slot_before_pages d c m slot torn above below in
    let there = slot_before_pages d c m (1 - slot) torn above (omega arith) in
    record {
      whole = omega (arith, torn.no_shorter, s.whole);
      is_open = here.gates ∙ s.is_open;
      holds = here.bodies ∙ s.holds;
      keeps = keeps_other current d c m torn lacks s.keeps;
      stale_slot = (
        older_same slot current d c there s.stale_slot.0,
        record {
          opened = λ is. there.gates ∙ s.stale_slot.1.opened is;
          closed = λ is same. s.stale_slot.1.closed is (sym there.gates ∙ same);
        },
      );
    }

-- another phase asks something else of the stale slot alone
stands_on : (p q : Phase) (slot : ℕ) (stale_open : Bool) (current next : Saved) (c : List ℕ) → Stands p slot stale_open current next c
    → StaleSlot q slot stale_open current next c → Stands q slot stale_open current next c
stands_on p q slot stale_open current next c s stale = record { whole = s.whole; is_open = s.is_open; holds = s.holds; keeps = s.keeps; stale_slot = stale }

-- a write into the stale slot, whole or torn, leaves the rest
stands_beside : (p q : Phase) (slot : ℕ) (stale_open : Bool) (current next : Saved) (d c : List ℕ) (at n : ℕ) → slot < 2 → Torn at n d c
    → 4096 * (1 - slot) ≤ at → at + n ≤ 4096 * (1 - slot) + 4096
    → Stands p slot stale_open current next d → StaleSlot q slot stale_open current next c → Stands q slot stale_open current next c
stands_beside p q slot stale_open current next d c at n below torn from to s stale =
    let here = slot_beside d c at n slot torn below from to in
    record {
      whole = omega (arith, torn.no_shorter, s.whole);
      is_open = here.gates ∙ s.is_open;
      holds = here.bodies ∙ s.holds;
      keeps = keeps_behind current d c at n torn (omega (arith, to)) s.keeps;
      stale_slot = stale;
    }

-- all pages are written: the stale gate is to be closed, or needn't be
pub stands_to_close : (k slot : ℕ) (current next : Saved) (c : List ℕ) → Stands (Pages k) slot true current next c → Stands Close slot true current next c
stands_to_close k slot current next c s = stands_on (Pages k) Close slot true current next c s (s.stale_slot.0, s.stale_slot.1.opened refl)

pub stands_to_sync : (k slot : ℕ) (stale_open : Bool) (current next : Saved) (c : List ℕ) → Stands (Pages k) slot stale_open current next c
    → Stands Sync1 slot stale_open current next c
stands_to_sync k slot stale_open current next c s = stands_on (Pages k) Sync1 slot stale_open current next c s s.stale_slot.0

-- the stale gate is closed, or torn
pub stands_close : (slot : ℕ) (stale_open : Bool) (current next : Saved) (d c : List ℕ) → slot < 2 → Torn (4096 * (1 - slot)) 1 d c
    → Stands Close slot stale_open current next d → Stands Sync1 slot stale_open current next c
stands_close slot stale_open current next d c below torn s =
    stands_beside Close Sync1 slot stale_open current next d c (4096 * (1 - slot)) 1 below torn (omega arith) (omega arith) s
    (λ is. rw (body_behind_gate d c (1 - slot) torn) (s.stale_slot.0 s.stale_slot.1))

-- the pages and the closed gate are settled
pub stands_sync1 : (slot : ℕ) (stale_open : Bool) (current next : Saved) (numbers fresh : List ℕ) (file : List ℕ) → MakesNext current numbers fresh next
    → HasWritten Sync1 slot next numbers fresh file → Stands Sync1 slot stale_open current next file → Stands Body slot stale_open current next file
stands_sync1 slot stale_open current next numbers fresh file makes reads s =
    stands_on Sync1 Body slot stale_open current next file s (reads.1, makes file s.keeps reads.0)

-- the body is written, or torn
pub stands_body : (slot : ℕ) (stale_open : Bool) (current next : Saved) (d c : List ℕ) → slot < 2 → Torn (4096 * (1 - slot) + 8) 4088 d c
    → Stands Body slot stale_open current next d → Stands Sync2 slot stale_open current next c
stands_body slot stale_open current next d c below torn s =
    stands_beside Body Sync2 slot stale_open current next d c (4096 * (1 - slot) + 8) 4088 below torn (omega arith) (omega arith) s (
      λ is. s.stale_slot.0 (sym (gate_before_body d c (1 - slot) torn) ∙ is),
      keeps_behind next d c (4096 * (1 - slot) + 8) 4088 torn (omega arith) s.stale_slot.1,
    )

-- the body is settled
pub stands_sync2 : (slot : ℕ) (stale_open : Bool) (current next : Saved) (file : List ℕ) → body (1 - slot) file ≡ next.body
    → Stands Sync2 slot stale_open current next file → Stands Gate slot stale_open current next file
stands_sync2 slot stale_open current next file written s =
    stands_on Sync2 Gate slot stale_open current next file s (s.stale_slot.0, s.stale_slot.1, written)

-- the gate is written, or torn
pub stands_gate : (slot : ℕ) (stale_open : Bool) (current next : Saved) (d c : List ℕ) → slot < 2 → Torn (4096 * (1 - slot)) 1 d c
    → Stands Gate slot stale_open current next d → Stands Sync3 slot stale_open current next c
stands_gate slot stale_open current next d c below torn s =
    stands_beside Gate Sync3 slot stale_open current next d c (4096 * (1 - slot)) 1 below torn (omega arith) (omega arith) s (
      keeps_behind next d c (4096 * (1 - slot)) 1 torn (omega arith) s.stale_slot.1,
      body_behind_gate d c (1 - slot) torn ∙ s.stale_slot.2,
    )

-- the gate is settled: the slots change places
pub stands_sync3 : (slot : ℕ) (stale_open : Bool) (current next other : Saved) (file : List ℕ) → slot < 2 → version_of current.body < version_of next.body
    → gate (1 - slot) file ≡ 1 → Stands Sync3 slot stale_open current next file → Stands Idle (1 - slot) true next other file
stands_sync3 slot stale_open current next other file below newer is s =
    let back = other_of_other slot below in
    record {
      whole = s.whole;
      is_open = is;
      holds = s.stale_slot.1;
      keeps = s.stale_slot.0;
      stale_slot = (
        λ too. rw (back, s.holds) newer,
        record {
          opened = λ yes. rw (back) s.is_open;
          closed = λ no. absurd cc;
        },
      );
    }

-- the image of a file whose live slot is this
stored_in : (file : List ℕ) (slot : ℕ) (root : Saved) → live file ≡ Ok slot → body slot file ≡ root.body → HasPages root file → IsRootOf root file
stored_in file slot root is holds has_pages =
    record {
      holds =
          ap (λ l. in_slot file l) is ∙ ap (λ b. root_and_stream b (stream file b)) holds ∙ ap (λ r. root_and_stream root.body r) has_pages.spells;
      reaches = has_pages.reaches;
    }

-- with the stale slot older or closed, the image is the committed root
is_by_older : (phase : Phase) (slot : ℕ) (stale_open : Bool) (current next : Saved) (file : List ℕ) → slot < 2 → IsOlder slot current file
    → Stands phase slot stale_open current next file → IsRootOf current file
is_by_older phase slot stale_open current next file below older s = elim (cases_eq (gate (1 - slot) file) 1) [
  | inl is ↦ stored_in file slot current (live_greater file slot below s.whole s.is_open is (rw (s.holds) (older is))) s.holds s.keeps
  | inr shut ↦ stored_in file slot current (live_alone file slot below s.whole s.is_open shut) s.holds s.keeps
]

-- between two commits the live slot is this one
pub live_by_older : (slot : ℕ) (stale_open : Bool) (current next : Saved) (file : List ℕ) → slot < 2 → Stands Idle slot stale_open current next file → live file ≡ Ok slot
live_by_older slot stale_open current next file below s = elim (cases_eq (gate (1 - slot) file) 1) [
  | inl is ↦ live_greater file slot below s.whole s.is_open is (rw (s.holds) (s.stale_slot.0 is))
  | inr shut ↦ live_alone file slot below s.whole s.is_open shut
]

is_by_shut : (phase : Phase) (slot : ℕ) (stale_open : Bool) (current next : Saved) (file : List ℕ) → slot < 2 → gate (1 - slot) file ≢ 1
    → Stands phase slot stale_open current next file → IsRootOf current file
is_by_shut phase slot stale_open current next file below shut s =
    stored_in file slot current (live_alone file slot below s.whole s.is_open shut) s.holds s.keeps

-- the image of a file in each phase
pub is_left : (phase : Phase) (slot : ℕ) (stale_open : Bool) (current next : Saved) (file : List ℕ) → slot < 2 → version_of current.body < version_of next.body
    → Stands phase slot stale_open current next file → IsLeft phase current next file
is_left Idle slot stale_open current next file below newer s = is_by_older Idle slot stale_open current next file below s.stale_slot.0 s
is_left (Pages k) slot stale_open current next file below newer s = is_by_older (Pages k) slot stale_open current next file below s.stale_slot.0 s
is_left Close slot stale_open current next file below newer s = is_by_older Close slot stale_open current next file below s.stale_slot.0 s
is_left Sync1 slot stale_open current next file below newer s = is_by_older Sync1 slot stale_open current next file below s.stale_slot s
is_left Body slot stale_open current next file below newer s = is_by_shut Body slot stale_open current next file below s.stale_slot.0 s
is_left Sync2 slot stale_open current next file below newer s = is_by_shut Sync2 slot stale_open current next file below s.stale_slot.0 s
is_left Gate slot stale_open current next file below newer s = is_by_shut Gate slot stale_open current next file below s.stale_slot.0 s
is_left Sync3 slot stale_open current next file below newer s = elim (cases_eq (gate (1 - slot) file) 1) [
  | inr shut ↦ inl (is_by_shut Sync3 slot stale_open current next file below shut s)
  | inl is ↦
      let back = other_of_other slot below in
      let older : version_of (body (1 - (1 - slot)) file) < version_of (body (1 - slot) file) = rw (back, s.holds, s.stale_slot.1) newer in
      let both : live file ≡ Ok (1 - slot) = live_greater file (1 - slot) (omega arith) s.whole is (rw (back) s.is_open) older in
      inr (stored_in file (1 - slot) next both s.stale_slot.1 s.stale_slot.0)
]

-- between two commits, too
pub is_idle : (slot : ℕ) (stale_open : Bool) (current next : Saved) (file : List ℕ) → slot < 2 → Stands Idle slot stale_open current next file → IsRootOf current file
is_idle slot stale_open current next file below s = is_by_older Idle slot stale_open current next file below s.stale_slot.0 s

-- the next page reads as it was written, and those before it
pub reads_page : (k : ℕ) (numbers fresh old new : List ℕ) → are_pages numbers ≡ true → k < length numbers
    → Torn (4096 * get_or numbers k 0) 4096 old new → page (get_or numbers k 0) new ≡ part fresh (4096 * k) 4096
    → ReadAs k numbers fresh old → ReadAs (k + 1) numbers fresh new
reads_page k numbers fresh old new apart within torn written before i below = elim (cases_lt i k) [
  | inl earlier ↦ page_other old new (get_or numbers k 0) (get_or numbers i 0) torn (no_two numbers i k apart earlier within) ∙ before i earlier
  | inr not_below ↦
      let same : i ≡ k = omega arith in
      rw (same) written
]

-- a write before the pages leaves what is written of them
pub reads_behind : (at k : ℕ) (numbers fresh old new : List ℕ) → are_pages numbers ≡ true → Torn at k old new → at + k ≤ 8192
    → ReadAs (length numbers) numbers fresh old → ReadAs (length numbers) numbers fresh new
reads_behind at k numbers fresh old new apart torn within before i below =
    let behind : 2 ≤ get_or numbers i 0 = each_behind numbers i apart below in
    part_outside old new at k (4096 * get_or numbers i 0) 4096 torn (inr (omega (arith, behind, within))) ∙ before i below
