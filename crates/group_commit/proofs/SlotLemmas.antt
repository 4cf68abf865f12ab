-- Both slots behind a write of a page, and which slot is live.
use Rattle.std.proofs.Common.{◌≡◌, ◌≢◌, ℕ, ◌+◌, ◌-◌, ◌*◌, ◌<◌, ◌≤◌, List, length, ap, inl, arith, Ok}
use Rattle.disk_trait.specs.File.{Torn}
use Rattle.page_file.proofs.Parts.{part_outside}
use Rattle.root_slots.specs.Root.{version_of}
use Rattle.root_slots.specs.Slots.{first_byte, gate, body, live}
use Rattle.root_slots.proofs.LiveLemmas.{lives_by}
use Rattle.root_slots.proofs.SlotWrites.{SameSlot}

-- a write of a page behind the slots leaves both
pub slot_before_pages : (d c : List ℕ) (m slot : ℕ) → Torn (4096 * m) 4096 d c → 2 ≤ m → slot < 2 → SameSlot slot d c
slot_before_pages d c m slot torn above below = record {
  gates = ap first_byte (part_outside d c (4096 * m) 4096 (4096 * slot) 1 torn (inl (omega (arith, above, below))));
  bodies = part_outside d c (4096 * m) 4096 (4096 * slot + 8) 4088 torn (inl (omega (arith, above, below)));
}

-- two slots: the other one's other is the first
pub other_of_other : (slot : ℕ) → slot < 2 → 1 - (1 - slot) ≡ slot
other_of_other slot below = omega (arith, below)

-- one slot alone is open: it is live
pub live_alone : (file : List ℕ) (slot : ℕ) → slot < 2 → 8192 ≤ length file → gate slot file ≡ 1 → gate (1 - slot) file ≢ 1 → live file ≡ Ok slot
live_alone file slot below whole is shut =
    lives_by file slot (record { below = below; whole = whole; is_open = is; older = λ too. absurd (shut too) })

-- both are open: the one with the greater version is live
pub live_greater : (file : List ℕ) (slot : ℕ) → slot < 2 → 8192 ≤ length file → gate slot file ≡ 1 → gate (1 - slot) file ≡ 1
    → version_of (body (1 - slot) file) < version_of (body slot file) → live file ≡ Ok slot
live_greater file slot below whole is too older =
    lives_by file slot (record { below = below; whole = whole; is_open = is; older = λ _. older })
