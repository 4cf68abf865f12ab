-- What a write within a slot leaves of the slots, and what it puts there.
use Rattle.std.proofs.Common.{◌≡◌, ℕ, zero, suc, ◌+◌, ◌-◌, ◌*◌, ◌<◌, ◌≤◌, List, [], ◌∷◌, length, refl, ap, inl, inr, arith}
use Rattle.disk_trait.specs.File.{Torn, overwritten}
use Rattle.page_file.proofs.Parts.{part_outside, part_written}
use Rattle.root_slots.specs.Slots.{first_byte, gate, body}

-- a slot in a file is as in another one
pub record SameSlot (slot : ℕ) (d c : List ℕ) : Type 0 where
  pub gates : gate slot c ≡ gate slot d
  pub bodies : body slot c ≡ body slot d

-- a write within one slot leaves the other one
pub slot_beside : (d c : List ℕ) (at k slot : ℕ) → Torn at k d c → slot < 2 → 4096 * (1 - slot) ≤ at → at + k ≤ 4096 * (1 - slot) + 4096
    → SameSlot slot d c
slot_beside d c at k zero torn below from to = record {
  gates = ap first_byte (part_outside d c at k 0 1 torn (inl (omega (arith, from))));
  bodies = part_outside d c at k 8 4088 torn (inl (omega (arith, from)));
}
slot_beside d c at k (suc zero) torn below from to = record {
  gates = ap first_byte (part_outside d c at k 4096 1 torn (inr (omega (arith, to))));
  bodies = part_outside d c at k 4104 4088 torn (inr (omega (arith, to)));
}
slot_beside d c at k (suc (suc n)) torn below from to = absurd (omega (arith, below))

-- a write of a gate leaves the body behind it
pub body_behind_gate : (d c : List ℕ) (slot : ℕ) → Torn (4096 * slot) 1 d c → body slot c ≡ body slot d
body_behind_gate d c slot torn = part_outside d c (4096 * slot) 1 (4096 * slot + 8) 4088 torn (inr (omega arith))

-- and a write of a body the gate before it
pub gate_before_body : (d c : List ℕ) (slot : ℕ) → Torn (4096 * slot + 8) 4088 d c → gate slot c ≡ gate slot d
gate_before_body d c slot torn = ap first_byte (part_outside d c (4096 * slot + 8) 4088 (4096 * slot) 1 torn (inl (omega arith)))

-- what is written into a gate is there
pub gate_written : (d : List ℕ) (slot byte : ℕ) → 4096 * slot ≤ length d → gate slot (overwritten d (4096 * slot) (byte ∷ [])) ≡ byte
gate_written d slot byte within = ap first_byte (part_written d (4096 * slot) 1 (byte ∷ []) within refl)
