-- The two root slots of a file: pages 0 and 1, each a gate and a body.
use Rattle.std.specs.Prelude.{ℕ, ◌*◌, ◌+◌, ◌==◌, nat_lt, if◌then◌else◌, List, [], ◌∷◌, length, Result, Ok, Err}
use Rattle.fixed_numbers.specs.declared.refusals.TheConstants.{BAD_ROOT, NO_ROOT}
use Rattle.fixed_numbers.specs.declared.sizes.TheConstants.{BODY_LENGTH, PAGE_SIZE, SLOTS_SIZE}
use Rattle.disk_trait.specs.File.{part}
use Rattle.root_slots.specs.Root.{version_of}

abbrev pub first_byte : List ℕ → ℕ
first_byte [] = 0
first_byte (byte ∷ bytes) = byte

-- the first byte of a slot: it is open where this is 1
abbrev pub gate : ℕ → List ℕ → ℕ
gate slot file = first_byte (part file (PAGE_SIZE * slot) 1)

-- where the gate of a slot stands in a file, and where its body begins
abbrev pub gate_place : ℕ → ℕ
gate_place slot = PAGE_SIZE * slot

abbrev pub body_place : ℕ → ℕ
body_place slot = PAGE_SIZE * slot + 8

-- the bytes of a slot from byte 8 of its page on
abbrev pub body : ℕ → List ℕ → List ℕ
body slot file = part file (PAGE_SIZE * slot + 8) BODY_LENGTH

-- the slot with the greater version, or bad root 43 where they are equal
abbrev pub greater : ℕ → ℕ → Result ℕ ℕ
greater version0 version1 =
    if nat_lt version1 version0 then Ok 0 else if nat_lt version0 version1 then Ok 1 else Err BAD_ROOT

-- which slot is live: the open one, of two the one with the greater version; no root 42 where none is open
abbrev pub picked : ℕ → ℕ → ℕ → ℕ → Result ℕ ℕ
picked gate0 gate1 version0 version1 =
    if gate0 == 1 then (if gate1 == 1 then greater version0 version1 else Ok 0)
    else (if gate1 == 1 then Ok 1 else Err NO_ROOT)

-- the live slot of a file, or why there is none: no root 42 where the two slots don't lie whole in it
abbrev pub live : List ℕ → Result ℕ ℕ
live file =
    if nat_lt (length file) SLOTS_SIZE then Err NO_ROOT
    else picked (gate 0 file) (gate 1 file) (version_of (body 0 file)) (version_of (body 1 file))
