-- Used by private functions and proofs alone.
--
-- Where the operations of each replica stand in a list.
use Rattle.std.specs.Prelude.{◌≡◌, ℕ, ◌+◌, ◌-◌, ◌<◌, ◌==◌, if◌then◌else◌, true, nat_lt, List, [], ◌∷◌, ◌++◌}
use Rattle.std.specs.Prelude.{Option, Some, None, slice_get, vec_len, vec_capacity}
use Rattle.std.specs.List.{list_all}
use Rattle.op_model.specs.declared.op.Op.{Op}
use Rattle.replica_core.specs.declared.maker.Maker.{Maker}

-- the indexes that are kept for a replica
abbrev pub places_of : List Maker → ℕ → List ℕ
places_of [] replica = []
places_of (m ∷ ms) replica = if m.replica == replica then m.places.items else places_of ms replica

-- the indexes of a replica's operations in a list, where the first operation has this one
abbrev pub places_from : ℕ → List Op → ℕ → List ℕ
places_from first [] replica = []
places_from first (op ∷ ops) replica =
    if op.id.replica == replica then first ∷ places_from (first + 1) ops replica else places_from (first + 1) ops replica

-- for how many more of its operations there is room
abbrev pub room_of : List Maker → ℕ → ℕ
room_of [] replica = 0
room_of (m ∷ ms) replica =
    if m.replica == replica then vec_capacity m.places - vec_len m.places else room_of ms replica

-- so much more, where there is a number
abbrev pub raised : ℕ → Option ℕ → Option ℕ
raised by None = None
raised by (Some n) = Some (by + n)

-- which of the makers a replica is, if it is one of them
abbrev pub maker_place : List Maker → ℕ → Option ℕ
maker_place [] replica = None
maker_place (m ∷ ms) replica = if m.replica == replica then Some 0 else raised 1 (maker_place ms replica)

-- the operation, if there is one
abbrev pub optional : Option Op → List Op
optional None = []
optional (Some op) = op ∷ []

-- the operations at these indexes of a list
abbrev pub at_places : List Op → List ℕ → List Op
at_places ops [] = []
at_places ops (i ∷ is) = optional (slice_get ops i) ++ at_places ops is

-- these indexes are below a length
abbrev pub AreBelow : ℕ → List ℕ → Type 0
AreBelow n [] = Unit {0}
AreBelow n (i ∷ is) = (i < n) × AreBelow n is

-- the counters rise
abbrev pub Climb : List Op → Type 0
Climb [] = Unit {0}
Climb (op ∷ ops) = (list_all (λ later. nat_lt op.id.counter later.id.counter) ops ≡ true) × Climb ops
