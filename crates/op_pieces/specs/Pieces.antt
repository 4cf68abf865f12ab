-- Operations in a row that one record can hold.
use Rattle.std.specs.Prelude.{◌≡◌, ℕ, ◌+◌, Bool, true, ◌&&◌, nat_lt, nat_le, List, [], ◌∷◌, ◌++◌, length, Some}
use Rattle.fixed_numbers.specs.declared.limits.TheConstants.{MAX_COUNTER, MAX_EDIT}
use Rattle.op_ids.specs.Clock.{advanced, advanced_by, is_clock}
use Rattle.op_model.specs.declared.op.Op.{Op}
use Rattle.op_model.specs.declared.op.Body.TheVariants.{Insert}
use Rattle.op_model.specs.Causality.{is_insert}

-- an operation, and the characters that are typed behind it
pub record Run : Type 0 where
  pub first : Op
  pub others : List ℕ

-- the insert of a character right behind an insert, by the same replica, in the same edit
abbrev pub next_typed : Op → ℕ → Op
next_typed op v = record {
  id = record { counter = op.id.counter + 1; replica = op.id.replica };
  doc = op.doc;
  token = op.token;
  deps = advanced op.deps op.id.replica;
  body = Insert (Some op.id) v;
}

-- these characters, each right behind the one before
abbrev pub typed_behind : Op → List ℕ → List Op
typed_behind op [] = []
typed_behind op (v ∷ vs) = next_typed op v ∷ typed_behind (next_typed op v) vs

-- the operations of a piece
abbrev pub ops_of : Run → List Op
ops_of p = p.first ∷ typed_behind p.first p.others

-- the operations of pieces, one behind another
abbrev pub joined : List Run → List Op
joined [] = []
joined (p ∷ ps) = ops_of p ++ joined ps

-- the operation behind which one more would be typed
abbrev pub last_typed : Op → List ℕ → Op
last_typed op [] = op
last_typed op (v ∷ vs) = last_typed (next_typed op v) vs

abbrev pub end_of : Run → Op
end_of p = last_typed p.first p.others

-- it inserts, and n characters more have counters, own counts and a number in range
abbrev pub has_room_behind : Op → ℕ → Bool
has_room_behind op n =
    is_insert op.body && (nat_lt n MAX_EDIT && (nat_le (op.id.counter + n) MAX_COUNTER && is_clock (advanced_by op.deps op.id.replica n)))

-- there are no such characters, or the operation has room for them
abbrev pub fits_behind : Op → List ℕ → Bool
fits_behind op [] = true
fits_behind op (v ∷ vs) = has_room_behind op (length (v ∷ vs))

-- one operation, or a run of 2 to 256 inserts
abbrev pub is_piece : Run → Bool
is_piece p = fits_behind p.first p.others

-- each of them is one
abbrev pub ArePieces : List Run → Type 0
ArePieces [] = Unit {0}
ArePieces (p ∷ ps) = (is_piece p ≡ true) × ArePieces ps

-- the piece of one operation
abbrev pub single : Op → Run
single op = record { first = op; others = [] }

-- the piece with a character more
abbrev pub longer : Run → ℕ → Run
longer p v = record p { others = p.others ++ v ∷ [] }
