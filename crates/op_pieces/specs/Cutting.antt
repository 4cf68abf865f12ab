-- Operations, cut into pieces that are as long as they can be.
use Rattle.std.specs.Prelude.{◌≡◌, ℕ, ◌+◌, Bool, true, false, not, ◌&&◌, ◌==◌, nat_lt, nat_le, if◌then◌else◌, List, [], ◌∷◌, length, Option, Some, None}
use Rattle.fixed_numbers.specs.declared.limits.TheConstants.{MAX_COUNTER, MAX_EDIT}
use Rattle.op_ids.specs.Id.{Id, is_same}
use Rattle.op_ids.specs.Clock.{advanced, is_clock, is_same_clock}
use Rattle.op_model.specs.declared.op.Op.{Op}
use Rattle.op_model.specs.declared.op.Body.{Body}
use Rattle.op_model.specs.declared.op.Body.TheVariants.{Insert, Remove, AddMark, RemoveMark}
use Rattle.op_model.specs.Causality.{is_insert}
use Rattle.op_pieces.specs.Pieces.{Run, end_of, single, longer}

-- the character that is inserted, or 0
abbrev pub value_of : Body → ℕ
value_of (Insert origin value) = value
value_of (Remove target) = 0
value_of (AddMark mark start end) = 0
value_of (RemoveMark key start end) = 0

-- a character is inserted right behind this one
abbrev pub is_behind : Id → Body → Bool
is_behind id (Insert (Some origin) value) = is_same origin id
is_behind id (Insert None value) = false
is_behind id (Remove target) = false
is_behind id (AddMark mark start end) = false
is_behind id (RemoveMark key start end) = false

-- both have the same token, or neither has one
abbrev pub is_same_token : Option ℕ → Option ℕ → Bool
is_same_token None None = true
is_same_token (Some a) (Some b) = a == b
is_same_token None (Some b) = false
is_same_token (Some a) None = false

-- the operation is typed right behind the last one, which is an insert
abbrev pub is_next : Op → Op → Bool
is_next last op =
    is_insert last.body && (is_behind last.id op.body && (op.id.counter == last.id.counter + 1 && (op.id.replica == last.id.replica
    && (op.doc == last.doc && (is_same_token op.token last.token && is_same_clock op.deps (advanced last.deps last.id.replica))))))

-- a piece whose last operation is this one can have one more
abbrev pub goes_on : Run → Op → Op → Bool
goes_on p last op = nat_lt (length p.others + 1) MAX_EDIT && is_next last op

-- the pieces of an open one, whose last operation is this one, and of those behind it
abbrev pub cut_behind : Run → Op → List Op → List Run
cut_behind p last [] = p ∷ []
cut_behind p last (op ∷ ops) =
    if goes_on p last op then cut_behind (longer p (value_of op.body)) op ops else p ∷ cut_behind (single op) op ops

-- the pieces of operations: each goes on as long as it can
abbrev pub cut : List Op → List Run
cut [] = []
cut (op ∷ ops) = cut_behind (single op) op ops

-- a piece that may go on, and its last operation
pub record Open : Type 0 where
  pub piece : Run
  pub last : Op

-- the last operation is that of the piece
abbrev pub IsOpen : Open → Type 0
IsOpen it = end_of it.piece ≡ it.last

-- counters and deps are in their ranges
abbrev pub is_valid : Op → Bool
is_valid op = nat_le op.id.counter MAX_COUNTER && is_clock op.deps

-- the first of these pieces could begin with the next one's first operation
abbrev pub may_go_on : Run → List Run → Bool
may_go_on p [] = false
may_go_on p (q ∷ qs) = goes_on p (end_of p) q.first

-- none can take the first operation of the next one
abbrev pub are_longest : List Run → Bool
are_longest [] = true
are_longest (p ∷ ps) = not (may_go_on p ps) && are_longest ps
