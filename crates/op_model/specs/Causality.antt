-- Which operation may follow a list of operations.
use Rattle.std.specs.Prelude.{◌≡◌, ◌⊎◌, ℕ, ◌+◌, ◌==◌, Bool, true, false, IsTrue, not, ◌&&◌, nat_lt}
use Rattle.std.specs.Prelude.{nat_le, if◌then◌else◌, List, [], ◌∷◌, ◌++◌, length, take, map, filter}
use Rattle.std.specs.Prelude.{Option, Some, None}
use Rattle.std.specs.List.{list_any, list_all}
use Rattle.fixed_numbers.specs.declared.limits.TheConstants.{MAX_COUNTER, MAX_DOCUMENTS, MAX_OPERATIONS, MAX_REPLICAS, MAX_STREAM_LENGTH}
use Rattle.fixed_numbers.specs.declared.refusals.TheConstants.{COUNTER, DOCUMENT, NAMES, STORE_LIMIT}
use Rattle.op_ids.specs.Id.{Id, is_same}
use Rattle.op_ids.specs.Clock.{count_of, advanced, is_ready}
use Rattle.op_model.specs.declared.op.Op.{Op}
use Rattle.op_model.specs.declared.op.Body.{Body}
use Rattle.op_model.specs.declared.op.Body.TheVariants.{Insert, Remove, AddMark, RemoveMark}
use Rattle.op_model.specs.declared.anchor.Anchor.{Anchor}
use Rattle.op_model.specs.declared.anchor.Anchor.TheVariants.{Before, After}
use Rattle.op_model.specs.declared.anchor.Start.{Start}
use Rattle.op_model.specs.declared.anchor.Start.TheVariants as start
use Rattle.op_model.specs.declared.anchor.End.{End}
use Rattle.op_model.specs.declared.anchor.End.TheVariants as end
use Rattle.op_model.specs.Spans.{rising}
use Rattle.op_model.specs.Records.{stream_length}

-- how many operations each replica has in the list
abbrev pub clock_of : List Op → List (ℕ × ℕ)
clock_of [] = []
clock_of (op ∷ ops) = advanced (clock_of ops) op.id.replica

-- the operations of a replica, in order
abbrev pub made_by : ℕ → List Op → List Op
made_by replica ops = filter (λ op. op.id.replica == replica) ops

-- an operation is known where the clock counts more of its replica than it depends on
abbrev pub is_known : List (ℕ × ℕ) → Op → Bool
is_known clock op = nat_lt (count_of op.deps op.id.replica) (count_of clock op.id.replica)

abbrev pub is_insert : Body → Bool
is_insert (Insert origin value) = true
is_insert (Remove target) = false
is_insert (AddMark mark start end) = false
is_insert (RemoveMark key start end) = false

abbrev pub optional : Option Id → List Id
optional None = []
optional (Some id) = id ∷ []

abbrev pub named_by_anchor : Anchor → List Id
named_by_anchor (Before id) = id ∷ []
named_by_anchor (After id) = id ∷ []

abbrev pub named_by_start : Start → List Id
named_by_start start.OfText = []
named_by_start (start.From anchor) = named_by_anchor anchor

abbrev pub named_by_end : End → List Id
named_by_end (end.To anchor) = named_by_anchor anchor
named_by_end end.OfText = []

-- the characters that an operation names
abbrev pub named_by : Body → List Id
named_by (Insert origin value) = optional origin
named_by (Remove target) = target ∷ []
named_by (AddMark mark start end) = named_by_start start ++ named_by_end end
named_by (RemoveMark key start end) = named_by_start start ++ named_by_end end

-- among the first operations of the id's replica, as many as deps count, one is an insert of the document with this id
abbrev pub is_covered_insert : List Op → List (ℕ × ℕ) → ℕ → Id → Bool
is_covered_insert ops deps doc id =
    list_any (λ op. is_same op.id id && op.doc == doc && is_insert op.body)
    (take (count_of deps id.replica) (made_by id.replica ops))

-- its counter is greater than that of each earlier operation of its replica; in a causally closed list the last one decides
abbrev pub is_counted_up : List Op → Op → Bool
is_counted_up ops op = list_all (λ earlier. nat_lt earlier.id.counter op.id.counter) (made_by op.id.replica ops)

-- what it names are inserts of its document that its deps cover, with smaller counters
abbrev pub names_inserts : List Op → Op → Bool
names_inserts ops op =
    list_all (λ id. is_covered_insert ops op.deps op.doc id && nat_lt id.counter op.id.counter) (named_by op.body)

-- the documents that have operations
abbrev pub documents : List Op → List ℕ
documents ops = rising (map (λ op. op.doc) ops)

-- a counter from 1 to 2^48 - 1, a document from 1 to 2^32 - 1
abbrev pub is_in_range : Op → Bool
is_in_range op =
    nat_lt 0 op.id.counter && nat_lt op.id.counter (MAX_COUNTER + 1) && nat_lt 0 op.doc && nat_lt op.doc 4294967296

-- at most 16 replicas, 1,024 documents, 2^24 operations, 2^30 bytes of records
abbrev pub has_room : List Op → Bool
has_room ops =
    nat_le (length (clock_of ops)) MAX_REPLICAS && nat_le (length (documents ops)) MAX_DOCUMENTS && nat_le (length ops) MAX_OPERATIONS
    && nat_le (stream_length ops) MAX_STREAM_LENGTH

-- keeps the limits of a store
abbrev pub is_within_limits : List Op → Bool
is_within_limits ops = list_all is_in_range ops && has_room ops

-- an operation may be applied after these
pub record MayFollow (ops : List Op) (op : Op) : Type 0 where
  -- it is the next one of its replica, and all that it depends on is there
  pub ready : IsTrue (is_ready (clock_of ops) op.id.replica op.deps)
  pub counter : IsTrue (is_counted_up ops op)
  pub names : IsTrue (names_inserts ops op)
  pub document : IsTrue (nat_lt 0 op.doc)
  pub limits : IsTrue (is_within_limits (ops ++ op ∷ []))

-- of an operation that is ready, the number of the first check that fails: counter 21, names 22, document 23, limits 24
abbrev pub first_failed : List Op → Op → Option ℕ
first_failed ops op =
    if not (is_counted_up ops op) then Some COUNTER
    else if not (names_inserts ops op) then Some NAMES
    else if not (nat_lt 0 op.doc) then Some DOCUMENT
    else if not (is_within_limits (ops ++ op ∷ [])) then Some STORE_LIMIT
    else None

-- each of these may follow those before it
abbrev pub FollowInTurn : List Op → List Op → Type 0
FollowInTurn before [] = Unit {0}
FollowInTurn before (op ∷ ops) = MayFollow before op × FollowInTurn (before ++ op ∷ []) ops

-- a causally closed list: each operation may follow those before it
abbrev pub IsCausallyClosed : List Op → Type 0
IsCausallyClosed ops = FollowInTurn [] ops

-- is one of the operations
abbrev pub HasOp : List Op → Op → Type 0
HasOp [] op = ⊥
HasOp (x ∷ xs) op = (x ≡ op) ⊎ HasOp xs op

-- both lists have the same operations
pub record HaveSameOps (a b : List Op) : Type 0 where
  pub no_more : (op : Op) → HasOp a op → HasOp b op
  pub no_fewer : (op : Op) → HasOp b op → HasOp a op
