-- What is counted of a document, and of a list of operations.
use Rattle.std.specs.Prelude.{ℕ, ◌==◌, Bool, ◌&&◌, nat_lt, if◌then◌else◌, List, [], ◌∷◌, ◌++◌, length, map, filter}
use Rattle.std.specs.List.{list_any}
use Rattle.fixed_numbers.specs.declared.limits.TheConstants.{MAX_REPLICAS}
use Rattle.op_model.specs.declared.op.Op.{Op}
use Rattle.op_model.specs.Causality.{clock_of, documents}
use Rattle.op_model.specs.Held.{ReplicaHeld}
use Rattle.op_model.specs.Records.{stream_length}
use Rattle.op_model.specs.Text.{rev, text}
use Rattle.list_counts.specs.declared.room.FileRoom.{FileRoom}
use Rattle.list_counts.specs.declared.room.Room.{Room}

-- what is counted of a document: its number, how many characters it shows, how many operations it has, and who wrote in it
pub record Counted : Type 0 where
  pub doc : ℕ
  pub chars : ℕ
  pub ops : ℕ
  pub writers : List ℕ

-- a replica has an operation in the document
abbrev pub wrote : List Op → ℕ → ℕ → Bool
wrote ops doc replica = list_any (λ op. op.doc == doc && op.id.replica == replica) ops

-- the replicas that have operations in the document, in rising order
abbrev pub writers : List Op → ℕ → List ℕ
writers ops doc = filter (wrote ops doc) (map (λ e. e.0) (clock_of ops))

-- what is counted of a document of these operations
abbrev pub counted : List Op → ℕ → Counted
counted ops doc = record { doc = doc; chars = length (text ops doc); ops = rev ops doc; writers = writers ops doc }

-- what is counted of each document that has operations, in rising order
abbrev pub all_counted : List Op → List Counted
all_counted ops = map (counted ops) (documents ops)

-- the room that these operations take
abbrev pub room_of : List Op → FileRoom
room_of ops = record {
  bytes = stream_length ops;
  documents = length (documents ops);
  operations = length ops;
  replicas = length (clock_of ops);
}

-- the room that a replica takes which holds this: with its steps
abbrev pub held_room : ReplicaHeld → Room
held_room h = record { file = room_of h.list; steps = length h.steps }

-- writers with one more, if it isn't among them, and they aren't as many as a store may have
abbrev pub with_writer : ℕ → List ℕ → List ℕ
with_writer replica known =
    if list_any (λ writer. writer == replica) known then known
    else if nat_lt (length known) MAX_REPLICAS then known ++ replica ∷ [] else known

-- writers with those of operations, one after another
abbrev pub with_all : List ℕ → List Op → List ℕ
with_all known [] = known
with_all known (op ∷ ops) = with_all (with_writer op.id.replica known) ops

-- the first replicas that wrote in the document, as many as a store may have, in the order in which they came
abbrev pub first_writers : List Op → ℕ → List ℕ
first_writers ops doc = with_all [] (filter (λ op. op.doc == doc) ops)
