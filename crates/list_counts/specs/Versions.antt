-- The versions of a document: stretches of its operations, one after another in the list, each of one replica.
use Rattle.std.specs.Prelude.{ℕ, ◌+◌, ◌==◌, Bool, ◌&&◌, nat_lt, if◌then◌else◌, List, [], ◌∷◌, map, filter}
use Rattle.op_model.specs.declared.op.Op.{Op}
use Rattle.list_counts.specs.declared.version.Version.{Version}

-- one operation of a replica, after so many of the document
abbrev pub begun : ℕ → ℕ → Version
begun before replica = record { rev = before + 1; replica = replica; ops = 1 }

-- an operation of this replica belongs to a version too: it is of the same one, which has fewer than `every` operations
abbrev pub goes_on : ℕ → Version → ℕ → Bool
goes_on every v replica = v.replica == replica && nat_lt v.ops every

-- a version with one operation more
abbrev pub longer : Version → Version
longer v = record v { rev = v.rev + 1; ops = v.ops + 1 }

-- a version with what belongs to it of the operations after it, made by these replicas, and then the next ones
abbrev pub versions_after : ℕ → Version → List ℕ → List Version
versions_after every v [] = v ∷ []
versions_after every v (replica ∷ more) =
    if goes_on every v replica then versions_after every (longer v) more else v ∷ versions_after every (begun v.rev replica) more

-- the versions of operations that these replicas made, one after another
abbrev pub versions_by : ℕ → List ℕ → List Version
versions_by every [] = []
versions_by every (replica ∷ more) = versions_after every (begun 0 replica) more

-- the replica of each of a document's operations, in the order of the list
abbrev pub makers : List Op → ℕ → List ℕ
makers ops doc = map (λ op. op.id.replica) (filter (λ op. op.doc == doc) ops)

-- the versions of a document, of at most `every` operations each
abbrev pub versions : List Op → ℕ → ℕ → List Version
versions ops doc every = versions_by every (makers ops doc)
