-- What may happen in a world, one thing after another.
use Rattle.std.specs.Prelude.{◌≡◌, ℕ, List, [], ◌∷◌, ◌++◌}
use Rattle.op_model.specs.Machine.{State, Event, merge, Answer, Step, CrashLeaves}
use Rattle.world_law.specs.World.{Message, World, IsInBag, told_by}

-- an event of the replica with this number, with its answer; or a crash of that replica, and its opening behind it
pub data Happening : Type 0 where
  step : ℕ → Event → Answer → Happening
  crash : ℕ → Happening

-- one machine, of this number, is in another state, and all others stay as they are
pub record IsChanged (replica : ℕ) (before after : List State) : Type 0 where
  pub front : List State
  pub rest : List State
  pub old : State
  pub next : State
  pub number : old.held.replica ≡ replica
  pub was : before ≡ front ++ old ∷ rest
  pub is : after ≡ front ++ next ∷ rest

-- the operation of a merge lies in the bag: none is forged
abbrev pub ComesFrom : List Message → Event → Type 0
ComesFrom bag (merge peer op) = IsInBag bag op
ComesFrom bag _ = Unit {0}

-- One thing happens: a replica makes a step of the machine, and what it tells goes into the bag; or it crashes, and goes on with what the
-- crash leaves.
abbrev pub Happens : World → Happening → World → Type 0
Happens w (step replica event answer) after =
    (c : IsChanged replica w.machines after.machines) × ComesFrom w.bag event × Step c.old event answer c.next
    × (after.bag ≡ told_by answer ++ w.bag)
Happens w (crash replica) after =
    (c : IsChanged replica w.machines after.machines) × CrashLeaves c.old c.next × (after.bag ≡ w.bag)

-- these happen one after another, of whichever replicas and in whatever order
abbrev pub History : World → List Happening → World → Type 0
History w [] after = after ≡ w
History w (h ∷ hs) after = (mid : World) × Happens w h mid × History mid hs after
