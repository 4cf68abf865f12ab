-- A small history of two replicas: what one settled and told comes to the other across a crash, and what it hadn't settled is lost.
use Rattle.std.specs.Prelude.{ℕ, List, [], ◌∷◌, Some, None, true, false}
use Rattle.op_model.specs.declared.op.Op.{Op}
use Rattle.op_model.specs.declared.op.Body.TheVariants as body
use Rattle.op_model.specs.Actions.{Asked}
use Rattle.op_model.specs.declared.edit.Change.TheVariants as change
use Rattle.op_model.specs.Machine.{State, edit, merge, begin, device_step, settle, tell, ticket}
use Rattle.op_model.specs.Machine.{applied, begun, goes_on, goes_through, settled_to, operations}
use Rattle.op_model.specs.Machine.{opened, holding}
use Rattle.op_model.specs.Held.{opened_with, with_merge}
use Rattle.world_law.specs.World.{operations_told, World}
use Rattle.world_law.specs.Histories.{Happening, step, crash}

-- the edit that inserts one character into document 1
abbrev pub insert_of : ℕ → ℕ → Asked
insert_of at value = record { doc = 1; rev = None; token = None; changes = change.Insert at (value ∷ []) ∷ [] }

-- that edit under a token
abbrev pub named : ℕ → Asked → Asked
named token e = record e { token = Some token }

-- a replica that is new
abbrev pub new_one : ℕ → State
new_one replica = opened replica [] 1

-- the replicas 1 and 2, both new
abbrev pub both_new : World
both_new = record { machines = new_one 1 ∷ new_one 2 ∷ []; bag = [] }

-- the first operation of replica 1: it inserts "a", for an edit with the token 7
abbrev pub first_op : Op
first_op = record { id = record { counter = 1; replica = 1 }; doc = 1; token = Some 7; deps = []; body = body.Insert None 97 }

-- its second one, "b" or "c" behind the "a"
abbrev pub second_op : ℕ → Op
second_op value = record {
  id = record { counter = 2; replica = 1 };
  doc = 1;
  token = None;
  deps = (1, 1) ∷ [];
  body = body.Insert (Some (record { counter = 1; replica = 1 })) value;
}

-- the edit that made it
abbrev pub first_edit : Asked
first_edit = named 7 (insert_of 0 97)

-- Replica 1 inserts "a", commits and tells it. It inserts "b" and crashes; the edit of the "a" is sent again, and is answered as it was.
-- Replica 2 applies what was told.
abbrev pub one_tells_and_crashes : List Happening
one_tells_and_crashes =
    step 1 (edit 1 first_edit) (ticket (record { end = 1; rev = 1; known = false }))
    ∷ step 1 begin (begun 1)
    ∷ step 1 device_step goes_on
    ∷ step 1 device_step goes_through
    ∷ step 1 settle (settled_to 1)
    ∷ step 1 (tell []) (operations (first_op ∷ []))
    ∷ step 1 (edit 1 (insert_of 1 98)) (ticket (record { end = 2; rev = 2; known = false }))
    ∷ crash 1
    ∷ step 1 (edit 1 first_edit) (ticket (record { end = 1; rev = 1; known = true }))
    ∷ step 2 (merge 1 first_op) applied
    ∷ []

-- both have the "a"
abbrev pub both_have_it : World
both_have_it = record {
  machines = opened 1 (first_op ∷ []) 2 ∷ holding (new_one 2) (with_merge (opened_with 2 []) 1 first_op) ∷ [];
  bag = operations_told (first_op ∷ []) ∷ [];
}
