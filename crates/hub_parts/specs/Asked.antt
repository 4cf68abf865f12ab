-- What an edit at places that last asks for, by what a replica holds.
use Rattle.std.specs.Prelude.{Bool, ◌&&◌, if◌then◌else◌, is_none}
use Rattle.op_model.specs.Actions.{Asked}
use Rattle.op_model.specs.Held.{ReplicaHeld}
use Rattle.op_model.specs.Machine.{known_ticket}
use Rattle.placed_edits.specs.Placed.{are_placed, asked_at, Placed}

-- the places of an edit are looked up if there are some, and the edit wasn't made before, under its token
abbrev pub looks_up : ReplicaHeld → Placed → Bool
looks_up h p = are_placed p.spots && is_none (known_ticket h p.asked)

-- the action that is asked for: by the numbers that its places have now if they are looked up, else as it stands
abbrev pub asked_now : ReplicaHeld → Placed → Asked
asked_now h p = if looks_up h p then asked_at h.list p else p.asked
