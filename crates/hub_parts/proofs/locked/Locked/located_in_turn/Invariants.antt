use Rattle.std.proofs.Common.{◌≡◌, ◌+◌, ◌++◌, [], ◌∷◌, drop}
use Rattle.placed_edits.specs.Placed.{located_in_turn}
use Rattle.op_model.specs.Lasting.{at_of}
use Rattle.hub_parts.proofs.locked.Locked.located_in_turn.Given as goal

-- those that are done, and what is left after them, are all
abbrev pub invariant-loop-i : goal.invariant-loop-i
invariant-loop-i l =
    located_in_turn (at_of l.self.replica.list l.first.doc) [] (l.first.change ∷ l.others) l.placed.spots
    ≡ l.done.items
    ++ located_in_turn (at_of l.self.replica.list l.first.doc) l.done.items (drop l.i l.others) (drop (l.i + 1) l.placed.spots)
