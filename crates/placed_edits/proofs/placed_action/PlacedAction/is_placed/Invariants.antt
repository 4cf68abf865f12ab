use Rattle.std.proofs.Common.{◌≡◌, drop}
use Rattle.placed_edits.specs.Placed.{are_placed}
use Rattle.placed_edits.proofs.placed_action.PlacedAction.is_placed.Given as goal

-- none was found so far, so it stands on what is left
abbrev pub invariant-loop-spots : goal.invariant-loop-spots
invariant-loop-spots l = are_placed l.self.spots ≡ are_placed (drop l.spots-index l.spots-items)
