use Rattle.std.proofs.Common.{◌≡◌, drop}
use Rattle.placed_edits.specs.Placed.{moved_through}
use Rattle.placed_edits.proofs.moving.moved_through.Given as goal

-- what is left makes of the number so far what all make of the first one
abbrev pub invariant-loop-change : goal.invariant-loop-change
invariant-loop-change l =
    moved_through l.side l.changes l.number ≡ moved_through l.side (drop l.change-index l.changes) l.after
