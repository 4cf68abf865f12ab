use Rattle.std.proofs.Common.{◌≡◌, drop, take}
use Rattle.run_list.specs.Column.{changes_in}
use Rattle.run_list.proofs.Appending.{Going}
use Rattle.run_list.proofs.token_column.TokenColumn.copy_each.Given as goal

-- those up to the i-th are put, and the changes before it are known
abbrev pub invariant-loop-i : goal.invariant-loop-i
invariant-loop-i l =
    Going l.fn.self (drop l.from (take l.to l.other)) (drop l.i (take l.to l.other)) l.self
    × (l.changes ≡ changes_in (take l.i l.other))
