use Rattle.std.proofs.Common.{◌≡◌, drop}
use Rattle.serde_json.specs.View.{items_view}
use Rattle.session_lines.specs.Edits.{listed_changes}
use Rattle.session_lines.proofs.EditLemmas.{behind}
use Rattle.session_lines.proofs.edits.each_listed.Given as goal

-- those that are read, and what is left, are all
abbrev pub invariant-loop-item : goal.invariant-loop-item
invariant-loop-item l =
    behind l.changes.items l.places.items (listed_changes (items_view (drop l.item-index l.items))) ≡ listed_changes (items_view l.items)
