use Rattle.std.proofs.Common.{◌≡◌, drop}
use Rattle.serde_json.specs.View.{items_view}
use Rattle.session_lines.specs.Fields.{as_whole}
use Rattle.session_lines.specs.Several.{each}
use Rattle.session_lines.proofs.SeveralLemmas.{with_front}
use Rattle.session_lines.proofs.several.each_number.Given as goal

-- those that are read, and what is left, are all
abbrev pub invariant-loop-item : goal.invariant-loop-item
invariant-loop-item l =
    with_front l.numbers.items (each (as_whole l.low) (items_view (drop l.item-index l.items))) ≡ each (as_whole l.low) (items_view l.items)
