use Rattle.std.proofs.Common.{◌≡◌, drop}
use Rattle.serde_json.specs.View.{items_view}
use Rattle.session_lines.specs.Several.{as_lasting, each}
use Rattle.session_lines.proofs.SeveralLemmas.{with_front}
use Rattle.session_lines.proofs.several.each_anchor.Given as goal

-- those that are read, and what is left, are all
abbrev pub invariant-loop-item : goal.invariant-loop-item
invariant-loop-item l =
    with_front l.anchors.items (each as_lasting (items_view (drop l.item-index l.items))) ≡ each as_lasting (items_view l.items)
