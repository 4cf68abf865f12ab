use Rattle.std.proofs.Common.{arith, ◌≡◌, ◌∷◌, [], ◌++◌, cond, take, sym, ◌∙◌}
use Rattle.std.proofs.lemmas.Grind.{common_steps}
use Rattle.web_lines.proofs.HandingLemmas.{begins-feed, hands-front}
use Rattle.web_lines.proofs.held_lines.HeldLines.hand_on.Goals.{then-is_empty+then-self, else-is_empty}
use Rattle.web_lines.proofs.held_lines.HeldLines.hand_on.Goals as goal

pub returns-clause-bytes : goal.returns-clause-bytes
returns-clause-bytes c =
    let held = c.if-is_empty.self-inside in
    let same : c.args.self.now ≡ held.text ++ cond held.is_feed_due (10 ∷ []) [] =
    elim c.if-is_empty.branch [
      | then-is_empty+then-self w ↦
          rw (w.self-inside-is, w.from_static.ensures)
          (begins-feed _ _ _ c.self.view_is w.if-self.true (sym w.if-is_empty.true ∙ c.is_empty.ensures))
      | else-is_empty w ↦ rw w.self-inside-is (sym c.self.view_is)
    ] in
    let copied : c.copy_from_slice.new.self ≡ take c.min-count.result held.text = grind (arith, common_steps, c.copy_from_slice.ensures.after, c.as_slice.ensures) in
    rw c.advance.ensures (hands-front _ held.text c.args.piece.now c.copy_from_slice.new.self _ c.min-count.result same copied (omega arith))
