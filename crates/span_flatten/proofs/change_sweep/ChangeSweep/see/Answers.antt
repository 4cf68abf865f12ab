use Rattle.std.proofs.Common.{◌≡◌, ◌+◌, arith, ap, sym, ◌∙◌}
use Rattle.span_flatten.specs.Listing.{listed_steps}
use Rattle.span_flatten.specs.declared.change_sweep.ChangeSweep.{ChangeSweep}
use Rattle.span_flatten.proofs.TellingLemmas.{left_any, left_more}
use Rattle.span_flatten.proofs.change_sweep.ChangeSweep.see.Goals as goal
use Rattle.span_flatten.proofs.change_sweep.ChangeSweep.see.Goals.{then-not-cell+in_ok-look, else-not-cell}

pub returns-in_ok-count_down-clause-few : goal.returns-in_ok-count_down-clause-few
returns-in_ok-count_down-clause-few c =
    let same : listed_steps c.if-not-cell.self.steps.items + c.if-not-cell.self.left ≡ listed_steps c.args.self.now.steps.items + c.args.self.now.left =
    elim c.if-not-cell.branch [
      | then-not-cell+in_ok-look w ↦ ap (λ (s : ChangeSweep). listed_steps s.steps.items + s.left) w.self-is
      | else-not-cell w ↦ ap (λ (s : ChangeSweep). listed_steps s.steps.items + s.left) w.self-is
    ] in
    left_more c.if-not-cell.self.steps.items c.tell.new.steps.items _ c.if-not-cell.self.left c.count_down.new.left c.in_ok-tell.ensures (omega arith)
    (ap (λ n. c.count_down.new.left + n) (sym (c.listed.ensures c.args.cell.now.value)) ∙ c.in_ok-count_down.ensures.counted) ∙ same

pub returns-else-len-count-clause-few : goal.returns-else-len-count-clause-few
returns-else-len-count-clause-few c =
    let same : listed_steps c.if-not-cell.self.steps.items + c.if-not-cell.self.left ≡ listed_steps c.args.self.now.steps.items + c.args.self.now.left =
    elim c.if-not-cell.branch [
      | then-not-cell+in_ok-look w ↦ ap (λ (s : ChangeSweep). listed_steps s.steps.items + s.left) w.self-is
      | else-not-cell w ↦ ap (λ (s : ChangeSweep). listed_steps s.steps.items + s.left) w.self-is
    ] in
    left_any c.if-not-cell.self.steps.items c.tell.new.steps.items _ c.if-not-cell.self.left c.in_ok-tell.ensures (omega arith) ∙ same
