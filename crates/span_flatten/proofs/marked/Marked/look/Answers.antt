use Rattle.std.proofs.Common.{ap, ◌∙◌}
use Rattle.op_model.specs.Spans.{is_same_marks}
use Rattle.span_flatten.specs.Passing.{marks_by}
use Rattle.span_flatten.proofs.KeptLemmas.{up_flagged}
use Rattle.span_flatten.proofs.marked.Marked.look.Goals as goal

pub returns-clause-looked : goal.returns-clause-looked
returns-clause-looked c = λ decided.
    let was = c.in_ok-before.ensures (up_flagged c.args.self.now.past.in_force.items) decided.past in
    let is = c.in_ok-marks.ensures (up_flagged c.args.self.now.present.in_force.items) decided.present in
    record {
      marks = is;
      same = c.are_same-self.ensures ∙ ap (λ m. is_same_marks m c.in_ok-marks.marks) was
          ∙ ap (λ m. is_same_marks (marks_by c.args.self.now.past c.args.past.now) m) is;
    }
