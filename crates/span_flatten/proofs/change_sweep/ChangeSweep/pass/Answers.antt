use Rattle.std.proofs.Common.{◌≡◌, ◌+◌, ◌-◌, ◌++◌, length, drop, ap, ◌∙◌}
use Rattle.std.specs.Prelude.{not}
use Rattle.std.proofs.lemmas.List.{take-append-drop}
use Rattle.op_model.specs.Spans.{is_same_marks}
use Rattle.model_laws.specs.Since.{with_any_last}
use Rattle.mark_anchors.specs.Edges.{AreEdges}
use Rattle.mark_anchors.specs.Keeping.{in_order}
use Rattle.char_sequence.specs.Weave.{AreOnce}
use Rattle.char_sequence.proofs.OnceLemmas.{once_content}
use Rattle.span_flatten.specs.Covering.{covering}
use Rattle.span_flatten.specs.Formatting.{marks_in}
use Rattle.span_flatten.specs.Passing.{marks_by, IsDecided}
use Rattle.span_flatten.specs.Picking.{picked}
use Rattle.span_flatten.specs.Since.{older, was_seen}
use Rattle.span_flatten.specs.Sweeping.{begun_at, ended_at, kept, IsActive}
use Rattle.span_flatten.specs.Telling.{turned}
use Rattle.span_flatten.proofs.ChangeLemmas.{told_next}
use Rattle.span_flatten.proofs.PassLemmas.{has_reached, passed, picked_covering}
use Rattle.span_flatten.proofs.PastLemmas.{past_passed, past_reached}
use Rattle.span_flatten.proofs.change_sweep.ChangeSweep.pass.Goals as goal

pub returns : goal.returns
returns c = λ cells k there was.
    let ms = in_order c.args.anchors.now in
    let es = c.args.anchors.now.edges in
    let since = c.args.since.now in
    let cell = c.args.cell.now in
    let olds = older since ms in
    let news = drop (length ms - since.marked) ms in
    let edges : AreEdges (olds ++ news) es = rw (take-append-drop (length ms - since.marked) ms) c.are_edges.ensures in
    let are_all : c.in_order-markings.result.now ≡ ms = c.in_order-markings.ensures in
    let are_old : c.older-past.result.now ≡ olds = c.older-past.ensures ∙ ap (older since) are_all in
    let past : AreOnce cells → IsActive c.take.new.self.past (length olds) (begun_at cells olds (k + 1) k) (ended_at cells olds (k + 1) k) =
    λ once. past_reached c.take.new.self.past cells olds news es k cell there edges
    (rw c.edges_at-edges.ensures at (c.in_ok-take.ensures.past (length olds) (begun_at cells olds k k) (ended_at cells olds k k) (was.marked once).past)) in
    let present : AreOnce cells → IsActive c.take.new.self.present (length ms) (begun_at cells ms (k + 1) k) (ended_at cells ms (k + 1) k) =
    λ once. has_reached c.take.new.self.present cells ms es k cell there c.are_edges.ensures
    (rw c.edges_at-edges.ensures at (c.in_ok-take.ensures.present (length ms) (begun_at cells ms k k) (ended_at cells ms k k) (was.marked once).present)) in
    let decided : AreOnce cells → IsDecided c.take.new.self c.older-past.result.now c.in_order-markings.result.now =
    λ once. c.in_ok-take.ensures.decided (rw (are_old, are_all) (was.marked once).decided) in
    record {
      marked = λ once.
          let past_still : IsActive c.see.new.self.marked.past (length olds) (begun_at cells olds (k + 1) k) (ended_at cells olds (k + 1) k) =
          rw c.see.ensures.past (past once) in
          let present_still : IsActive c.see.new.self.marked.present (length ms) (begun_at cells ms (k + 1) k) (ended_at cells ms (k + 1) k) =
          rw c.see.ensures.present (present once) in
          record {
            past = past_passed c.take-2.new.self.past cells olds news es k cell there edges
                (rw c.edges_at-edges.ensures at (c.in_ok-take-2.ensures.past (length olds) (begun_at cells olds (k + 1) k) (ended_at cells olds (k + 1) k) past_still));
            present = passed c.take-2.new.self.present cells ms es k cell there c.are_edges.ensures
                (rw c.edges_at-edges.ensures at (c.in_ok-take-2.ensures.present (length ms) (begun_at cells ms (k + 1) k) (ended_at cells ms (k + 1) k) present_still));
            decided = rw (are_old, are_all) at (c.in_ok-take-2.ensures.decided (c.in_ok-see.ensures.decided (decided once)));
          };
      told = λ before more doc are all noted.
          let once = once_content cells (before ++ more) doc are in
          let old : marks_by c.take.new.self.past c.older-past.result.now ≡ marks_in (covering cells olds k) =
          ap (λ ns. marks_in (picked ns (kept c.take.new.self.past))) are_old ∙ ap marks_in (picked_covering c.take.new.self.past cells olds k cell there (past once)) in
          let new : marks_by c.take.new.self.present c.in_order-markings.result.now ≡ marks_in (covering cells ms k) =
          ap (λ ns. marks_in (picked ns (kept c.take.new.self.present))) are_all ∙ ap marks_in (picked_covering c.take.new.self.present cells ms k cell there (present once)) in
          c.in_ok-see.ensures.told (decided once)
          ∙ ap (λ o. with_any_last c.args.self.now.steps.items (turned (was_seen since cell) (not cell.is_removed)
          (is_same_marks o (marks_by c.take.new.self.present c.in_order-markings.result.now)) (marks_by c.take.new.self.present c.in_order-markings.result.now) cell.value)) old
          ∙ ap (λ n. with_any_last c.args.self.now.steps.items (turned (was_seen since cell) (not cell.is_removed)
          (is_same_marks (marks_in (covering cells olds k)) n) n cell.value)) new
          ∙ ap (λ ss. with_any_last ss (turned (was_seen since cell) (not cell.is_removed)
          (is_same_marks (marks_in (covering cells olds k)) (marks_in (covering cells ms k))) (marks_in (covering cells ms k)) cell.value)) (was.told before more doc are all noted)
          ∙ told_next before more doc since noted cells ms k cell there are all;
      few = c.in_ok-see.ensures.few ∙ was.few;
    }
