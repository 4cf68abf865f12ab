use Rattle.std.proofs.Common.{◌≡◌, ◌+◌, true, false, [], ◌∷◌, ◌++◌, length, map, ap, sym, ◌∙◌, arith}
use Rattle.std.specs.Prelude.{Err}
use Rattle.std.proofs.lemmas.Result.{err_from_is_err_and, on_ok_weaker}
use Rattle.op_model.specs.declared.mark.Marks.{Marks}
use Rattle.span_flatten.specs.declared.error.SpansError.TheVariants.{Listing}
use Rattle.op_model.specs.declared.span.Span.{Span}
use Rattle.span_flatten.specs.Formatting.{marks_in}
use Rattle.span_flatten.specs.Listing.{listed}
use Rattle.span_flatten.specs.Picking.{picked}
use Rattle.span_flatten.specs.Sweeping.{flagged, forward_span, is_last_same, kept, IsLast, IsReady}
use Rattle.span_flatten.proofs.BackLemmas.{back_begun, back_joined, comments_begun, comments_extended, last_begun, last_equal, last_extended}
use Rattle.span_flatten.proofs.KeptLemmas.{up_flagged}
use Rattle.span_flatten.proofs.ListedLemmas.{listed_begun, listed_extended}
use Rattle.span_flatten.proofs.sweep.Sweep.show_changed.Goals as goal

pub returns-then-is_last_same-clause-shown : goal.returns-then-is_last_same-clause-shown
returns-then-is_last_same-clause-shown c =
    let marks = marks_in (picked c.args.markings.now (kept c.args.self.now.active)) in
    let before = map forward_span c.args.self.now.runs.items in
    let there : IsReady c.args.self.now c.args.markings.now → is_last_same marks before ≡ true =
    λ ready. sym (sym c.if-is_last_same.true ∙ (c.is_last_same.ensures ready.deciding (rw c.deref.ensures.value ready.noted)
    ∙ ap (λ rs. is_last_same marks (map forward_span rs)) c.deref.ensures.value)) in
    on_ok_weaker c.join.result (λ is. λ ready. is ∙ sym (back_joined c.args.value marks before (there ready))) c.join.ensures.joined

pub returns-then-is_last_same-clause-ready : goal.returns-then-is_last_same-clause-ready
returns-then-is_last_same-clause-ready c =
    let marks = marks_in (picked c.args.markings.now (kept c.args.self.now.active)) in
    let before = map forward_span c.args.self.now.runs.items in
    let there : IsReady c.args.self.now c.args.markings.now → is_last_same marks before ≡ true =
    λ ready. sym (sym c.if-is_last_same.true ∙ (c.is_last_same.ensures ready.deciding (rw c.deref.ensures.value ready.noted)
    ∙ ap (λ rs. is_last_same marks (map forward_span rs)) c.deref.ensures.value)) in
    on_ok_weaker c.join.result (λ is. λ ready. record {
      deciding = ready.deciding;
      noted = rw is (rw (comments_extended c.args.value before) ready.noted);
      fresh = λ e. rw is (last_extended c.args.value marks before (last_equal marks before (there ready)));
    }) c.join.ensures.joined

pub returns-then-is_last_same-clause-few : goal.returns-then-is_last_same-clause-few
returns-then-is_last_same-clause-few c =
    let before = map forward_span c.args.self.now.runs.items in
    on_ok_weaker c.join.result (λ is. ap (λ ss. listed ss + c.args.self.now.left) is
    ∙ ap (λ n. n + c.args.self.now.left) (listed_extended c.args.value before)) c.join.ensures.joined

pub returns-clause-shown : goal.returns-clause-shown
returns-clause-shown c = λ ready.
    let marks = marks_in (picked c.args.markings.now (kept c.args.self.now.active)) in
    let before = map forward_span c.args.self.now.runs.items in
    let there : IsReady c.args.self.now c.args.markings.now → is_last_same marks before ≡ false =
    λ ready. sym (sym c.if-is_last_same.false ∙ (c.is_last_same.ensures ready.deciding (rw c.deref.ensures.value ready.noted)
    ∙ ap (λ rs. is_last_same marks (map forward_span rs)) c.deref.ensures.value)) in
    let are = c.in_ok-marks.ensures (up_flagged c.args.self.now.active.in_force.items) ready.deciding in
    c.in_ok-begin_run.ensures.begun ∙ (ap (λ m. before ++ record { text = c.args.value ∷ []; marks = m } ∷ []) are
    ∙ sym (back_begun c.args.value marks before (there ready)))

pub returns-clause-ready : goal.returns-clause-ready
returns-clause-ready c = λ ready.
    let before = map forward_span c.args.self.now.runs.items in
    let are = c.in_ok-marks.ensures (up_flagged c.args.self.now.active.in_force.items) ready.deciding in
    let noted = c.note.ensures.noted c.args.markings.now ready.deciding in
    let same : kept c.note.new.self ≡ kept c.args.self.now.active = ap (λ flags. flagged flags.items) c.note.ensures.flags.1 in
    let span : Span = record { text = c.args.value ∷ []; marks = c.in_ok-marks.marks } in
    let last : IsLast c.in_ok-marks.marks (before ++ span ∷ []) = last_begun span before in
    record {
      deciding = rw same noted.0;
      noted = rw c.in_ok-begin_run.ensures.begun (rw (comments_begun span before) (rw are noted.1));
      fresh = λ e. rw (same, c.in_ok-begin_run.ensures.begun, ← are) last;
    }

pub returns-then-is_last_same-clause-listing : goal.returns-then-is_last_same-clause-listing
returns-then-is_last_same-clause-listing c = λ is. absurd (c.join.ensures.memory is)

pub returns-in_err-begin_run-clause-listing : goal.returns-in_err-begin_run-clause-listing
returns-in_err-begin_run-clause-listing c = λ is ready.
    let marks = marks_in (picked c.args.markings.now (kept c.args.self.now.active)) in
    let before = map forward_span c.args.self.now.runs.items in
    let there : is_last_same marks before ≡ false =
    sym (sym c.if-is_last_same.false ∙ (c.is_last_same.ensures ready.deciding (rw c.deref.ensures.value ready.noted)
    ∙ ap (λ rs. is_last_same marks (map forward_span rs)) c.deref.ensures.value)) in
    let are = c.in_ok-marks.ensures (up_flagged c.args.self.now.active.in_force.items) ready.deciding in
    let p = err_from_is_err_and c.from_residual-in_err-begin_run.result c.from_residual-in_err-begin_run.ensures.1 in
    let it : c.in_err-begin_run.field-0.0 ≡ Listing = cc (p.1, p.2, is) in
    let over = c.in_err-begin_run.ensures.listing (ap Err it) in
    let begun = ap listed (back_begun c.args.value marks before there) in
    let more = listed_begun before (record { text = c.args.value ∷ []; marks = marks }) in
    let same = ap (λ (m : Marks). length m.comments) are in
    omega (arith, over, begun, more, same)
