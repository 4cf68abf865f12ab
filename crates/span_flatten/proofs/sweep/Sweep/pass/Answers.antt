use Rattle.std.proofs.Common.{◌≡◌, ℕ, ◌+◌, Bool, true, false, List, map, length, Some, refl, ap, ◌∙◌, arith}
use Rattle.std.specs.Prelude.{Err, filter, slice_get}
use Rattle.std.proofs.lemmas.Result.{err_from_is_err_and}
use Rattle.op_ids.specs.Id.{is_same}
use Rattle.op_model.specs.declared.marking.Marking.{Marking}
use Rattle.char_sequence.specs.declared.cell.Cell.{Cell}
use Rattle.mark_anchors.specs.declared.edge.Edge.{Edge}
use Rattle.mark_anchors.specs.Edges.{AreEdges}
use Rattle.mark_anchors.specs.Keeping.{in_order}
use Rattle.span_flatten.specs.declared.active.Active.{Active}
use Rattle.span_flatten.specs.declared.sweep.Sweep.{Sweep}
use Rattle.span_flatten.specs.Deciding.{Decides, IsNoted}
use Rattle.span_flatten.specs.declared.error.SpansError.TheVariants.{Listing}
use Rattle.span_flatten.specs.Covering.{covering}
use Rattle.span_flatten.specs.Formatting.{marks_in}
use Rattle.span_flatten.specs.Listing.{listed}
use Rattle.span_flatten.specs.Picking.{picked}
use Rattle.span_flatten.specs.Sweeping.{begun_at, ended_at, forward_span, kept, with_back, with_edges, IsActive, IsReady, IsSwept}
use Rattle.span_flatten.proofs.ActiveLemmas.{active_alike}
use Rattle.span_flatten.proofs.ListedLemmas.{listed_first}
use Rattle.span_flatten.proofs.PassLemmas.{passed, picked_covering, has_reached, runs_more}
use Rattle.span_flatten.proofs.sweep.Sweep.pass.Goals as goal

-- before a character is seen, the mark operations that have begun and not ended are ready, and they cover it
record Covers (s : Sweep) (cells : List Cell) (found ms : List Marking) (k : ℕ) : Type 0 where
  active : IsActive s.active (length ms) (begun_at cells ms (k + 1) k) (ended_at cells ms (k + 1) k)
  ready : IsReady s found
  covers : picked found (kept s.active) ≡ covering cells ms k

covers_next : (old : Sweep) (taken : Active) (changed : Bool) (cells : List Cell) (found ms : List Marking) (es : List Edge) (k : ℕ) (cell : Cell)
    → slice_get cells k ≡ Some cell → AreEdges ms es → found ≡ ms → IsSwept old cells ms k
    → IsActive taken (length ms) (with_edges false false (filter (λ e. is_same e.id cell.id) es) (begun_at cells ms k k))
    (with_edges false true (filter (λ e. is_same e.id cell.id) es) (ended_at cells ms k k))
    → (Decides old.active.deciding found (kept old.active) → Decides taken.deciding found (kept taken))
    → ((ids : List ℕ) → IsNoted old.active.deciding.comments ids → IsNoted taken.deciding.comments ids)
    → (changed ≡ false → (old.is_changed ≡ false) × (taken ≡ old.active))
    → Covers (record { active = taken; runs = old.runs; is_changed = changed; left = old.left }) cells found ms k
covers_next old taken changed cells found ms es k cell there edges same swept active deciding noted none =
    let reached_it = has_reached taken cells ms es k cell there edges active in
    record {
      active = reached_it;
      ready = record {
        deciding = deciding (rw same swept.ready.deciding);
        noted = noted _ swept.ready.noted;
        fresh = λ e. rw (same, (none e).1) (swept.ready.fresh (none e).0);
      };
      covers = ap (λ ns. picked ns (kept taken)) same ∙ picked_covering taken cells ms k cell there reached_it;
    }

pub returns-clause-passed : goal.returns-clause-passed
returns-clause-passed c = λ cells k there swept.
    let ms = in_order c.args.anchors.now in
    let es = c.args.anchors.now.edges in
    let next = covers_next c.args.self.now c.take.new.self c.is_changed-self.result cells c.in_order-markings.result.now ms es k c.args.cell.now there
    c.are_edges.ensures c.in_order-markings.ensures swept
    (rw c.edges_at-edges.ensures at (c.in_ok-take.ensures.active (length ms) (begun_at cells ms k k) (ended_at cells ms k k) swept.active))
    c.in_ok-take.ensures.deciding c.in_ok-take.ensures.noted
    (λ e. ((c.is_changed-self.ensures e).0, c.in_ok-take.ensures.none (c.is_changed-self.ensures e).1)) in
    let still = active_alike c.take.new.self c.see.new.self.active (length ms) (begun_at cells ms (k + 1) k) (ended_at cells ms (k + 1) k) c.see.ensures.active
    next.active in
    let seen = c.in_ok-see.ensures.ready next.ready in
    record {
      active = passed c.take-2.new.self cells ms es k c.args.cell.now there c.are_edges.ensures
          (rw c.edges_at-edges.ensures at (c.in_ok-take-2.ensures.active (length ms) (begun_at cells ms (k + 1) k) (ended_at cells ms (k + 1) k) still));
      ready = record {
        deciding = rw c.in_order-markings.ensures at (c.in_ok-take-2.ensures.deciding seen.deciding);
        noted = c.in_ok-take-2.ensures.noted _ seen.noted;
        fresh = λ e. rw (c.in_ok-take-2.ensures.none (c.is_changed-self-2.ensures e).1)
            (rw c.in_order-markings.ensures at (seen.fresh (c.is_changed-self-2.ensures e).0));
      };
      few = c.in_ok-see.ensures.few ∙ swept.few;
      runs = runs_more cells ms k c.args.cell.now _ (map forward_span c.args.self.now.runs.items) (map forward_span c.see.new.self.runs.items) there next.covers
          swept.runs (c.in_ok-see.ensures.seen next.ready);
    }

pub returns-in_err-see-clause-listing : goal.returns-in_err-see-clause-listing
returns-in_err-see-clause-listing c = λ is cells k there swept.
    let ms = in_order c.args.anchors.now in
    let next = covers_next c.args.self.now c.take.new.self c.is_changed-self.result cells c.in_order-markings.result.now ms c.args.anchors.now.edges k
    c.args.cell.now there c.are_edges.ensures c.in_order-markings.ensures swept
    (rw c.edges_at-edges.ensures at (c.in_ok-take.ensures.active (length ms) (begun_at cells ms k k) (ended_at cells ms k k) swept.active))
    c.in_ok-take.ensures.deciding c.in_ok-take.ensures.noted
    (λ e. ((c.is_changed-self.ensures e).0, c.in_ok-take.ensures.none (c.is_changed-self.ensures e).1)) in
    let p = err_from_is_err_and c.from_residual-in_err-see.result c.from_residual-in_err-see.ensures.1 in
    let it : c.in_err-see.field-0.0 ≡ Listing = cc (p.1, p.2, is) in
    let over = c.in_err-see.ensures.listing (ap Err it) in
    let more = over.1 next.ready in
    let before = map forward_span c.args.self.now.runs.items in
    let now = with_back c.args.cell.now.value (marks_in (picked c.in_order-markings.result.now (kept c.take.new.self))) before in
    let runs = runs_more cells ms k c.args.cell.now _ before now there next.covers swept.runs (rw over.0 refl) in
    let same = ap listed runs in
    let first = listed_first (λ i. marks_in (covering cells ms i)) cells (k + 1) in
    let few = swept.few in
    omega (arith, more, same, first, few)
