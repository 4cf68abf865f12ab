use Rattle.std.proofs.Common.{◌≡◌, ℕ, Bool, List, true, false, take}
use Rattle.span_flatten.specs.Deciding.{Decides, IsNoted}
use Rattle.span_flatten.specs.Sweeping.{kept, with_edges, IsActive}
use Rattle.span_flatten.proofs.active.Active.take.Given as goal

-- the edges passed so far are taken
abbrev pub invariant-loop-edge : goal.invariant-loop-edge
invariant-loop-edge l = record {
  active : (n : ℕ) (begun ended : ℕ → Bool) → IsActive l.fn.self n begun ended → IsActive l.self n
      (with_edges l.is_after false (take l.edge-index l.edges) begun) (with_edges l.is_after true (take l.edge-index l.edges) ended);
  deciding : Decides l.fn.self.deciding l.markings (kept l.fn.self) → Decides l.self.deciding l.markings (kept l.self);
  noted : (ids : List ℕ) → IsNoted l.fn.self.deciding.comments ids → IsNoted l.self.deciding.comments ids;
  none : l.edge-index ≡ 0 → l.self ≡ l.fn.self;
}
