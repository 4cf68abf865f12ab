use Rattle.std.proofs.Common.{◌≡◌, ◌==◌, ◌||◌, ℕ, Bool, true, false, [], length, take, get_or, refl, sym, ap, ◌∙◌}
use Rattle.std.specs.Prelude.{nat_le, not, ◌&&◌}
use Rattle.std.proofs.lemmas.Bool.{le-leb, lt-leb}
use Rattle.std.proofs.lemmas.List.{take_all}
use Rattle.span_flatten.specs.declared.spot.Spot.{Spot}
use Rattle.span_flatten.specs.Spots.{is_across, is_over}
use Rattle.span_flatten.specs.Sweeping.{passes}
use Rattle.span_flatten.proofs.AcrossLemmas.{at_more, get_any, none_past}
use Rattle.span_flatten.proofs.ActiveLemmas.{active_first, active_same, and_false, or_false}
use Rattle.span_flatten.proofs.active.Active.at.Goals as goal
use Rattle.span_flatten.proofs.active.Active.at.Goals.{then-spot-chunk, else-spot-chunk+then-spot-chunk-2+in_ok-begin, else-spot-chunk+else-spot-chunk-2}

pub loop-i-init : goal.loop-i-init
loop-i-init c = record {
  active = active_same c.in_ok-active.active (length c.args.markings.now) (λ i. false) (λ i. false) (passes (is_across c.args.chunk) [])
      (passes (is_over c.args.chunk) []) (λ i. refl) (λ i. refl) c.in_ok-active.ensures.active;
  deciding = c.in_ok-active.ensures.deciding c.args.markings.now;
}

pub loop-i-preserved : goal.loop-i-preserved
loop-i-preserved c =
    let n = length c.args.markings.now in
    let ss = c.args.spots.now in
    let k = c.loop-i.i in
    let chunk = c.args.chunk in
    let s : Spot = get_or ss k (record { from = 0; to = 0 }) in
    let is_it : s ≡ get_or ss k s = get_any ss k (record { from = 0; to = 0 }) s c.loop-i-test.true in
    let begun : ℕ → Bool = passes (is_across chunk) (take k ss) in
    let ended : ℕ → Bool = passes (is_over chunk) (take k ss) in
    elim c.if-spot-chunk.branch [
      | then-spot-chunk w ↦
          let over : is_over chunk s ≡ true = le-leb s.to chunk w.if-spot-chunk.true in
          let across : is_across chunk s ≡ false = ap (λ b. nat_le s.from chunk && not b) over ∙ and_false (nat_le s.from chunk) in
          record {
            active = rw w.active-is (at_more w.skip.new.self n chunk k ss s false true c.loop-i-test.true is_it across over
                (active_same w.skip.new.self n begun (λ j. ended j || k == j) (λ j. begun j || false) (λ j. ended j || k == j)
                (λ j. sym (or_false (begun j))) (λ j. refl)
                (w.skip.ensures.active n begun ended (none_past (is_across chunk) ss k) c.loop-i.invariant.active)));
            deciding = rw w.active-is (w.skip.ensures.deciding c.args.markings.now c.loop-i.invariant.deciding);
          }
      | else-spot-chunk+then-spot-chunk-2+in_ok-begin w ↦
          let over : is_over chunk s ≡ false = lt-leb s.to chunk w.if-spot-chunk.false in
          let across : is_across chunk s ≡ true = ap (λ b. nat_le s.from chunk && not b) over
          ∙ ap (λ b. b && true) (le-leb s.from chunk w.if-spot-chunk-2.true) in
          record {
            active = rw w.active-is (at_more w.begin.new.self n chunk k ss s true false c.loop-i-test.true is_it across over
                (active_same w.begin.new.self n (λ j. begun j || k == j) ended (λ j. begun j || k == j) (λ j. ended j || false)
                (λ j. refl) (λ j. sym (or_false (ended j)))
                (w.in_ok-begin.ensures.active n begun ended c.loop-i.invariant.active)));
            deciding = rw w.active-is (w.in_ok-begin.ensures.deciding c.loop-i.invariant.deciding);
          }
      | else-spot-chunk+else-spot-chunk-2 w ↦
          let over : is_over chunk s ≡ false = lt-leb s.to chunk w.if-spot-chunk.false in
          let across : is_across chunk s ≡ false = ap (λ b. b && not (is_over chunk s)) (lt-leb s.from chunk w.if-spot-chunk-2.false) in
          record {
            active = rw w.active-is (at_more c.loop-i.active n chunk k ss s false false c.loop-i-test.true is_it across over
                (active_first c.loop-i.active n begun ended c.loop-i.invariant.active));
            deciding = rw w.active-is c.loop-i.invariant.deciding;
          }
    ]

pub returns-clause-active : goal.returns-clause-active
returns-clause-active c =
    let all : take c.loop-i.i c.args.spots.now ≡ c.args.spots.now = take_all c.loop-i.i c.args.spots.now c.loop-i-test.false in
    rw all at c.loop-i.invariant.active
