-- The mark operations that are in force at the beginning of a chunk, one after another.
use Rattle.std.proofs.Common.{◌≡◌, ℕ, zero, suc, ◌+◌, ◌<◌, ◌==◌, Bool, true, false, not, ◌&&◌, ◌||◌, nat_lt, List, [], ◌∷◌, length, take, get_or}
use Rattle.std.proofs.Common.{refl, sym, ◌∙◌, ap, arith}
use Rattle.std.specs.Prelude.{nat_le}
use Rattle.op_model.specs.declared.marking.Marking.{Marking}
use Rattle.char_sequence.specs.Chunks.{ChunkCells, cells_of}
use Rattle.span_flatten.specs.declared.active.Active.{Active}
use Rattle.span_flatten.specs.declared.spot.Spot.{Spot}
use Rattle.span_flatten.specs.Reading.{offset}
use Rattle.span_flatten.specs.Spots.{is_across, is_over, AreSpots, IsBorder}
use Rattle.span_flatten.specs.Sweeping.{begun_at, ended_at, passes, IsActive}
use Rattle.span_flatten.proofs.ActiveLemmas.{active_same}
use Rattle.span_flatten.proofs.IndexLemmas.{passes_taken}
use Rattle.span_flatten.proofs.SpotLemmas.{spots_begun, spots_ended}

-- an element that is there doesn't depend on what stands for one that isn't
pub get_any : (ss : List Spot) (k : ℕ) (d e : Spot) → k < length ss → get_or ss k d ≡ get_or ss k e
get_any [] k d e within = absurd (omega arith)
get_any (s ∷ ss) zero d e within = refl
get_any (s ∷ ss) (suc k) d e within = get_any ss k d e (omega arith)

-- none of the first so many is the next one
pub none_past : (p : Spot → Bool) (ss : List Spot) (k : ℕ) → passes p (take k ss) k ≡ false
none_past p [] zero = refl
none_past p [] (suc k) = refl
none_past p (s ∷ ss) zero = refl
none_past p (s ∷ ss) (suc k) = none_past p ss k

-- one more
pub at_more : (a : Active) (n chunk k : ℕ) (ss : List Spot) (s : Spot) (begins ends : Bool) → k < length ss → s ≡ get_or ss k s
    → is_across chunk s ≡ begins → is_over chunk s ≡ ends
    → IsActive a n (λ j. passes (is_across chunk) (take k ss) j || (begins && k == j)) (λ j. passes (is_over chunk) (take k ss) j || (ends && k == j))
    → IsActive a n (passes (is_across chunk) (take (k + 1) ss)) (passes (is_over chunk) (take (k + 1) ss))
at_more a n chunk k ss s begins ends within is_it across over are =
    active_same a n (λ j. passes (is_across chunk) (take k ss) j || (begins && k == j)) (λ j. passes (is_over chunk) (take k ss) j || (ends && k == j))
    (passes (is_across chunk) (take (k + 1) ss)) (passes (is_over chunk) (take (k + 1) ss))
    (λ j. sym (passes_taken (is_across chunk) ss k s j within is_it ∙ ap (λ b. passes (is_across chunk) (take k ss) j || (b && k == j)) across))
    (λ j. sym (passes_taken (is_over chunk) ss k s j within is_it ∙ ap (λ b. passes (is_over chunk) (take k ss) j || (b && k == j)) over))
    are

-- those across the beginning of a chunk are those that have begun there and not ended
across_or_over : (chunk : ℕ) (ss : List Spot) (j : ℕ)
    → (passes (is_across chunk) ss j && not (passes (is_over chunk) ss j)) ≡ (passes (λ s. nat_le s.from chunk) ss j && not (passes (is_over chunk) ss j))
across_or_over chunk [] j = refl
across_or_over chunk (s ∷ ss) zero = both (nat_le s.from chunk) (nat_le s.to chunk)
  where
    both : (f t : Bool) → ((f && not t) && not t) ≡ (f && not t)
    both true true = refl
    both true false = refl
    both false t = refl
across_or_over chunk (s ∷ ss) (suc j) = across_or_over chunk ss j

pub at_border : (held : ChunkCells) (chunk : ℕ) (ss : List Spot) (ms : List Marking) (a : Active) → AreSpots held ss ms → IsBorder held chunk
    → IsActive a (length ms) (passes (is_across chunk) ss) (passes (is_over chunk) ss)
    → IsActive a (length ms) (begun_at (cells_of held) ms (offset held chunk) (offset held chunk)) (ended_at (cells_of held) ms (offset held chunk) (offset held chunk))
at_border held chunk ss ms a spots border are =
    active_same a (length ms) (passes (λ s. nat_le s.from chunk) ss) (passes (is_over chunk) ss)
    (begun_at (cells_of held) ms (offset held chunk) (offset held chunk)) (ended_at (cells_of held) ms (offset held chunk) (offset held chunk))
    (spots_begun held chunk ss ms spots border) (spots_ended held chunk ss ms spots border)
    (record {
      long = are.long;
      wide = are.wide;
      flags = are.flags;
      members = λ j. are.members j ∙ ap (λ b. nat_lt j (length ms) && b) (across_or_over chunk ss j);
    })
