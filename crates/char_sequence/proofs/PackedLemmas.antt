-- Cells in twelve bytes, and the replicas that are held apart.
use Rattle.std.proofs.Common.{◌≡◌, ◌≢◌, false, ℕ, ◌+◌, ◌<◌, suc, zero, true, List, [], ◌∷◌, ◌++◌, length, length-append, take, drop, get_or, Some}
use Rattle.std.proofs.Common.{refl, sym, ◌∙◌, ap, arith}
use Rattle.std.specs.Prelude.{map, slice_get, slice_set, slice_index_or}
use Rattle.std.specs.List.{All}
use Rattle.std.specs.Prelude.{Result, Ok, Err, OnErr, option_map}
use Rattle.std.proofs.lemmas.List.Elements.{All-append, All-cons, All-drop, All-push, All-take}
use Rattle.std.proofs.lemmas.Bool.Decides.{nat_tests}
use Rattle.std.proofs.lemmas.Option.{slice_get-map, slice_get_read}
use Rattle.std.proofs.lemmas.Grind.{get_or_default_zero}
use Rattle.std.proofs.lemmas.List.{drop-map, map-append, map-set, take-map}
use Rattle.char_sequence.specs.declared.cell.Cell.{Cell}
use Rattle.char_sequence.specs.declared.packed_cell.PackedCell.{PackedCell}
use Rattle.op_ids.specs.Id.{Id, is_same}
use Rattle.char_sequence.specs.Finding.{has_id_at}
use Rattle.char_sequence.specs.Packed.{counter_of, unpacked, IsPacked, Grows}

-- behind some replicas nothing changes what stands before
get_front : (xs more : List ℕ) (i : ℕ) → i < length xs → get_or (xs ++ more) i 0 ≡ get_or xs i 0
get_front [] more i within = absurd (omega arith)
get_front (x ∷ xs) more zero within = refl
get_front (x ∷ xs) more (suc i) within = get_front xs more i (omega arith)

-- with more replicas a packed cell is the same cell
same_cell : (old new : List ℕ) (p : PackedCell) → Grows old new → IsPacked old p → unpacked new p ≡ unpacked old p
same_cell old new p grows is =
    ap (λ replica. record { id = record { counter = counter_of p; replica = replica }; value = p.value; is_removed = p.is_removed })
    (rw grows.1 (get_front old grows.0 p.maker is.known))

-- and stays packed
still_packed : (old new : List ℕ) (p : PackedCell) → Grows old new → IsPacked old p → IsPacked new p
still_packed old new p grows is =
    let long : length new ≡ length old + length grows.0 = ap length grows.1 ∙ length-append old grows.0 in
    let known = is.known in
    record { known = omega arith; counted = is.counted }

-- and so do all
pub still : (old new : List ℕ) (ps : List PackedCell) → Grows old new → All (IsPacked old) ps → All (IsPacked new) ps
still old new ps grows all = λ k d within. still_packed old new (slice_index_or ps k d) grows (all k d within)

-- all but the first one
behind_first : (makers : List ℕ) (p : PackedCell) (ps : List PackedCell) → All (IsPacked makers) (p ∷ ps) → All (IsPacked makers) ps
behind_first makers p ps all = λ k d within. all (suc k) d (omega arith)

-- with more replicas packed cells are the same cells
pub same_cells : (old new : List ℕ) (ps : List PackedCell) → Grows old new → All (IsPacked old) ps → map (unpacked new) ps ≡ map (unpacked old) ps
same_cells old new [] grows all = refl
same_cells old new (p ∷ ps) grows all =
    rw (same_cell old new p grows (all 0 p (omega arith)), same_cells old new ps grows (behind_first old p ps all)) refl

-- one more behind them
pub one_more : (old new : List ℕ) (ps now : List PackedCell) (p : PackedCell) → now ≡ ps ++ p ∷ [] → Grows old new → All (IsPacked old) ps
    → IsPacked new p → All (IsPacked new) now
one_more old new ps now p more grows all is =
    rw more (All-push (IsPacked new) ps p (still old new ps grows all) is)

-- and these are the cells then
pub cells_behind : (old new : List ℕ) (ps now : List PackedCell) (p : PackedCell) (c : Cell) → now ≡ ps ++ p ∷ [] → Grows old new
    → All (IsPacked old) ps → unpacked new p ≡ c → map (unpacked new) now ≡ map (unpacked old) ps ++ c ∷ []
cells_behind old new ps now p c more grows all same =
    rw (more, map-append (unpacked new) ps (p ∷ []), same_cells old new ps grows all, same) refl

-- one more among them
pub one_put : (old new : List ℕ) (ps now : List PackedCell) (i : ℕ) (p : PackedCell) → now ≡ take i ps ++ p ∷ drop i ps → Grows old new
    → All (IsPacked old) ps → IsPacked new p → All (IsPacked new) now
one_put old new ps now i p put grows all is =
    let both = still old new ps grows all in
    rw put
    (All-append (IsPacked new) (take i ps) (p ∷ drop i ps) (All-take (IsPacked new) i ps both)
    (All-cons (IsPacked new) p (drop i ps) is (All-drop (IsPacked new) i ps both)))

-- and these are the cells then
pub cells_put : (old new : List ℕ) (ps now : List PackedCell) (i : ℕ) (p : PackedCell) (c : Cell) → now ≡ take i ps ++ p ∷ drop i ps
    → Grows old new → All (IsPacked old) ps → unpacked new p ≡ c
    → map (unpacked new) now ≡ take i (map (unpacked old) ps) ++ c ∷ drop i (map (unpacked old) ps)
cells_put old new ps now i p c put grows all same =
    rw (
      ← same_cells old new ps grows all,
      take-map (unpacked new) i ps,
      drop-map (unpacked new) i ps,
      put,
      map-append (unpacked new) (take i ps) (p ∷ drop i ps),
      same,
    ) refl

-- the cells with a tombstone in the place of one
pub cells_removed : (makers : List ℕ) (ps : List PackedCell) (i : ℕ) (p : PackedCell) (c : Cell) → p ≡ get_or ps i p → i < length ps
    → slice_get (map (unpacked makers) ps) i ≡ Some c
    → map (unpacked makers) (slice_set ps i (record p { is_removed = true }))
    ≡ slice_set (map (unpacked makers) ps) i (record c { is_removed = true })
cells_removed makers ps i p c is within there =
    let read : slice_get ps i ≡ Some p = slice_get_read ps (length ps) i p refl within is in
    let same : unpacked makers p ≡ c = let here : Some (unpacked makers p) ≡ Some c = sym (slice_get-map (unpacked makers) ps i ∙ ap (option_map (unpacked makers)) read) ∙ there in
    cc in
    map-set (unpacked makers) ps i (record p { is_removed = true })
    ∙ ap (λ (x : Cell). slice_set (map (unpacked makers) ps) i (record x { is_removed = true })) same

-- what holds anyway holds if there is an error
pub on_error : {T E P : Type 0} (r : Result T E) → P → OnErr r P
on_error (Ok x) it = tt
on_error (Err e) it = it

-- a cell that is read is the one that stands there
pub got : (makers : List ℕ) (ps : List PackedCell) (i : ℕ) (p : PackedCell) (all : List Cell) (counter replica : ℕ) → map (unpacked makers) ps ≡ all
    → All (IsPacked makers) ps → p ≡ get_or ps i p → i < length ps → counter ≡ counter_of p → replica ≡ get_or makers p.maker replica
    → Some (record { id = record { counter = counter; replica = replica }; value = p.value; is_removed = p.is_removed }) ≡ slice_get all i
got makers ps i p all counter replica view packed is within count by =
    let there : slice_get ps i ≡ Some p = slice_get_read ps (length ps) i p refl within is in
    let it : IsPacked makers p = rw (sym is) at (packed i p within) in
    let same : replica ≡ get_or makers p.maker 0 = by ∙ get_or_default_zero makers p.maker replica it.known in
    rw (count, same, ← view) (sym (slice_get-map (unpacked makers) ps i ∙ ap (option_map (unpacked makers)) there))

-- ids with other counters are others
other_counter : (a b : Id) → a.counter ≢ b.counter → is_same a b ≡ false
unfolding is_same
other_counter a b other = grind (arith, nat_tests)

-- a cell that doesn't have the counter of an id doesn't have the id
pub has_another_id : (makers : List ℕ) (ps : List PackedCell) (i : ℕ) (p : PackedCell) (all : List Cell) (id : Id) → map (unpacked makers) ps ≡ all
    → p ≡ get_or ps i p → i < length ps → counter_of p ≢ id.counter → has_id_at (slice_get all i) id ≡ false
has_another_id makers ps i p all id view is within other =
    let there : slice_get ps i ≡ Some p = slice_get_read ps (length ps) i p refl within is in
    rw (← view, slice_get-map (unpacked makers) ps i, there) (other_counter (unpacked makers p).id id other)
