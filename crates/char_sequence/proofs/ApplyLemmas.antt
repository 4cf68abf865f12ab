-- What calls that put cells at a landing, or make cells tombstones at their places, owe.
use Rattle.std.proofs.Common.{◌≡◌, ℕ, ◌+◌, ◌<◌, Bool, true, false, if◌then◌else◌, List, [], ◌∷◌, ◌++◌, length, drop, map, get_or}
use Rattle.std.proofs.Common.{Option, Some, refl, sym, ◌∙◌, ap, subst, append_assoc, append-nil, arith}
use Rattle.std.specs.List.{list_all, slice_get}
use Rattle.op_ids.specs.Id.{Id, is_below, is_same}
use Rattle.op_ids.proofs.IdLemmas.{below_transitive, test_from_same}
use Rattle.op_model.specs.declared.op.Op.{Op}
use Rattle.op_model.specs.declared.op.Body.TheVariants.{Insert, Remove}
use Rattle.op_model.specs.Placing.{Fits}
use Rattle.char_sequence.specs.declared.cell.Cell.{Cell}
use Rattle.char_sequence.specs.declared.place.Place.{Place}
use Rattle.char_sequence.specs.Cells.{cell_of_insert, has_cell, inserted, past_greater, removed, removed_all}
use Rattle.char_sequence.specs.Chunks.{ChunkCells, IsPlaceOf, before, cell_at, cells_of, from}
use Rattle.char_sequence.specs.Content.{AreContent, FitAfter, IsRun, TakesOperation, TakesRemoves, TakesRun}
use Rattle.char_sequence.specs.Landing.{Lands, Stops}
use Rattle.char_sequence.specs.Weave.{AreOnce}
use Rattle.char_sequence.proofs.HoldsLemmas.{content_insert, takes_insert, takes_remove, takes_removes}
use Rattle.char_sequence.proofs.KnownLemmas.{first_known, has_cell-removed, one_of_removes, rest_known}
use Rattle.char_sequence.proofs.LandingLemmas.{removed_at}
use Rattle.char_sequence.proofs.OnceLemmas.{behind_there, once_content}

-- what a call that puts a cell at its landing owes
pub takes_landed : (id : Id) (origin : Option Id) (value : ℕ) (old new : ChunkCells) (at : Place)
    → Lands old origin (record { id = id; value = value; is_removed = false }) at
    → cells_of new ≡ before old at.chunk at.at ++ record { id = id; value = value; is_removed = false } ∷ from old at.chunk at.at
    → TakesOperation id (Insert origin value) old new
takes_landed id origin value old new at lands put ops doc op fits same_id same_body holds =
    let once = once_content (cells_of old) ops doc holds in
    takes_insert id origin value (cells_of old) (cells_of new) (put ∙ sym (lands.placed once)) ops doc op fits same_id same_body holds

-- what a call that makes the cell at its place a tombstone owes
pub takes_removed : (id : Id) (old new : ChunkCells) (i j : ℕ) → IsPlaceOf old id i j
    → ((c : Cell) → cell_at old i j ≡ Some c → cells_of new ≡ before old i j ++ record c { is_removed = true } ∷ from old i (j + 1))
    → (by : Id) → TakesOperation by (Remove id) old new
takes_removed id old new i j there gone by ops doc op fits same_id same_body holds =
    let once = once_content (cells_of old) ops doc holds in
    takes_remove id (cells_of old) (cells_of new) (removed_at old id i j (cells_of new) there once gone) by ops doc op fits same_id same_body holds

-- where no greater id comes first, a cell stays in front
stays : (c : Cell) (ds : List Cell) → Stops c ds → past_greater c ds ≡ c ∷ ds
stays c [] stops = refl
stays c (d ∷ ds) stops = rw stops refl

-- no greater id than a smaller one comes first
stops_above : (c d : Cell) (ds : List Cell) → is_below c.id d.id ≡ true → Stops c ds → Stops d ds
stops_above c d [] below stops = tt
stops_above c d (e ∷ ds) below stops = go (is_below d.id e.id) refl
  where
    go : (more : Bool) → is_below d.id e.id ≡ more → more ≡ false
    go false it = refl
    go true it = sym (below_transitive c.id d.id e.id below it) ∙ stops

-- an origin's id is below that of what hangs from it
below_named : (ops : List Op) (doc : ℕ) (op : Op) (id : Id) (value : ℕ) → Fits ops doc op → op.body ≡ Insert (Some id) value
    → is_below id op.id ≡ true
below_named ops doc op id value fits is = ((rw is at fits.names) 0 id (omega arith)).1

-- the cell of an operation of a run is that of its insert
cell_of_run : (op : Op) (x : Id × ℕ) → op.id ≡ x.0 → record { id = op.id; value = x.1; is_removed = false } ≡ cell_of_insert x
cell_of_run op x same = ap (λ id. record { id = id; value = x.1; is_removed = false }) same

-- A run behind a cell that no greater id stands behind: since the ids of the run rise, it stands there as a whole.
run_content : (xs : List (Id × ℕ)) (front : List Cell) (c : Cell) (rest : List Cell) (ops : List Op) (doc : ℕ) (more : List Op)
    → Stops c rest → FitAfter ops doc more → IsRun (Some c.id) xs more → AreContent (front ++ c ∷ rest) ops doc
    → AreContent (front ++ c ∷ (map cell_of_insert xs ++ rest)) (ops ++ more) doc
run_content [] front c rest ops doc [] stops fit is_run holds = rw append-nil holds
run_content [] front c rest ops doc (op ∷ more) stops fit is_run holds = absurd is_run
run_content (x ∷ xs) front c rest ops doc [] stops fit is_run holds = absurd is_run
run_content (x ∷ xs) front c rest ops doc (op ∷ more) stops fit is_run holds =
    let d : Cell = cell_of_insert x in
    let below : is_below c.id d.id ≡ true = rw is_run.0 at (below_named ops doc op c.id x.1 fit.0 is_run.1) in
    let stops_there : Stops d rest = stops_above c d rest below stops in
    let once = once_content (front ++ c ∷ rest) ops doc holds in
    let landed : inserted (Some c.id) d (front ++ c ∷ rest) ≡ (front ++ c ∷ []) ++ d ∷ rest =
    behind_there front c rest c.id d once (test_from_same c.id c.id refl) ∙ ap (λ ds. (front ++ c ∷ []) ++ ds) (stays d rest stops_there) in
    let one = content_insert (front ++ c ∷ rest) ops doc op (Some c.id) x.1 fit.0 is_run.1 holds in
    let cells = ap (λ e. inserted (Some c.id) e (front ++ c ∷ rest)) (cell_of_run op x is_run.0) ∙ landed in
    let with_one : AreContent ((front ++ c ∷ []) ++ d ∷ rest) (ops ++ op ∷ []) doc =
    subst (λ (cs : List Cell). AreContent cs (ops ++ op ∷ []) doc) cells one in
    let all = run_content xs (front ++ c ∷ []) d rest (ops ++ op ∷ []) doc more stops_there fit.1 is_run.2 with_one in
    rw (append_assoc front (c ∷ []) (d ∷ (map cell_of_insert xs ++ rest)), append_assoc ops (op ∷ []) more) at all

-- what a call that puts a run at the landing of its first cell owes
takes_run_at : (origin : Option Id) (x : Id × ℕ) (xs : List (Id × ℕ)) (old new : ChunkCells) (at : Place) → Lands old origin (cell_of_insert x) at
    → cells_of new ≡ before old at.chunk at.at ++ (map cell_of_insert (x ∷ xs) ++ from old at.chunk at.at)
    → TakesRun origin (x ∷ xs) old new
takes_run_at origin x xs old new at lands put ops doc [] fit is_run holds = absurd is_run
takes_run_at origin x xs old new at lands put ops doc (op ∷ more) fit is_run holds =
    let once = once_content (cells_of old) ops doc holds in
    let one = content_insert (cells_of old) ops doc op origin x.1 fit.0 is_run.1 holds in
    let cells = ap (λ e. inserted origin e (cells_of old)) (cell_of_run op x is_run.0) ∙ lands.placed once in
    let with_one : AreContent (before old at.chunk at.at ++ cell_of_insert x ∷ from old at.chunk at.at) (ops ++ op ∷ []) doc =
    subst (λ (cs : List Cell). AreContent cs (ops ++ op ∷ []) doc) cells one in
    let all = run_content xs (before old at.chunk at.at) (cell_of_insert x) (from old at.chunk at.at) (ops ++ op ∷ []) doc more lands.stops fit.1
    is_run.2 with_one in
    rw put (rw (append_assoc ops (op ∷ []) more) at all)

pub takes_run : (origin : Option Id) (x : Id × ℕ) (run : List (Id × ℕ)) (old new : ChunkCells) (c : Cell) (cs : List Cell) (at : Place)
    → slice_get run 0 ≡ Some x → c ≡ cell_of_insert x → Lands old origin c at → cs ≡ map cell_of_insert run
    → cells_of new ≡ before old at.chunk at.at ++ (cs ++ from old at.chunk at.at) → TakesRun origin run old new
takes_run origin x [] old new c cs at first is_cell lands are_cells put = absurd (cc)
takes_run origin x (y ∷ ys) old new c cs at first is_cell lands are_cells put =
    let same : x ≡ y = cc in
    takes_run_at origin y ys old new at (rw (is_cell, same) at lands) (rw are_cells at put)

-- with a tombstone more no id is there twice
once_removed : (id : Id) (cs : List Cell) → AreOnce cs → AreOnce (removed id cs)
once_removed id [] once = tt
once_removed id (c ∷ cs) once = go (is_same c.id id) (once_removed id cs once.1)
  where
    go : (hit : Bool) → AreOnce (removed id cs) → AreOnce (if hit then record c { is_removed = true } ∷ cs else c ∷ removed id cs)
    go true rest = once
    go false rest = (has_cell-removed id c.id cs ∙ once.0, rest)

-- the first k of these ids were removed: the others are still there, each once, and removing them too makes the same as removing all
pub record Left (ids : List Id) (k : ℕ) (old now : List Cell) : Type 0 where
  pub known : list_all (λ n. has_cell now n) (drop k ids) ≡ true
  pub once : AreOnce now
  pub same : removed_all (drop k ids) now ≡ removed_all ids old

-- one more was removed
pub left_less : (ids : List Id) (k : ℕ) (id : Id) (old now new : List Cell) → k < length ids → id ≡ get_or ids k id
    → (has_cell now id ≡ true → AreOnce now → new ≡ removed id now) → Left ids k old now → Left ids (k + 1) old new
left_less ids k id old now new within is_it step left =
    let first = first_known ids k id now within is_it left.known in
    let gone : new ≡ removed id now = step first.0 left.once in
    record {
      known = rest_known ids k id now new within is_it gone left.known;
      once = rw gone (once_removed id now left.once);
      same = sym (one_of_removes ids k id now new within is_it gone) ∙ left.same;
    }

-- what a call that makes the cells of these ids tombstones owes
pub takes_all_removed : (ids : List Id) (old new : ChunkCells) → list_all (λ n. has_cell (cells_of old) n) ids ≡ true
    → (list_all (λ n. has_cell (cells_of old) n) ids ≡ true → AreOnce (cells_of old) → cells_of new ≡ removed_all ids (cells_of old))
    → TakesRemoves ids old new
takes_all_removed ids old new known gone ops doc more fit are holds =
    takes_removes ids old new (gone known (once_content (cells_of old) ops doc holds)) ops doc more fit are holds
