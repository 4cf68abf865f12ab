-- The last of some tombstones that a mark ends just after.
use Rattle.std.proofs.Common.{◌≡◌, ℕ, zero, suc, ◌+◌, ◌≤◌, ◌<◌, ◌⊎◌, inl, inr, Bool, true, false, not, ◌||◌, if◌then◌else◌, List, [], ◌∷◌, ◌++◌, length, take}
use Rattle.std.proofs.Common.{drop, filter, get_or, map, Option, Some, refl, sym, ◌∙◌, ap, append_assoc, append-nil, subst, arith}
use Rattle.std.proofs.lemmas.Bool.{cases_order, or_from, true≢false}
use Rattle.std.proofs.lemmas.Bool.Decides.{nat_tests}
use Rattle.std.proofs.lemmas.List.{append_cancel_left, drop_more, take-append-drop, take-take}
use Rattle.std.proofs.lemmas.List.Folds.{list_any-append}
use Rattle.op_ids.specs.Id.{Id, is_same}
use Rattle.op_ids.proofs.IdLemmas.{same_from_test, test_from_same}
use Rattle.op_model.specs.declared.character.Character.{Character}
use Rattle.op_model.specs.Made.{last_or}
use Rattle.char_sequence.specs.declared.cell.Cell.{Cell}
use Rattle.char_sequence.specs.declared.place.Place.{Place}
use Rattle.char_sequence.specs.Cells.{first_removed, has_cell, shown}
use Rattle.char_sequence.specs.Chunks.{ChunkCells, IsPlace, IsPlaceOf, before, cells_of, from}
use Rattle.char_sequence.specs.Reading.{HidesUpTo, IsAhead, Splits, is_among, last_ended, tombstones_from}
use Rattle.char_sequence.specs.Weave.{AreOnce}
use Rattle.char_sequence.proofs.LandingLemmas.{around}
use Rattle.char_sequence.proofs.OnceLemmas.{other_id}
use Rattle.char_sequence.proofs.PlaceLemmas.{before_cell, from_cell, joined, place_behind}
use Rattle.char_sequence.proofs.ReadLemmas.{shown_append}
use Rattle.char_sequence.proofs.SizeLemmas.{within_place}

neither : (a b : Bool) → (a || b) ≡ false → (a ≡ false) × (b ≡ false)
neither true b none = absurd (true≢false none)
neither false b none = (refl, none)

same_both_ways : (a b : Id) → is_same a b ≡ is_same b a
unfolding is_same
same_both_ways a b = grind (arith, nat_tests)

-- what comes before an id at which something ends doesn't matter
ended_at : (ends : Id → Bool) (old : Option Id) (front rest : List Id) (id : Id) → ends id ≡ true
    → last_ended ends old (front ++ id ∷ rest) ≡ last_ended ends (Some id) rest
ended_at ends old [] rest id is = ap (λ ended. last_ended ends (if ended then Some id else old) rest) is
ended_at ends old (x ∷ front) rest id is = ended_at ends (if ends x then Some x else old) front rest id is

-- an id that isn't among them doesn't matter
ended_without : (id : Id) (ends : Id → Bool) (old : Option Id) (ids : List Id) → is_among id ids ≡ false
    → last_ended (λ x. is_same id x || ends x) old ids ≡ last_ended ends old ids
ended_without id ends old [] none = refl
ended_without id ends old (x ∷ ids) none =
    let parts = neither (is_same x id) (is_among id ids) none in
    ap (λ same. last_ended (λ y. is_same id y || ends y) (if same || ends x then Some x else old) ids) (same_both_ways id x ∙ parts.0)
    ∙ ended_without id ends (if ends x then Some x else old) ids parts.1

-- where nothing ends
pub ended_by_none : (old : Option Id) (ids : List Id) → last_ended (λ id. false) old ids ≡ old
ended_by_none old [] = refl
ended_by_none old (x ∷ ids) = ended_by_none old ids

-- where the same ends
pub ended_alike : (f g : Id → Bool) (old : Option Id) (ids : List Id) → ((id : Id) → f id ≡ g id) → last_ended f old ids ≡ last_ended g old ids
ended_alike f g old [] same = refl
ended_alike f g old (x ∷ ids) same =
    ap (λ ended. last_ended f (if ended then Some x else old) ids) (same x) ∙ ended_alike f g (if g x then Some x else old) ids same

-- the next end isn't among the tombstones
pub ended_skip : (ended ids : List Id) (k : ℕ) (e : Id) (all old : Option Id) → k < length ended → e ≡ get_or ended k e → is_among e ids ≡ false
    → all ≡ last_ended (λ id. is_among id (drop k ended)) old ids → all ≡ last_ended (λ id. is_among id (drop (k + 1) ended)) old ids
ended_skip ended ids k e all old within is none so =
    so ∙ (ap (λ es. last_ended (λ id. is_among id es) old ids) (drop_more ended k e within ∙ ap (λ x. x ∷ drop (k + 1) ended) (sym is))
    ∙ ended_without e (λ id. is_among id (drop (k + 1) ended)) old ids none)

-- or it is, and those behind it are left
pub ended_here : (ended ids rest : List Id) (k : ℕ) (e : Id) (all old : Option Id) → k < length ended → e ≡ get_or ended k e → Splits ids e rest
    → all ≡ last_ended (λ id. is_among id (drop k ended)) old ids → all ≡ last_ended (λ id. is_among id (drop (k + 1) ended)) (Some e) rest
ended_here ended ids rest k e all old within is splits so =
    let more = drop (k + 1) ended in
    so ∙ (ap (λ es. last_ended (λ id. is_among id es) old ids) (drop_more ended k e within ∙ ap (λ x. x ∷ more) (sym is))
    ∙ (ap (last_ended (λ id. is_same e id || is_among id more) old) splits.split
    ∙ (ended_at (λ id. is_same e id || is_among id more) old splits.front rest e (ap (λ same. same || is_among e more) (test_from_same e e refl))
    ∙ ended_without e (λ id. is_among id more) (Some e) rest splits.last)))

-- what stands before a place of an earlier chunk stands before a later chunk, too
earlier_chunk : (held : ChunkCells) (i j m : ℕ) → i < m → m ≤ length held → (between : List Cell) × (cells_of (take m held) ≡ before held i j ++ between)
earlier_chunk [] i j m less within = absurd (omega arith)
earlier_chunk (k ∷ ks) i j zero less within = absurd (omega arith)
earlier_chunk (k ∷ ks) zero j (suc m) less within = (
  drop j k ++ cells_of (take m ks),
  ap (λ cs. cs ++ cells_of (take m ks)) (sym (take-append-drop j k)) ∙ append_assoc (take j k) (drop j k) (cells_of (take m ks)),
)
earlier_chunk (k ∷ ks) (suc i) j (suc m) less within =
    let rest = earlier_chunk ks i j m (omega arith) (omega arith) in
    (rest.0, rw rest.1 (simp append_assoc))

-- of two places what stands before the first one stands before the other, too
earlier : (held : ChunkCells) (i j m n : ℕ) → (i < m) ⊎ ((i ≡ m) × (j ≤ n)) → IsPlace held m n
    → (between : List Cell) × (before held m n ≡ before held i j ++ between)
earlier held i j m n (inl less) place =
    let parts = earlier_chunk held i j m less (within_place held m n place).0 in (
      parts.0 ++ take n (get_or held m []),
      ap (λ cs. cs ++ take n (get_or held m [])) parts.1 ∙ append_assoc (before held i j) parts.0 (take n (get_or held m [])),
    )
earlier held i j m n (inr same) place =
    let k = get_or held m [] in (
      drop j (take n k),
      ap (λ cs. cells_of (take m held) ++ cs) (sym (take-append-drop j (take n k)) ∙ ap (λ cs. cs ++ drop j (take n k)) (take-take j n k same.1))
          ∙ (sym (append_assoc (cells_of (take m held)) (take j k) (drop j (take n k)))
          ∙ ap (λ l. before held l j ++ drop j (take n k)) (sym same.0)),
    )

-- and it follows from the first one on
follows : (held : ChunkCells) (i j m n : ℕ) (between : List Cell) → before held m n ≡ before held i j ++ between
    → from held i j ≡ between ++ from held m n
follows held i j m n between is =
    append_cancel_left (before held i j) (from held i j) (between ++ from held m n)
    (joined held i j ∙ (sym (joined held m n) ∙ (ap (λ cs. cs ++ from held m n) is ∙ append_assoc (before held i j) between (from held m n))))

-- where no two cells have one id, none before a cell has its id, and none behind it
apart : (front : List Cell) (c : Cell) (rest : List Cell) → AreOnce (front ++ c ∷ rest) → (has_cell front c.id ≡ false) × (has_cell rest c.id ≡ false)
apart [] c rest once = (refl, once.0)
apart (d ∷ front) c rest once =
    let more = apart front c rest once.1 in
    (or_from (is_same d.id c.id) (has_cell front c.id) (other_id d c front rest c.id once.0 (test_from_same c.id c.id refl)) more.0, more.1)

apart_there : (held : ChunkCells) (id : Id) (p : Place) → IsPlaceOf held id p.chunk p.at → AreOnce (cells_of held)
    → (has_cell (before held p.chunk p.at) id ≡ false) × (has_cell (from held p.chunk (p.at + 1)) id ≡ false)
apart_there held id p there once =
    let all = around held id p.chunk p.at there in
    let same : there.c.id ≡ id = same_from_test there.c.id id there.same in
    let parts = apart (before held p.chunk p.at) there.c (from held p.chunk (p.at + 1)) (subst AreOnce all once) in (
      ap (has_cell (before held p.chunk p.at)) (sym same) ∙ parts.0,
      ap (has_cell (from held p.chunk (p.at + 1))) (sym same) ∙ parts.1,
    )

none_of_both : (front rest : List Cell) (id : Id) → has_cell (front ++ rest) id ≡ false → (has_cell front id ≡ false) × (has_cell rest id ≡ false)
none_of_both front rest id none =
    neither (has_cell front id) (has_cell rest id) (sym (list_any-append (λ c. is_same c.id id) front rest) ∙ none)

-- each tombstone's id is that of its cell
not_among : (cs : List Cell) (id : Id) → has_cell cs id ≡ false → is_among id (first_removed cs) ≡ false
not_among [] id none = refl
not_among (c ∷ cs) id none =
    let parts = neither (is_same c.id id) (has_cell cs id) none in
    go c.is_removed parts.0 (not_among cs id parts.1)
  where
    go : (hidden : Bool) → is_same c.id id ≡ false → is_among id (first_removed cs) ≡ false
        → is_among id (if hidden then c.id ∷ first_removed cs else []) ≡ false
    go true other rest = or_from (is_same c.id id) (is_among id (first_removed cs)) other rest
    go false other rest = refl

-- tombstones, and what stands behind them
run_more : (front cs : List Cell) → shown front ≡ [] → first_removed (front ++ cs) ≡ first_removed front ++ first_removed cs
run_more [] cs hidden = refl
run_more (c ∷ front) cs hidden = go c.is_removed (λ none. run_more front cs none) hidden
  where
    go : (gone : Bool) → (shown front ≡ [] → first_removed (front ++ cs) ≡ first_removed front ++ first_removed cs)
        → (if not gone then c ∷ shown front else shown front) ≡ []
        → (if gone then c.id ∷ first_removed (front ++ cs) else []) ≡ (if gone then c.id ∷ first_removed front else []) ++ first_removed cs
    go true rest none = ap (λ ids. c.id ∷ ids) (rest none)
    go false rest none = absurd (cc)

-- a character that isn't there is none of the tombstones
pub not_there : (held : ChunkCells) (at : Place) (id : Id) → has_cell (cells_of held) id ≡ false → is_among id (tombstones_from held at) ≡ false
not_there held at id none =
    not_among (from held at.chunk at.at) id
    (none_of_both (before held at.chunk at.at) (from held at.chunk at.at) id (ap (λ cs. has_cell cs id) (joined held at.chunk at.at) ∙ none)).1

-- nor is one that stands before them
pub stands_before : (held : ChunkCells) (at to p : Place) (id : Id) → HidesUpTo held at to → IsPlaceOf held id p.chunk p.at → IsAhead p at
    → AreOnce (cells_of held) → is_among id (tombstones_from held at) ≡ false
stands_before held at to p id upto there ahead once =
    let parts = earlier held p.chunk (p.at + 1) at.chunk at.at (next ahead) upto.start in
    let rest = follows held p.chunk (p.at + 1) at.chunk at.at parts.0 parts.1 in
    not_among (from held at.chunk at.at) id
    (none_of_both parts.0 (from held at.chunk at.at) id (ap (λ cs. has_cell cs id) (sym rest) ∙ (apart_there held id p there once).1)).1
  where
    next : IsAhead p at → (p.chunk < at.chunk) ⊎ ((p.chunk ≡ at.chunk) × (p.at + 1 ≤ at.at))
    next (inl less) = inl less
    next (inr same) = inr (same.0, omega (arith, same.1))

-- a place that isn't ahead of another one
not_ahead : (p q : Place) → (IsAhead p q → ⊥) → (q.chunk < p.chunk) ⊎ ((q.chunk ≡ p.chunk) × (q.at ≤ p.at))
not_ahead p q never = elim (cases_order p.chunk q.chunk) [
  | inl same ↦ inr (
    sym same,
    elim (cases_order p.at q.at) [
      | inl here ↦ omega arith
      | inr o ↦ elim o [ inl less ↦ absurd (never (inr (same, less))) | inr more ↦ omega arith ]
    ],
  )
  | inr o ↦ elim o [ inl less ↦ absurd (never (inl less)) | inr more ↦ inl more ]
]

-- nor one that stands behind them
pub stands_behind : (held : ChunkCells) (at to p : Place) (id : Id) → HidesUpTo held at to → IsPlaceOf held id p.chunk p.at → IsPlace held p.chunk p.at
    → (IsAhead p to → ⊥) → AreOnce (cells_of held) → is_among id (tombstones_from held at) ≡ false
stands_behind held at to p id upto there place never once =
    let parts = earlier held to.chunk to.at p.chunk p.at (not_ahead p to never) place in
    let up_to = none_of_both (before held to.chunk to.at) parts.0 id (ap (λ cs. has_cell cs id) (sym parts.1) ∙ (apart_there held id p there once).0) in
    let between = upto.hides.between in
    let none = none_of_both (before held at.chunk at.at) between id (ap (λ cs. has_cell cs id) (sym upto.hides.passed) ∙ up_to.0) in
    let all : tombstones_from held at ≡ first_removed between =
    ap first_removed upto.hides.first ∙ (run_more between (from held to.chunk to.at) upto.hides.hidden
    ∙ (ap (λ ids. first_removed between ++ ids) upto.ends ∙ append-nil (first_removed between))) in
    ap (is_among id) all ∙ not_among between id none.1

seen_first : (c : Cell) (cs : List Cell) → shown (c ∷ cs) ≡ [] → (c.is_removed ≡ true) × (shown cs ≡ [])
seen_first c cs none = go c.is_removed refl none
  where
    go : (gone : Bool) → c.is_removed ≡ gone → (if not gone then c ∷ shown cs else shown cs) ≡ [] → (c.is_removed ≡ true) × (shown cs ≡ [])
    go true is none = (is, none)
    go false is none = absurd (cc)

nothing_of_both : (xs ys : List Cell) → xs ++ ys ≡ [] → (xs ≡ []) × (ys ≡ [])
nothing_of_both [] ys none = (refl, none)
nothing_of_both (x ∷ xs) ys none = absurd (cc)

-- what stands between two places, where a cell stands between them
between_is : (held : ChunkCells) (at to p : Place) (front rest between : List Cell) (c : Cell)
    → before held p.chunk p.at ≡ before held at.chunk at.at ++ front → before held p.chunk (p.at + 1) ≡ before held p.chunk p.at ++ c ∷ []
    → before held to.chunk to.at ≡ before held p.chunk (p.at + 1) ++ rest → before held to.chunk to.at ≡ before held at.chunk at.at ++ between
    → between ≡ front ++ c ∷ rest
between_is held at to p front rest between c first cell second all =
    append_cancel_left (before held at.chunk at.at) between (front ++ c ∷ rest)
    (sym all ∙ (second ∙ (ap (λ cs. cs ++ rest) (cell ∙ ap (λ cs. cs ++ c ∷ []) first)
    ∙ (append_assoc (before held at.chunk at.at ++ front) (c ∷ []) rest ∙ append_assoc (before held at.chunk at.at) front (c ∷ rest)))))

-- one that stands between is one of the tombstones, and those behind it are left
pub stands_between : (held : ChunkCells) (at to p behind : Place) (id : Id) → HidesUpTo held at to → IsPlaceOf held id p.chunk p.at
    → IsPlace held p.chunk p.at → (IsAhead p at → ⊥) → IsAhead p to → behind ≡ record { chunk = p.chunk; at = p.at + 1 }
    → HidesUpTo held behind to × (AreOnce (cells_of held) → Splits (tombstones_from held at) id (tombstones_from held behind))
stands_between held at to p behind id upto there place never ahead is =
    let one = earlier held at.chunk at.at p.chunk p.at (not_ahead p at never) place in
    let two = earlier held p.chunk (p.at + 1) to.chunk to.at (next ahead) upto.hides.place in
    let cell = before_cell held p.chunk p.at there.c there.cell in
    let parts : upto.hides.between ≡ one.0 ++ there.c ∷ two.0 = between_is held at to p one.0 two.0 upto.hides.between there.c one.1 cell two.1 upto.hides.passed in
    let hidden = nothing_of_both (shown one.0) (shown (there.c ∷ two.0))
    (sym (shown_append one.0 (there.c ∷ two.0)) ∙ (ap shown (sym parts) ∙ upto.hides.hidden)) in
    let first = seen_first there.c two.0 hidden.1 in
    let same : there.c.id ≡ id = same_from_test there.c.id id there.same in
    let rest = from held p.chunk (p.at + 1) in
    let split : tombstones_from held at ≡ first_removed one.0 ++ id ∷ first_removed rest =
    ap first_removed (follows held at.chunk at.at p.chunk p.at one.0 one.1 ∙ ap (λ cs. one.0 ++ cs) (from_cell held p.chunk p.at there.c there.cell))
    ∙ (run_more one.0 (there.c ∷ rest) hidden.0
    ∙ ap (λ ids. first_removed one.0 ++ ids) (ap (λ gone. if gone then there.c.id ∷ first_removed rest else []) first.0 ∙ ap (λ x. x ∷ first_removed rest) same)) in
    subst (λ q. HidesUpTo held q to × (AreOnce (cells_of held) → Splits (tombstones_from held at) id (tombstones_from held q))) (sym is) (
      record {
        start = place_behind held p.chunk p.at there.c there.cell;
        hides = record {
          place = upto.hides.place;
          between = two.0;
          hidden = first.1;
          first = follows held p.chunk (p.at + 1) to.chunk to.at two.0 two.1;
          passed = two.1;
        };
        ends = upto.ends;
      },
      λ once. record {
        front = first_removed one.0;
        split = split;
        last = not_among rest id (apart_there held id p there once).1;
      },
    )
  where
    next : IsAhead p to → (p.chunk < to.chunk) ⊎ ((p.chunk ≡ to.chunk) × (p.at + 1 ≤ to.at))
    next (inl less) = inl less
    next (inr here) = inr (here.0, omega (arith, here.1))

-- the last of some characters' ids that a mark ends after is the last of the characters that a mark ends after
pub ended_of_characters : (ends : Id → Bool) (old : Option Id) (cs : List Character)
    → last_ended ends old (map (λ c. c.id) cs) ≡ last_or old (filter (λ c. ends c.id) cs)
ended_of_characters ends old [] = refl
ended_of_characters ends old (c ∷ cs) = go (ends c.id) (λ first. ended_of_characters ends first cs)
  where
    go : (ended : Bool) → ((first : Option Id) → last_ended ends first (map (λ d. d.id) cs) ≡ last_or first (filter (λ d. ends d.id) cs))
        → last_ended ends (if ended then Some c.id else old) (map (λ d. d.id) cs)
        ≡ last_or old (if ended then c ∷ filter (λ d. ends d.id) cs else filter (λ d. ends d.id) cs)
    go true rest = rest (Some c.id)
    go false rest = rest old
