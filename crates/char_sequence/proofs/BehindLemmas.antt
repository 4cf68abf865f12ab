-- What stands behind the first cells that a reader sees.
use Rattle.std.proofs.Common.{◌≡◌, ℕ, zero, suc, ◌+◌, ◌-◌, ◌≤◌, ◌<◌, ◌==◌, Bool, true, false, not, if◌then◌else◌, List, [], ◌∷◌, ◌++◌, length, take}
use Rattle.std.proofs.Common.{drop, map, get_or}
use Rattle.std.proofs.Common.{refl, sym, ◌∙◌, ap, append_assoc, append-nil, arith}
use Rattle.std.proofs.lemmas.Bool.Decides.{nat_tests}
use Rattle.std.proofs.lemmas.List.{length-append, length-map}
use Rattle.op_ids.specs.Id.{Id}
use Rattle.char_sequence.specs.declared.cell.Cell.{Cell}
use Rattle.char_sequence.specs.Cells.{behind_shown, shown}
use Rattle.char_sequence.specs.Chunks.{ChunkCells, cells_of}
use Rattle.char_sequence.proofs.PlaceLemmas.{chunks_from}

-- behind none are all
pub behind_none : (cs : List Cell) → behind_shown cs 0 ≡ cs
behind_none [] = refl
behind_none (c ∷ cs) = refl

-- where the first cells have too few, it is behind them
pub behind_past : (k cs : List Cell) (n : ℕ) → length (shown k) < n → behind_shown (k ++ cs) n ≡ behind_shown cs (n - length (shown k))
behind_past [] cs n past = ap (behind_shown cs) (omega arith)
behind_past (c ∷ k) cs n past = go c.is_removed n (λ m. behind_past k cs m) past
  where
    go : (hidden : Bool) (n : ℕ) → ((m : ℕ) → length (shown k) < m → behind_shown (k ++ cs) m ≡ behind_shown cs (m - length (shown k)))
        → length (if not hidden then c ∷ shown k else shown k) < n
        → (if n == 0 then c ∷ (k ++ cs) else behind_shown (k ++ cs) (if hidden then n else n - 1))
        ≡ behind_shown cs (n - length (if not hidden then c ∷ shown k else shown k))
    go hidden zero rest past = absurd (omega arith)
    go true (suc n) rest past = let some : (suc n == 0) ≡ false = grind (arith, nat_tests) in rw some (rest (suc n) past)
    go false (suc n) rest past =
        let some : (suc n == 0) ≡ false = grind (arith, nat_tests) in
        let back : suc n - 1 ≡ n = omega arith in
        let left : n - length (shown k) ≡ suc n - suc (length (shown k)) = omega arith in
        rw (some, back) (rest n (omega arith) ∙ ap (behind_shown cs) left)

-- the same from a chunk on
pub behind_chunk : (held : ChunkCells) (i n : ℕ) → length (shown (get_or held i [])) < n
    → behind_shown (cells_of (drop i held)) n ≡ behind_shown (cells_of (drop (i + 1) held)) (n - length (shown (get_or held i [])))
behind_chunk held i n past =
    ap (λ cs. behind_shown cs n) (chunks_from held i) ∙ behind_past (get_or held i []) (cells_of (drop (i + 1) held)) n past

-- a reader sees the same behind them
pub shown_behind : (cs : List Cell) (n : ℕ) → shown (behind_shown cs n) ≡ drop n (shown cs)
shown_behind [] zero = refl
shown_behind [] (suc n) = refl
shown_behind (c ∷ cs) zero = refl
shown_behind (c ∷ cs) (suc n) = go c.is_removed (shown_behind cs (suc n)) (shown_behind cs n)
  where
    go : (hidden : Bool) → shown (behind_shown cs (suc n)) ≡ drop (suc n) (shown cs) → shown (behind_shown cs n) ≡ drop n (shown cs)
        → shown (if suc n == 0 then c ∷ cs else behind_shown cs (if hidden then suc n else suc n - 1))
        ≡ drop (suc n) (if not hidden then c ∷ shown cs else shown cs)
    go true rest less = let some : (suc n == 0) ≡ false = grind (arith, nat_tests) in rw some rest
    go false rest less =
        let some : (suc n == 0) ≡ false = grind (arith, nat_tests) in
        let back : suc n - 1 ≡ n = omega arith in
        rw (some, back) less

-- the ids of n cells that a reader sees, from these on
abbrev pub ids_of : ℕ → List Cell → List Id
ids_of n cs = map (λ c. c.id) (take n (shown cs))

-- a first cell that a reader sees is one of them, where some are asked for
first_id : (c : Cell) (cs : List Cell) (n : ℕ) → 0 < n → ids_of n (c ∷ cs) ≡ map (λ d. d.id) (shown (c ∷ [])) ++ ids_of (n - length (shown (c ∷ []))) cs
first_id c cs n some = go c.is_removed n some
  where
    go : (hidden : Bool) (n : ℕ) → 0 < n → map (λ d. d.id) (take n (if not hidden then c ∷ shown cs else shown cs))
        ≡ map (λ d. d.id) (if not hidden then c ∷ [] else []) ++ ids_of (n - length (if not hidden then c ∷ [] else [])) cs
    go true n some = ap (λ m. ids_of m cs) (omega arith)
    go false zero some = absurd (omega arith)
    go false (suc n) some = let back : n ≡ suc n - 1 = omega arith in ap (λ m. c.id ∷ ids_of m cs) back

one_seen : (hidden : Bool) (c : Cell) → length (if not hidden then c ∷ [] else []) ≤ 1
one_seen true c = omega arith
one_seen false c = omega arith

-- the first cell was looked at, and its id was found where a reader sees it
pub ids_more : (count : ℕ) (all here rest : List Cell) (found now : List Id) (c : Cell) → ids_of count all ≡ found ++ ids_of (count - length found) here
    → length found < count → here ≡ c ∷ rest → now ≡ found ++ map (λ d. d.id) (shown (c ∷ []))
    → (ids_of count all ≡ now ++ ids_of (count - length now) rest) × (length now ≤ count)
ids_more count all here rest found now c are some first more =
    let long : length now ≡ length found + length (shown (c ∷ [])) =
    ap length more ∙ (length-append found (map (λ d. d.id) (shown (c ∷ []))) ∙ ap (λ n. length found + n) (length-map (shown (c ∷ [])) (λ d. d.id))) in
    let left : (count - length found) - length (shown (c ∷ [])) ≡ count - length now = omega arith in
    let one : length (shown (c ∷ [])) ≤ 1 = one_seen c.is_removed c in (
      are ∙ (ap (λ cs. found ++ ids_of (count - length found) cs) first
          ∙ (ap (λ ids. found ++ ids) (first_id c rest (count - length found) (omega arith))
          ∙ (sym (append_assoc found (map (λ d. d.id) (shown (c ∷ []))) (ids_of ((count - length found) - length (shown (c ∷ []))) rest))
          ∙ (ap (λ ids. ids ++ ids_of ((count - length found) - length (shown (c ∷ []))) rest) (sym more)
          ∙ ap (λ m. now ++ ids_of m rest) left)))),
      omega arith,
    )

-- all were found where there are as many as were asked for
pub ids_full : (count k : ℕ) (cs here : List Cell) (found : List Id)
    → ids_of count (behind_shown cs k) ≡ found ++ ids_of (count - length found) here → count ≤ length found
    → found ≡ map (λ c. c.id) (take count (drop k (shown cs)))
ids_full count k cs here found are full =
    let none : count - length found ≡ 0 = omega arith in
    sym (ap (λ ds. map (λ c. c.id) (take count ds)) (sym (shown_behind cs k))
    ∙ (are ∙ (ap (λ n. found ++ ids_of n here) none ∙ append-nil found)))

-- or where nothing is left
pub ids_end : (count k : ℕ) (cs here : List Cell) (found : List Id)
    → ids_of count (behind_shown cs k) ≡ found ++ ids_of (count - length found) here → here ≡ []
    → found ≡ map (λ c. c.id) (take count (drop k (shown cs)))
ids_end count k cs here found are end =
    sym (ap (λ ds. map (λ c. c.id) (take count ds)) (sym (shown_behind cs k))
    ∙ (are ∙ (ap (λ ds. found ++ ids_of (count - length found) ds) end ∙ (ap (λ ids. found ++ ids) (no_ids (count - length found)) ∙ append-nil found))))
  where
    no_ids : (n : ℕ) → ids_of n [] ≡ []
    no_ids zero = refl
    no_ids (suc n) = refl
