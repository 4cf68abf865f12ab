-- What a reader sees of a document's content is what a reader sees of the document.
use Rattle.std.proofs.Common.{◌≡◌, ℕ, zero, suc, ◌-◌, ◌==◌, Bool, true, false, not, if◌then◌else◌, List, [], ◌∷◌, length, take, drop, map, filter}
use Rattle.std.proofs.Common.{◌<◌, ◌≤◌, Some, None}
use Rattle.std.proofs.Common.{refl, sym, ◌∙◌, ap, append_assoc, arith, ◌++◌}
use Rattle.std.specs.List.{take-map, drop-map}
use Rattle.std.proofs.lemmas.Bool.Decides.{nat_tests}
use Rattle.op_ids.specs.Id.{Id}
use Rattle.op_model.specs.declared.op.Op.{Op}
use Rattle.op_model.specs.declared.character.Character.{Character}
use Rattle.op_model.specs.Walk.{walk}
use Rattle.op_model.specs.Text.{is_removed, visible}
use Rattle.op_model.specs.Made.{id_at, first_hidden, behind_visible, tombstones_at}
use Rattle.char_sequence.specs.declared.cell.Cell.{Cell}
use Rattle.char_sequence.specs.Cells.{shown_at, shown_values, shown, behind_shown, first_removed}
use Rattle.char_sequence.specs.Content.{cell_of, content_of}

pub shown_at-map : (ops : List Op) (doc : ℕ) (cs : List Character) (k : ℕ)
    → shown_at (map (cell_of ops doc) cs) k ≡ id_at (filter (λ c. not (is_removed ops doc c)) cs) k
shown_at-map ops doc [] k = refl
shown_at-map ops doc (c ∷ cs) k = go (λ j. shown_at-map ops doc cs j) (is_removed ops doc c) k
  where
    go : ((j : ℕ) → shown_at (map (cell_of ops doc) cs) j ≡ id_at (filter (λ d. not (is_removed ops doc d)) cs) j) → (hidden : Bool) (j : ℕ)
        → (if hidden then shown_at (map (cell_of ops doc) cs) j
        else if j == 0 then Some c.id else shown_at (map (cell_of ops doc) cs) (j - 1))
        ≡ id_at (if not hidden then c ∷ filter (λ d. not (is_removed ops doc d)) cs else filter (λ d. not (is_removed ops doc d)) cs) j
    go rest true j = rest j
    go rest false zero = refl
    go rest false (suc j) =
        let some : (suc j == 0) ≡ false = grind (arith, nat_tests) in
        let back : suc j - 1 ≡ j = omega arith in
        rw (some, back) (rest j)

pub shown_values-map : (ops : List Op) (doc : ℕ) (cs : List Character)
    → shown_values (map (cell_of ops doc) cs) ≡ map (λ c. c.value) (filter (λ c. not (is_removed ops doc c)) cs)
shown_values-map ops doc [] = refl
shown_values-map ops doc (c ∷ cs) = go (shown_values-map ops doc cs) (is_removed ops doc c)
  where
    go : shown_values (map (cell_of ops doc) cs) ≡ map (λ d. d.value) (filter (λ d. not (is_removed ops doc d)) cs) → (hidden : Bool)
        → map (λ d. d.value) (if not hidden then record { id = c.id; value = c.value; is_removed = hidden } ∷ shown (map (cell_of ops doc) cs)
        else shown (map (cell_of ops doc) cs))
        ≡ map (λ d. d.value) (if not hidden then c ∷ filter (λ d. not (is_removed ops doc d)) cs else filter (λ d. not (is_removed ops doc d)) cs)
    go rest true = rest
    go rest false = ap (λ r. c.value ∷ r) rest

pub behind_shown-map : (ops : List Op) (doc : ℕ) (cs : List Character) (k : ℕ)
    → behind_shown (map (cell_of ops doc) cs) k ≡ map (cell_of ops doc) (behind_visible (is_removed ops doc) k cs)
behind_shown-map ops doc [] k = refl
behind_shown-map ops doc (c ∷ cs) k = go (behind_shown-map ops doc cs (if is_removed ops doc c then k else k - 1)) (k == 0)
  where
    go : behind_shown (map (cell_of ops doc) cs) (if is_removed ops doc c then k else k - 1)
        ≡ map (cell_of ops doc) (behind_visible (is_removed ops doc) (if is_removed ops doc c then k else k - 1) cs) → (none : Bool)
        → (if none then cell_of ops doc c ∷ map (cell_of ops doc) cs
        else behind_shown (map (cell_of ops doc) cs) (if is_removed ops doc c then k else k - 1))
        ≡ map (cell_of ops doc) (if none then c ∷ cs else behind_visible (is_removed ops doc) (if is_removed ops doc c then k else k - 1) cs)
    go rest true = refl
    go rest false = rest

pub first_removed-map : (ops : List Op) (doc : ℕ) (cs : List Character)
    → first_removed (map (cell_of ops doc) cs) ≡ map (λ c. c.id) (first_hidden (is_removed ops doc) cs)
first_removed-map ops doc [] = refl
first_removed-map ops doc (c ∷ cs) = go (first_removed-map ops doc cs) (is_removed ops doc c)
  where
    go : first_removed (map (cell_of ops doc) cs) ≡ map (λ d. d.id) (first_hidden (is_removed ops doc) cs) → (hidden : Bool)
        → (if hidden then c.id ∷ first_removed (map (cell_of ops doc) cs) else [])
        ≡ map (λ d. d.id) (if hidden then c ∷ first_hidden (is_removed ops doc) cs else [])
    go rest true = ap (λ r. c.id ∷ r) rest
    go rest false = refl

-- the tombstones behind the first count cells that a reader sees
pub run_there : (ops : List Op) (doc count : ℕ) (cells here : List Cell) → cells ≡ content_of ops doc → here ≡ behind_shown cells count
    → first_removed here ≡ map (λ c. c.id) (tombstones_at ops doc count)
run_there ops doc count cells here same is_behind =
    ap first_removed (is_behind ∙ (ap (λ cs. behind_shown cs count) same ∙ behind_shown-map ops doc (walk ops doc) count))
    ∙ first_removed-map ops doc (behind_visible (is_removed ops doc) count (walk ops doc))

-- the ids that a reader sees
pub shown-map : (ops : List Op) (doc : ℕ) (cs : List Character)
    → shown (map (cell_of ops doc) cs) ≡ map (cell_of ops doc) (filter (λ c. not (is_removed ops doc c)) cs)
shown-map ops doc [] = refl
shown-map ops doc (c ∷ cs) = go (shown-map ops doc cs) (is_removed ops doc c)
  where
    go : shown (map (cell_of ops doc) cs) ≡ map (cell_of ops doc) (filter (λ d. not (is_removed ops doc d)) cs) → (hidden : Bool)
        → (if not hidden then cell_of ops doc c ∷ shown (map (cell_of ops doc) cs) else shown (map (cell_of ops doc) cs))
        ≡ map (cell_of ops doc) (if not hidden then c ∷ filter (λ d. not (is_removed ops doc d)) cs
        else filter (λ d. not (is_removed ops doc d)) cs)
    go rest true = rest
    go rest false = ap (λ r. cell_of ops doc c ∷ r) rest

ids-map : (ops : List Op) (doc : ℕ) (cs : List Character) → map (λ c. c.id) (map (cell_of ops doc) cs) ≡ map (λ c. c.id) cs
ids-map ops doc [] = refl
ids-map ops doc (c ∷ cs) = ap (λ ids. c.id ∷ ids) (ids-map ops doc cs)

-- the ids of count cells that a reader sees
pub shown_range : (ops : List Op) (doc k count : ℕ) (cells : List Cell) → cells ≡ content_of ops doc
    → map (λ c. c.id) (take count (drop k (shown cells))) ≡ map (λ c. c.id) (take count (drop k (visible ops doc)))
shown_range ops doc k count cells same =
    ap (λ cs. map (λ c. c.id) (take count (drop k (shown cs)))) same
    ∙ (ap (λ cs. map (λ c. c.id) (take count (drop k cs))) (shown-map ops doc (walk ops doc))
    ∙ (ap (λ cs. map (λ c. c.id) (take count cs)) (drop-map (cell_of ops doc) k (visible ops doc))
    ∙ (ap (map (λ c. c.id)) (take-map (cell_of ops doc) count (drop k (visible ops doc)))
    ∙ ids-map ops doc (take count (drop k (visible ops doc))))))

-- what a reader sees of a first cell, and of the others
pub values_cons : (c : Cell) (cs : List Cell) → shown_values (c ∷ cs) ≡ shown_values (c ∷ []) ++ shown_values cs
values_cons c cs = go c.is_removed
  where
    go : (hidden : Bool) → map (λ d. d.value) (if not hidden then c ∷ shown cs else shown cs)
        ≡ map (λ d. d.value) (if not hidden then c ∷ [] else []) ++ map (λ d. d.value) (shown cs)
    go true = refl
    go false = refl

-- one more value was found
pub values_more : (all here rest : List Cell) (found now : List ℕ) (c : Cell) → shown_values all ≡ found ++ shown_values here → here ≡ c ∷ rest
    → now ≡ found ++ shown_values (c ∷ []) → shown_values all ≡ now ++ shown_values rest
values_more all here rest found now c are first more =
    are ∙ (ap (λ cs. found ++ shown_values cs) first ∙ (ap (λ vs. found ++ vs) (values_cons c rest)
    ∙ (sym (append_assoc found (shown_values (c ∷ [])) (shown_values rest)) ∙ ap (λ vs. vs ++ shown_values rest) (sym more))))

-- what a reader sees of cells and of those behind them
pub shown_append : (k cs : List Cell) → shown (k ++ cs) ≡ shown k ++ shown cs
shown_append [] cs = refl
shown_append (c ∷ k) cs = go c.is_removed (shown_append k cs)
  where
    go : (hidden : Bool) → shown (k ++ cs) ≡ shown k ++ shown cs
        → (if not hidden then c ∷ shown (k ++ cs) else shown (k ++ cs)) ≡ (if not hidden then c ∷ shown k else shown k) ++ shown cs
    go true rest = rest
    go false rest = ap (λ r. c ∷ r) rest

-- where a reader sees at most n of the first cells, the n-th is behind them
pub shown_past : (k cs : List Cell) (n : ℕ) → length (shown k) ≤ n → shown_at (k ++ cs) n ≡ shown_at cs (n - length (shown k))
shown_past [] cs n past = ap (shown_at cs) (omega arith)
shown_past (c ∷ k) cs n past = go c.is_removed n (λ m. shown_past k cs m) past
  where
    go : (hidden : Bool) (n : ℕ) → ((m : ℕ) → length (shown k) ≤ m → shown_at (k ++ cs) m ≡ shown_at cs (m - length (shown k)))
        → length (if not hidden then c ∷ shown k else shown k) ≤ n
        → (if hidden then shown_at (k ++ cs) n else if n == 0 then Some c.id else shown_at (k ++ cs) (n - 1))
        ≡ shown_at cs (n - length (if not hidden then c ∷ shown k else shown k))
    go true n rest past = rest n past
    go false zero rest past = absurd (omega arith)
    go false (suc n) rest past =
        let some : (suc n == 0) ≡ false = grind (arith, nat_tests) in
        let back : suc n - 1 ≡ n = omega arith in
        let left : n - length (shown k) ≡ suc n - suc (length (shown k)) = omega arith in
        rw (some, back) (rest n (omega arith) ∙ ap (shown_at cs) left)

-- a first cell that a reader sees, and one that he doesn't
pub shown_first : (c : Cell) (cs : List Cell) → c.is_removed ≡ false → shown_at (c ∷ cs) 0 ≡ Some c.id
shown_first c cs seen = rw seen refl

pub shown_next : (c : Cell) (cs : List Cell) (n : ℕ) → c.is_removed ≡ false → (n == 0) ≡ false → shown_at (c ∷ cs) n ≡ shown_at cs (n - 1)
shown_next c cs n seen some = rw (seen, some) refl

pub shown_skip : (c : Cell) (cs : List Cell) (n : ℕ) → c.is_removed ≡ true → shown_at (c ∷ cs) n ≡ shown_at cs n
shown_skip c cs n gone = rw gone refl

-- there are more cells that a reader sees than stand before one
pub seen_few : (cs : List Cell) (n : ℕ) (id : Id) → shown_at cs n ≡ Some id → n < length (shown cs)
seen_few [] n id is = absurd (cc)
seen_few (c ∷ cs) n id is = go c.is_removed n (λ m here. seen_few cs m id here) is
  where
    go : (hidden : Bool) (n : ℕ) → ((m : ℕ) → shown_at cs m ≡ Some id → m < length (shown cs))
        → (if hidden then shown_at cs n else if n == 0 then Some c.id else shown_at cs (n - 1)) ≡ Some id
        → n < length (if not hidden then c ∷ shown cs else shown cs)
    go true n rest here = rest n here
    go false zero rest here = omega arith
    go false (suc n) rest here =
        let some : (suc n == 0) ≡ false = grind (arith, nat_tests) in
        let back : suc n - 1 ≡ n = omega arith in
        let less = rest n (rw (some, back) at here) in
        omega arith

-- and no more, where there is none
pub seen_none : (cs : List Cell) (n : ℕ) → shown_at cs n ≡ None → length (shown cs) ≤ n
seen_none [] n none = omega arith
seen_none (c ∷ cs) n none = go c.is_removed n (λ m here. seen_none cs m here) none
  where
    go : (hidden : Bool) (n : ℕ) → ((m : ℕ) → shown_at cs m ≡ None → length (shown cs) ≤ m)
        → (if hidden then shown_at cs n else if n == 0 then Some c.id else shown_at cs (n - 1)) ≡ None
        → length (if not hidden then c ∷ shown cs else shown cs) ≤ n
    go true n rest here = rest n here
    go false zero rest here = absurd (cc)
    go false (suc n) rest here =
        let some : (suc n == 0) ≡ false = grind (arith, nat_tests) in
        let back : suc n - 1 ≡ n = omega arith in
        let less = rest n (rw (some, back) at here) in
        omega arith
