-- One chunk: a cell that is put in, and a cell that becomes a tombstone.
use Rattle.std.proofs.Common.{◌≡◌, ℕ, zero, suc, ◌+◌, ◌-◌, ◌≤◌, ◌<◌, Bool, true, false, not, List, [], ◌∷◌, ◌++◌, length, length-append, length-set}
use Rattle.std.proofs.Common.{take, drop, get_or, length-drop, get_or-drop, Some, None, refl, sym, ◌∙◌, ap, arith}
use Rattle.std.specs.Prelude.{slice_get, slice_range, slice_set}
use Rattle.std.proofs.Math.Seq.{take-suc}
use Rattle.std.proofs.lemmas.Option.{get_or_from_slice_get, slice_get_within}
use Rattle.std.proofs.lemmas.List.{set-get_or, take-append-drop}
use Rattle.std.proofs.lemmas.List.Elements.{filter-append}
use Rattle.std.proofs.lemmas.List.Sums.{count_by-le-length, length-filter}
use Rattle.char_sequence.specs.declared.cell.Cell.{Cell}
use Rattle.char_sequence.specs.Cells.{shown}
use Rattle.char_sequence.specs.Chunks.{IsChunk}

-- a count of the visible cells is how many there are
pub counted : (cells all : List Cell) (visible : ℕ) → all ≡ cells → visible ≡ length (shown cells) → 0 < length cells → length cells ≤ 512
    → IsChunk all visible
counted cells all visible same many some few = record {
  some = rw same some;
  few = rw same few;
  counted = rw same many;
}

-- what a reader sees of one list behind another
pub shown_both : (xs ys : List Cell) → length (shown (xs ++ ys)) ≡ length (shown xs) + length (shown ys)
shown_both xs ys = ap length (filter-append (λ c. not c.is_removed) xs ys) ∙ length-append (shown xs) (shown ys)

-- cells that are cut in two, counted
cut_count : (cells : List Cell) (j : ℕ) → length (take j cells) + length (drop j cells) ≡ length cells
cut_count cells j = sym (length-append (take j cells) (drop j cells)) ∙ ap length (take-append-drop j cells)

-- and those of them that a reader sees
cut_shown : (cells : List Cell) (j : ℕ) → length (shown (take j cells)) + length (shown (drop j cells)) ≡ length (shown cells)
cut_shown cells j = sym (shown_both (take j cells) (drop j cells)) ∙ ap (λ cs. length (shown cs)) (take-append-drop j cells)

-- a cell that a reader sees, before others
more_shown : (c : Cell) (cs : List Cell) → c.is_removed ≡ false → length (shown (c ∷ cs)) ≡ suc (length (shown cs))
more_shown c cs visible = rw visible refl

-- a tombstone before others
same_shown : (c : Cell) (cs : List Cell) → c.is_removed ≡ true → length (shown (c ∷ cs)) ≡ length (shown cs)
same_shown c cs hidden = rw hidden refl

-- with a visible cell more
pub put_visible : (cells : List Cell) (j visible : ℕ) (c : Cell) → IsChunk cells visible → length cells < 512 → c.is_removed ≡ false
    → IsChunk (take j cells ++ c ∷ drop j cells) (visible + 1)
put_visible cells j visible c is room seen =
    let long = length-append (take j cells) (c ∷ drop j cells) in
    let parts = cut_count cells j in
    let both = shown_both (take j cells) (c ∷ drop j cells) in
    let one = more_shown c (drop j cells) seen in
    let others = cut_shown cells j in
    let many = is.counted in
    record { some = omega arith; few = omega arith; counted = omega arith }

-- with a tombstone more
pub put_hidden : (cells : List Cell) (j visible : ℕ) (c : Cell) → IsChunk cells visible → length cells < 512 → c.is_removed ≡ true
    → IsChunk (take j cells ++ c ∷ drop j cells) visible
put_hidden cells j visible c is room hidden =
    let long = length-append (take j cells) (c ∷ drop j cells) in
    let parts = cut_count cells j in
    let both = shown_both (take j cells) (c ∷ drop j cells) in
    let one = same_shown c (drop j cells) hidden in
    let others = cut_shown cells j in
    let many = is.counted in
    record { some = omega arith; few = omega arith; counted = omega arith }

-- one visible cell less, where that cell becomes a tombstone
less_shown : (cells : List Cell) (j : ℕ) (x : Cell) → j < length cells → x ≡ get_or cells j x → x.is_removed ≡ false
    → length (shown cells) ≡ suc (length (shown (slice_set cells j (record x { is_removed = true }))))
less_shown [] j x inside is_it seen = absurd (omega arith)
less_shown (y ∷ cells) zero x inside is_it seen =
    let visible : y.is_removed ≡ false = rw (sym is_it) seen in
    rw visible refl
less_shown (y ∷ cells) (suc j) x inside is_it seen = go y.is_removed refl (less_shown cells j x (omega arith) is_it seen)
  where
    go : (hidden : Bool) → y.is_removed ≡ hidden
        → length (shown cells) ≡ suc (length (shown (slice_set cells j (record x { is_removed = true }))))
        → length (shown (y ∷ cells)) ≡ suc (length (shown (y ∷ slice_set cells j (record x { is_removed = true }))))
    go true is rest = rw is rest
    go false is rest = rw is (ap suc rest)

-- a visible cell is counted
pub some_shown : (cells : List Cell) (j visible : ℕ) (x : Cell) → IsChunk cells visible → j < length cells → x ≡ get_or cells j x
    → x.is_removed ≡ false → 1 ≤ visible
some_shown cells j visible x is inside is_it seen =
    let less = less_shown cells j x inside is_it seen in
    let many = is.counted in
    omega arith

-- with a visible cell that became a tombstone
pub removed_one : (cells : List Cell) (j visible : ℕ) (x : Cell) → IsChunk cells visible → j < length cells → x ≡ get_or cells j x
    → x.is_removed ≡ false → IsChunk (slice_set cells j (record x { is_removed = true })) (visible - 1)
removed_one cells j visible x is inside is_it seen =
    let less = less_shown cells j x inside is_it seen in
    let long = length-set cells j (record x { is_removed = true }) in
    let many = is.counted in
    let some = is.some in
    let few = is.few in
    record { some = omega arith; few = omega arith; counted = omega arith }

-- a tombstone that becomes one stays as it is
pub hidden_same : (c : Cell) → c.is_removed ≡ true → c ≡ record c { is_removed = true }
hidden_same c hidden = ap (λ b. record c { is_removed = b }) hidden

-- a reader sees at most all cells of a chunk
pub few_shown : (cells : List Cell) (visible : ℕ) → IsChunk cells visible → visible ≤ 512
few_shown cells visible is =
    let most = count_by-le-length (λ (c : Cell). not c.is_removed) cells in
    let same = length-filter (λ (c : Cell). not c.is_removed) cells in
    let many = is.counted in
    let few = is.few in
    omega arith

-- a cell that is put where it stands
pub same_set : (cells : List Cell) (j : ℕ) (c : Cell) → slice_get cells j ≡ Some c → slice_set cells j c ≡ cells
same_set cells j c there = ap (slice_set cells j) (sym (get_or_from_slice_get cells j c c there)) ∙ set-get_or cells j c

-- within a list there is a cell
pub not_past : (cells : List Cell) (j : ℕ) → slice_get cells j ≡ None → j < length cells → ⊥
not_past [] j none within = omega arith
not_past (c ∷ cells) zero none within = cc
not_past (c ∷ cells) (suc j) none within = not_past cells j none (omega arith)

-- one cell more of them is copied
pub copied : (cells : List Cell) (from j : ℕ) (c : Cell) → from ≤ j → slice_get cells j ≡ Some c
    → slice_range cells from (j + 1) ≡ slice_range cells from j ++ c ∷ []
copied cells from j c rising there =
    let within : j < length cells = slice_get_within cells j c there in
    let left = length-drop from cells in
    let one : (j + 1) - from ≡ suc (j - from) = omega arith in
    let at : from + (j - from) ≡ j = omega arith in
    let here : get_or (drop from cells) (j - from) c ≡ c =
    get_or-drop from cells (j - from) c ∙ (ap (λ n. get_or cells n c) at ∙ get_or_from_slice_get cells j c c there) in
    rw one (take-suc (drop from cells) (j - from) c (omega arith) ∙ ap (λ x. take (j - from) (drop from cells) ++ x ∷ []) here)
