-- Tombstones that are passed.
use Rattle.std.proofs.Common.{◌≡◌, ℕ, ◌+◌, ◌≤◌, ◌<◌, ◌⊎◌, inl, inr, true, not, if◌then◌else◌, List, [], ◌∷◌, ◌++◌, length, take, drop, get_or}
use Rattle.std.proofs.Common.{refl, sym, ◌∙◌, ap, append_assoc, append-nil, arith}
use Rattle.std.proofs.Math.ListN.{drop_of_length-le}
use Rattle.std.proofs.lemmas.List.{length-append, take-append-drop}
use Rattle.char_sequence.specs.declared.cell.Cell.{Cell}
use Rattle.char_sequence.specs.declared.place.Place.{Place}
use Rattle.char_sequence.specs.Cells.{shown}
use Rattle.char_sequence.specs.Chunks.{ChunkCells, IsPlace, before, cells_of, from}
use Rattle.char_sequence.specs.Reading.{Hides, Passes}
use Rattle.char_sequence.proofs.PlaceLemmas.{chunks_from, chunks_to, is_place}
use Rattle.char_sequence.proofs.ReadLemmas.{shown_append}

-- none is passed
pub hides_none : (held : ChunkCells) (at : Place) → IsPlace held at.chunk at.at → Hides held at at
hides_none held at place = record {
  place = place;
  between = [];
  hidden = refl;
  first = refl;
  passed = sym (append-nil (before held at.chunk at.at));
}

-- some are passed, and then more
pub hides_more : (held : ChunkCells) (at mid to : Place) → Hides held at mid → Hides held mid to → Hides held at to
hides_more held at mid to one more = record {
  place = more.place;
  between = one.between ++ more.between;
  hidden = shown_append one.between more.between ∙ (ap (λ seen. seen ++ shown more.between) one.hidden ∙ more.hidden);
  first = one.first ∙ (ap (λ cs. one.between ++ cs) more.first ∙ sym (append_assoc one.between more.between (from held to.chunk to.at)));
  passed = more.passed ∙ (ap (λ cs. cs ++ more.between) one.passed ∙ append_assoc (before held at.chunk at.at) one.between more.between);
}

-- one tombstone is passed
pub hides_cell : (held : ChunkCells) (at to : Place) (c : Cell) → Passes held at c to → c.is_removed ≡ true → Hides held at to
hides_cell held at to c passes gone = record {
  place = passes.place;
  between = c ∷ [];
  hidden = ap (λ hidden. if not hidden then c ∷ [] else []) gone;
  first = passes.first;
  passed = passes.passed;
}

-- the rest of a chunk is passed
pub hides_chunk : (held : ChunkCells) (at : Place) → at.chunk + 1 < length held → shown (drop at.at (get_or held at.chunk [])) ≡ []
    → Hides held at (record { chunk = at.chunk + 1; at = 0 })
hides_chunk held at more none =
    let k = get_or held at.chunk [] in
    record {
      place = is_place held (at.chunk + 1) 0 more (omega arith);
      between = drop at.at k;
      hidden = none;
      first = ap (λ cs. drop at.at k ++ cs) (chunks_from held (at.chunk + 1));
      passed = append-nil (cells_of (take (at.chunk + 1) held)) ∙ (chunks_to held at.chunk
          ∙ (ap (λ cs. cells_of (take at.chunk held) ++ cs) (sym (take-append-drop at.at k))
          ∙ sym (append_assoc (cells_of (take at.chunk held)) (take at.at k) (drop at.at k))));
    }

-- no items are none
pub no_items : {A : Type 0} (xs : List A) → length xs ≡ 0 → xs ≡ []
no_items [] none = refl
no_items (x ∷ xs) none = absurd (omega arith)

no_later : {A : Type 0} (xs ys : List A) → xs ++ ys ≡ [] → ys ≡ []
no_later [] ys none = none
no_later (x ∷ xs) ys none = absurd (cc)

-- a reader sees nothing from the end of a chunk on, nor in one that shows nothing
pub rest_hidden : (k : List Cell) (j : ℕ) → (length k ≤ j) ⊎ (length (shown k) ≡ 0) → shown (drop j k) ≡ []
rest_hidden k j (inl end) = ap shown (drop_of_length-le k end)
rest_hidden k j (inr none) =
    no_later (shown (take j k)) (shown (drop j k))
    (sym (shown_append (take j k) (drop j k)) ∙ (ap shown (take-append-drop j k) ∙ no_items (shown k) none))

-- a reader sees the same behind tombstones
pub hidden_shown : (held : ChunkCells) (at to : Place) → Hides held at to → shown (from held at.chunk at.at) ≡ shown (from held to.chunk to.at)
hidden_shown held at to hides =
    ap shown hides.first ∙ (shown_append hides.between (from held to.chunk to.at) ∙ ap (λ seen. seen ++ shown (from held to.chunk to.at)) hides.hidden)

-- and no more stands there
pub no_longer : (held : ChunkCells) (at to : Place) → Hides held at to
    → length (from held to.chunk to.at) ≤ length (from held at.chunk at.at)
no_longer held at to hides =
    let all = ap length hides.first in
    let both = length-append hides.between (from held to.chunk to.at) in
    omega arith
