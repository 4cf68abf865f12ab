-- The places between the characters that a reader sees.
use Rattle.std.proofs.Common.{◌≡◌, ℕ, zero, suc, ◌+◌, ◌-◌, ◌≤◌, ◌<◌, false, List, [], length, Option, Some, None, refl, sym, ◌∙◌, ap, append-nil, arith}
use Rattle.std.specs.Prelude.{is_some, nat_le}
use Rattle.std.specs.Option.{IfSome, MatchOption}
use Rattle.std.proofs.lemmas.Bool.{le-leb}
use Rattle.std.proofs.lemmas.Bool.Decides.{nat_tests}
use Rattle.std.proofs.lemmas.List.{length-map}
use Rattle.op_model.specs.declared.op.Op.{Op}
use Rattle.op_model.specs.Made.{id_before}
use Rattle.op_model.specs.Text.{visible}
use Rattle.op_model.specs.Walk.{walk}
use Rattle.char_sequence.specs.declared.cell.Cell.{Cell}
use Rattle.char_sequence.specs.declared.gap.Gap.{Gap}
use Rattle.char_sequence.specs.declared.gap.Seen.{Seen}
use Rattle.char_sequence.specs.Cells.{behind_shown, shown, shown_at}
use Rattle.char_sequence.specs.Chunks.{ChunkCells, cells_of}
use Rattle.char_sequence.specs.Content.{cell_of, content_of}
use Rattle.char_sequence.specs.Gaps.{IsGap, IsSeen, shown_before}
use Rattle.char_sequence.proofs.BehindLemmas.{behind_none, behind_past}
use Rattle.char_sequence.proofs.ReadLemmas.{seen_few, shown-map, shown_at-map}
use Rattle.char_sequence.proofs.StartLemmas.{from_start, start_place}

-- the gap at the beginning
pub first_gap : (held : ChunkCells) (count : ℕ) → count ≡ 0 → IsGap held (record { count = count; before = None; place = record { chunk = 0; at = 0 } })
first_gap held count none = rw none (record { place = start_place held; rest = from_start held ∙ sym (behind_none (cells_of held)); before = refl })

-- the gap behind a cell that a reader sees
pub gap_behind : (held : ChunkCells) (count : ℕ) (seen : Seen) → 0 < count → IsSeen held 0 0 (count - 1) seen
    → (count ≤ length (shown (cells_of held))) × IsGap held (record { count = count; before = Some seen.id; place = seen.behind })
gap_behind held zero seen some is = absurd (omega arith)
gap_behind held (suc k) seen some is =
    let back : suc k - 1 ≡ k = omega arith in
    let at : shown_at (cells_of held) k ≡ Some seen.id =
    ap (shown_at (cells_of held)) (sym back) ∙ (ap (λ cs. shown_at cs (suc k - 1)) (sym (from_start held)) ∙ is.id) in
    let few = seen_few (cells_of held) k seen.id at in (
      omega arith,
      record {
        place = is.place;
        rest = is.rest ∙ (ap (λ cs. behind_shown cs (suc k - 1 + 1)) (from_start held) ∙ ap (behind_shown (cells_of held)) (omega arith));
        before = sym at;
      },
    )

-- nothing stands behind more cells than a reader sees
pub behind_all : (cs : List Cell) (n : ℕ) → length (shown cs) < n → behind_shown cs n ≡ []
behind_all cs n past = ap (λ ds. behind_shown ds n) (sym (append-nil cs)) ∙ behind_past cs [] n past

-- a reader sees as many characters of a document as of its content
pub many_shown : (ops : List Op) (doc : ℕ) (cells : List Cell) → cells ≡ content_of ops doc → length (shown cells) ≡ length (visible ops doc)
many_shown ops doc cells same =
    ap (λ cs. length (shown cs)) same ∙ (ap length (shown-map ops doc (walk ops doc)) ∙ length-map (visible ops doc) (cell_of ops doc))

-- there is a gap behind as many as there are
pub gap_there : (ops : List Op) (doc count : ℕ) (held : ChunkCells) (found : Option Gap) → cells_of held ≡ content_of ops doc
    → MatchOption found (length (shown (cells_of held)) < count) (λ gap. (count ≤ length (shown (cells_of held))) × (gap.count ≡ count) × IsGap held gap)
    → is_some found ≡ nat_le count (length (visible ops doc))
gap_there ops doc count held None same fewer =
    let many = many_shown ops doc (cells_of held) same in
    sym (not_at_most count (length (visible ops doc)) (omega arith))
  where
    not_at_most : (a b : ℕ) → b < a → nat_le a b ≡ false
    not_at_most a b less = grind (arith, nat_tests)
gap_there ops doc count held (Some gap) same is =
    let many = many_shown ops doc (cells_of held) same in
    let few = is.0 in
    sym (le-leb count (length (visible ops doc)) (omega arith))

-- what is found is a gap
pub gap_found : (count : ℕ) (held : ChunkCells) (found : Option Gap)
    → MatchOption found (length (shown (cells_of held)) < count) (λ gap. (count ≤ length (shown (cells_of held))) × (gap.count ≡ count) × IsGap held gap)
    → IfSome found (λ gap. (gap.count ≡ count) × IsGap held gap)
gap_found count held None fewer = tt
gap_found count held (Some gap) is = (is.1, is.2)

-- the character before a gap
pub before_gap : (ops : List Op) (doc : ℕ) (held : ChunkCells) (gap : Gap) → cells_of held ≡ content_of ops doc → IsGap held gap
    → gap.before ≡ id_before (visible ops doc) gap.count
before_gap ops doc held gap same is =
    is.before ∙ (ap (λ cs. shown_before cs gap.count) same ∙ go gap.count)
  where
    go : (n : ℕ) → shown_before (content_of ops doc) n ≡ id_before (visible ops doc) n
    go zero = refl
    go (suc k) = shown_at-map ops doc (walk ops doc) k
