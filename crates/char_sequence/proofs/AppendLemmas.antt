-- Chunks with one more behind all others.
use Rattle.std.proofs.Common.{◌≡◌, ℕ, ◌+◌, ◌≤◌, ◌<◌, ◌^◌, List, [], ◌∷◌, ◌++◌, length, refl, ◌∙◌, ap, arith}
use Rattle.std.proofs.lemmas.List.{length_push}
use Rattle.char_sequence.specs.declared.cell.Cell.{Cell}
use Rattle.char_sequence.specs.Chunks.{AreChunks, AreSized, ChunkCells}
use Rattle.char_sequence.specs.Sums.{seen, seen_in}
use Rattle.char_sequence.proofs.CuttingLemmas.{last_sized}
use Rattle.char_sequence.proofs.ReplacedLemmas.{are_halved}
use Rattle.char_sequence.proofs.SumLemmas.{counted_pushed, fits_run}

-- what chunks keep with a chunk of from 256 to 512 cells behind them
pub appended : (held now : ChunkCells) (k cells : List Cell) (shown more : ℕ) → now ≡ held ++ k ∷ [] → k ≡ cells → AreSized 256 held
    → 256 ≤ length cells → length cells ≤ 512 → length held < 2 ^ 54 → shown ≡ seen held → more ≡ seen_in k
    → AreChunks now × (length now ≤ 2 ^ 54) × (shown + more ≡ seen now)
appended held now k cells shown more is_now own sized many few room all counted =
    let size = ap length own in
    let long = ap length is_now ∙ length_push held k in (
      are_halved now (last_sized held now k is_now sized (omega arith) (omega arith)),
      omega arith,
      counted_pushed held now k shown more is_now all counted,
    )

-- so what a reader sees of them can be counted
pub fits_appended : (held : ChunkCells) (k cells : List Cell) (shown more : ℕ) → k ≡ cells → AreSized 256 held
    → 256 ≤ length cells → length cells ≤ 512 → length held < 2 ^ 54 → shown ≡ seen held → more ≡ seen_in k → shown + more < 2 ^ 64
fits_appended held k cells shown more own sized many few room all counted =
    let with_it = appended held (held ++ k ∷ []) k cells shown more refl own sized many few room all counted in
    fits_run (held ++ k ∷ []) shown more with_it.0.sized with_it.1 with_it.2
