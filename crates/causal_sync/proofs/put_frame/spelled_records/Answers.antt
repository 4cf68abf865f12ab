use Rattle.std.proofs.Common.{◌≡◌, ◌∷◌, ◌+◌, suc, length, drop, List, ℕ, sym, ap, ◌∙◌, arith}
use Rattle.std.proofs.Math.Seq.{drop-cons}
use Rattle.std.proofs.lemmas.List.{length-append}
use Rattle.piece_codec.specs.Spelling.{spelled_piece}
use Rattle.piece_codec.proofs.Short.{piece_short}
use Rattle.causal_sync.proofs.Spellings.{records_more}
use Rattle.causal_sync.proofs.put_frame.spelled_records.Goals as goal

pub loop-piece-preserved : goal.loop-piece-preserved
loop-piece-preserved c =
    let pieces = c.args.pieces.now in
    let at = c.loop-piece in
    let piece = c.piece-item.result in
    let one : suc at.piece-index ≡ at.piece-index + 1 = omega arith in
    let item : drop at.piece-index pieces ≡ piece ∷ drop (at.piece-index + 1) pieces =
    drop-cons pieces at.piece-index piece c.loop-piece-test.true
    ∙ (ap (λ p. p ∷ drop (suc at.piece-index) pieces) (sym c.piece-item.is) ∙ ap (λ n. piece ∷ drop n pieces) one) in
    let put = c.in_ok-put_piece.ensures.ok in
    record {
      all = rw put (records_more at.records.items piece (drop at.piece-index pieces) (drop (at.piece-index + 1) pieces) item ∙ at.invariant.all);
      within = omega (arith, ap (λ (bytes : List ℕ). length bytes) put, length-append at.records.items (spelled_piece piece), piece_short piece c.every_piece_has_a_spelling.ensures, at.invariant.within);
    }
