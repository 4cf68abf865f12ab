-- The spellings of frames, and how long they are.
use Rattle.std.proofs.Common.{◌≡◌, ℕ, ◌+◌, ◌*◌, ◌<◌, ◌≤◌, true, List, [], ◌∷◌, ◌++◌, length, refl, sym, ap, ◌∙◌, append_assoc, arith}
use Rattle.std.specs.Int.{w16, w32, w128}
use Rattle.std.proofs.lemmas.List.{length-append}
use Rattle.op_pieces.specs.Pieces.{Run}
use Rattle.change_codec.specs.declared.format.Format.{Format}
use Rattle.change_codec.specs.Spelling.{number_bytes, deps_bytes}
use Rattle.change_codec.proofs.Lengths.{length-bytes16, length-bytes32, length-bytes128, length-deps}
use Rattle.piece_codec.specs.Spelling.{spelled_piece}
use Rattle.piece_codec.specs.Stream.{spelled_pieces, ArePiecesOf}
use Rattle.piece_codec.proofs.Short.{piece_short}
use Rattle.causal_sync.specs.declared.heard.Heard.TheVariants.{Hello, Have, Ops, Bye}
use Rattle.causal_sync.specs.Frames.{content_bytes, frame_bytes}

pub length-hello : (replica : ℕ) → length (content_bytes (Hello replica)) ≡ 19
unfolding content_bytes
length-hello replica = omega (arith, length-append (number_bytes w16 3) (number_bytes w128 replica), length-bytes16 3, length-bytes128 replica)

pub length-have : (clock : List (ℕ × ℕ)) → length (content_bytes (Have clock)) ≡ 2 + 24 * length clock
unfolding content_bytes
length-have clock = omega (arith, length-deps clock)

pub length-ops : (ps : List Run) → length (content_bytes (Ops ps)) ≡ 3 + length (spelled_pieces ps)
unfolding content_bytes
length-ops ps = omega (arith, length-append (number_bytes w16 (length ps)) (spelled_pieces ps), length-bytes16 (length ps))

pub length-bye : length (content_bytes Bye) ≡ 1
unfolding content_bytes
length-bye = refl

-- the parts of a HELLO
pub hello_spelled : (replica : ℕ) → (number_bytes w32 19 ++ (1 ∷ 0 ∷ 3 ∷ [])) ++ number_bytes w128 replica ≡ frame_bytes (Hello replica)
unfolding frame_bytes content_bytes number_bytes
hello_spelled replica = refl

-- the parts of a HAVE
pub have_spelled : (clock : List (ℕ × ℕ)) (n : ℕ) → n ≡ length clock → (number_bytes w32 (2 + 24 * n) ++ (2 ∷ [])) ++ deps_bytes clock ≡ frame_bytes (Have clock)
unfolding frame_bytes content_bytes
have_spelled clock n is =
    let size : 2 + 24 * n ≡ length (2 ∷ deps_bytes clock) = omega (arith, is, length-deps clock) in
    append_assoc (number_bytes w32 (2 + 24 * n)) (2 ∷ []) (deps_bytes clock) ∙ ap (λ (k : ℕ). number_bytes w32 k ++ (2 ∷ deps_bytes clock)) size

-- the content of an OPS
ops_content : (ps : List Run) → 3 ∷ (number_bytes w16 (length ps) ++ spelled_pieces ps) ≡ content_bytes (Ops ps)
unfolding content_bytes
ops_content ps = refl

-- the parts of an OPS
pub ops_spelled : (ps : List Run) (n : ℕ) → n ≡ length (spelled_pieces ps)
    → ((number_bytes w32 (3 + n) ++ (3 ∷ [])) ++ number_bytes w16 (length ps)) ++ spelled_pieces ps ≡ frame_bytes (Ops ps)
unfolding frame_bytes
ops_spelled ps n is =
    let size : 3 + n ≡ length (content_bytes (Ops ps)) = omega (arith, is, length-ops ps) in
    append_assoc (number_bytes w32 (3 + n) ++ (3 ∷ [])) (number_bytes w16 (length ps)) (spelled_pieces ps)
    ∙ append_assoc (number_bytes w32 (3 + n)) (3 ∷ []) (number_bytes w16 (length ps) ++ spelled_pieces ps)
    ∙ ap (λ (x : List ℕ). number_bytes w32 (3 + n) ++ x) (ops_content ps) ∙ ap (λ (k : ℕ). number_bytes w32 k ++ content_bytes (Ops ps)) size

-- ---- how long the records of pieces are

-- 64 records take few bytes
pub few_bytes : (f : Format) (ps : List Run) → ArePiecesOf f ps → length (spelled_pieces ps) ≤ 1511 * length ps
few_bytes f [] are = omega arith
few_bytes f (p ∷ ps) are = omega (arith, length-append (spelled_piece p) (spelled_pieces ps), piece_short p are.0, few_bytes f ps are.2)

-- records so far, with one more
pub records_more : (bytes : List ℕ) (p : Run) (rest others : List Run) → rest ≡ p ∷ others → (bytes ++ spelled_piece p) ++ spelled_pieces others ≡ bytes ++ spelled_pieces rest
records_more bytes p rest others is = append_assoc bytes (spelled_piece p) (spelled_pieces others) ∙ ap (λ (ps : List Run). bytes ++ spelled_pieces ps) (sym is)
