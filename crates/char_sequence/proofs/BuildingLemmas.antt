-- Cells of which the last ones have no chunk yet.
use Rattle.std.proofs.Common.{◌≡◌, ◌<◌, ◌++◌, ◌∷◌, [], List, length, length-drop, take, drop, sym, ap, append_assoc, append-nil, ◌∙◌, arith}
use Rattle.std.proofs.lemmas.List.{length-take-le, length_push, take-append-drop}
use Rattle.char_sequence.specs.declared.cell.Cell.{Cell}
use Rattle.char_sequence.specs.Building.{IsBuilding}
use Rattle.char_sequence.specs.Chunks.{before, cells_of, from, ChunkCells}
use Rattle.char_sequence.proofs.CuttingLemmas.{last_sized}
use Rattle.char_sequence.proofs.ReplacedLemmas.{cells_of-append}

-- chunks and cells that have none, which are all of these, with room for one cell more
pub record HasRoom (chunks : ChunkCells) (rest all : List Cell) : Type 0 where
  pub building : IsBuilding chunks rest
  pub room : length rest < 512
  pub cells : cells_of chunks ++ rest ≡ all

-- the first cells that have no chunk have as many as a chunk must have
pub first_long : (rest : List Cell) → length rest ≡ 512 → length (take 256 rest) ≡ 256
first_long rest full = length-take-le 256 rest (omega arith)

-- cells behind others that got a chunk
cells_moved : (chunks now : ChunkCells) (front back : List Cell) → now ≡ chunks ++ front ∷ [] → cells_of now ++ back ≡ cells_of chunks ++ (front ++ back)
cells_moved chunks now front back is_now =
    rw (is_now, cells_of-append chunks (front ∷ []), append-nil front) (append_assoc (cells_of chunks) front back)

-- with a chunk of the first of them there is room
pub room_made : (chunks now : ChunkCells) (rest left all : List Cell) → IsBuilding chunks rest → length rest ≡ 512
    → now ≡ chunks ++ take 256 rest ∷ [] → left ≡ drop 256 rest → cells_of chunks ++ rest ≡ all → HasRoom now left all
room_made chunks now rest left all is full is_now is_left same =
    let first = first_long rest full in
    let long = ap length is_left ∙ length-drop 256 rest in
    record {
      building = record {
        sized = last_sized chunks now (take 256 rest) is_now is.sized (omega arith) (omega arith);
        few = omega arith;
        many = λ some. omega arith;
      };
      room = omega arith;
      cells = cells_moved chunks now (take 256 rest) left is_now
          ∙ (ap (λ cs. cells_of chunks ++ cs) (ap (λ cs. take 256 rest ++ cs) is_left ∙ take-append-drop 256 rest) ∙ same);
    }

-- with one cell more behind the others
pub cell_more : (chunks : ChunkCells) (rest now all : List Cell) (c : Cell) → HasRoom chunks rest all → now ≡ rest ++ c ∷ []
    → IsBuilding chunks now × (cells_of chunks ++ now ≡ all ++ c ∷ [])
cell_more chunks rest now all c has is_now =
    let long = ap length is_now ∙ length_push rest c in
    let room = has.room in (
      record {
        sized = has.building.sized;
        few = omega arith;
        many = λ some. let enough = has.building.many some in omega arith;
      },
      ap (λ cs. cells_of chunks ++ cs) is_now ∙ (sym (append_assoc (cells_of chunks) rest (c ∷ [])) ∙ ap (λ cs. cs ++ c ∷ []) has.cells),
    )

-- if there is no chunk, the cells are put at the beginning
pub first_chunks : (chunks now : ChunkCells) (rest all : List Cell) → length chunks ≡ 0 → cells_of now ≡ before chunks 0 0 ++ (rest ++ from chunks 0 0)
    → cells_of chunks ++ rest ≡ all → cells_of now ≡ all
first_chunks [] now rest all none put same = put ∙ (append-nil rest ∙ same)
first_chunks (k ∷ ks) now rest all none put same = absurd (omega arith)

-- else they are the last chunk
pub last_chunk : (chunks now : ChunkCells) (rest all : List Cell) → now ≡ chunks ++ rest ∷ [] → cells_of chunks ++ rest ≡ all → cells_of now ≡ all
last_chunk chunks now rest all put same =
    sym (append-nil (cells_of now)) ∙ (cells_moved chunks now rest [] put ∙ (ap (λ cs. cells_of chunks ++ cs) (append-nil rest) ∙ same))
