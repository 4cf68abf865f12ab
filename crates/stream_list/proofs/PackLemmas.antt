-- A list that is cut into pieces, one operation after another.
use Rattle.std.proofs.Common.{◌≡◌, ℕ, ◌+◌, ◌<◌, ◌≤◌, List, [], ◌∷◌, ◌++◌, length, drop, get_or}
use Rattle.std.proofs.Common.{Option, option_to_list, sym, ap, ◌∙◌, append_assoc}
use Rattle.std.proofs.lemmas.List.{append-nil, drop_all, drop_more}
use Rattle.op_model.specs.declared.op.Op.{Op}
use Rattle.op_pieces.specs.Cutting.{cut, cut_behind, Open}
use Rattle.op_pieces.specs.Pieces.{Run}
use Rattle.piece_codec.specs.Spelling.{spelled_piece}
use Rattle.piece_codec.specs.Stream.{spelled_pieces}
use Rattle.piece_codec.proofs.StreamLaws.{spelled_pieces-append}

-- the records of the pieces that are done, and of what is cut from the open one on
abbrev pub Packs : List Op → List ℕ → Open → List Op → Type 0
Packs list out it rest = spelled_pieces (cut list) ≡ out ++ spelled_pieces (cut_behind it.piece it.last rest)

-- an operation was taken, and the piece that ended before it was written
pub packs_more : (list : List Op) (i : ℕ) (op : Op) (out now : List ℕ) (old new : Open) (ended : Option Run) → i < length list → op ≡ get_or list i op
    → Packs list out old (drop i list)
    → ((rest : List Op) → cut_behind old.piece old.last (op ∷ rest) ≡ option_to_list ended ++ cut_behind new.piece new.last rest)
    → now ≡ out ++ spelled_pieces (option_to_list ended) → Packs list now new (drop (i + 1) list)
packs_more list i op out now old new ended here is packs takes written =
    let rest = drop (i + 1) list in
    let item : drop i list ≡ op ∷ rest = drop_more list i op here ∙ ap (λ o. o ∷ rest) (sym is) in
    packs ∙ ap (λ ops. out ++ spelled_pieces (cut_behind old.piece old.last ops)) item
    ∙ ap (λ ps. out ++ spelled_pieces ps) (takes rest)
    ∙ ap (λ b. out ++ b) (spelled_pieces-append (option_to_list ended) (cut_behind new.piece new.last rest))
    ∙ sym (append_assoc out (spelled_pieces (option_to_list ended)) (spelled_pieces (cut_behind new.piece new.last rest)))
    ∙ ap (λ b. b ++ spelled_pieces (cut_behind new.piece new.last rest)) (sym written)

-- a piece that ended was written
pub one_written : (out now : List ℕ) (p : Run) → now ≡ out ++ spelled_piece p → now ≡ out ++ spelled_pieces (p ∷ [])
one_written out now p is = is ∙ ap (λ b. out ++ b) (sym (append-nil (spelled_piece p)))

-- none ended, so nothing was
pub none_written : (out now : List ℕ) → now ≡ out → now ≡ out ++ spelled_pieces []
none_written out now is = is ∙ sym (append-nil out)

-- behind the last operation the open piece is written
pub packs_all : (list : List Op) (i : ℕ) (out now : List ℕ) (it : Open) → length list ≤ i → Packs list out it (drop i list)
    → now ≡ out ++ spelled_piece it.piece → spelled_pieces (cut list) ≡ now
packs_all list i out now it all packs written =
    packs ∙ ap (λ ops. out ++ spelled_pieces (cut_behind it.piece it.last ops)) (drop_all i list all)
    ∙ ap (λ b. out ++ b) (append-nil (spelled_piece it.piece)) ∙ sym written
