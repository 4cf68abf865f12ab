-- Pieces that operations are cut into make them up, are pieces, and are as long as they can be.
use Rattle.std.proofs.Common.{◌≡◌, true, false, inl, inr, List, [], ◌∷◌, ◌++◌, ap, refl, sym, ◌∙◌, append_assoc}
use Rattle.std.specs.List.{list_all}
use Rattle.std.proofs.lemmas.Bool.{and_parts, cases_Bool}
use Rattle.op_model.specs.declared.op.Op.{Op}
use Rattle.op_pieces.specs.Pieces.{Run, next_typed, ops_of, joined, end_of, is_piece, ArePieces, single, longer}
use Rattle.op_pieces.specs.Cutting.{value_of, goes_on, cut_behind, cut, is_valid, may_go_on, are_longest}
use Rattle.op_pieces.proofs.PieceLemmas.{last_more, typed_more, next_is, grown_piece}

-- the piece with one more ends with it, and has its operation behind the others
grown_end : (p : Run) (last op : Op) → end_of p ≡ last → goes_on p last op ≡ true → end_of (longer p (value_of op.body)) ≡ op
grown_end p last op end on =
    last_more p.first p.others (value_of op.body) ∙ ap (λ o. next_typed o (value_of op.body)) end ∙ sym (next_is last op (and_parts _ _ on).1)

grown_ops : (p : Run) (last op : Op) → end_of p ≡ last → goes_on p last op ≡ true → ops_of (longer p (value_of op.body)) ≡ ops_of p ++ op ∷ []
grown_ops p last op end on =
    ap (λ ops. p.first ∷ ops) (typed_more p.first p.others (value_of op.body))
    ∙ ap (λ o. ops_of p ++ o ∷ []) (ap (λ o. next_typed o (value_of op.body)) end ∙ sym (next_is last op (and_parts _ _ on).1))

behind_joined : (p : Run) (last : Op) (ops : List Op) → end_of p ≡ last → joined (cut_behind p last ops) ≡ ops_of p ++ ops
behind_joined p last [] end = refl
behind_joined p last (op ∷ ops) end =
    elim (cases_Bool (goes_on p last op)) [
      | inl on ↦
          rw on (behind_joined (longer p (value_of op.body)) op ops (grown_end p last op end on)
          ∙ ap (λ front. front ++ ops) (grown_ops p last op end on) ∙ append_assoc (ops_of p) (op ∷ []) ops)
      | inr off ↦ rw off (ap (λ rest. ops_of p ++ rest) (behind_joined (single op) op ops refl))
    ]

pub cut_joined : (ops : List Op) → joined (cut ops) ≡ ops
cut_joined [] = refl
cut_joined (op ∷ ops) = behind_joined (single op) op ops refl

behind_pieces : (p : Run) (last : Op) (ops : List Op) → end_of p ≡ last → is_piece p ≡ true → list_all is_valid ops ≡ true
    → ArePieces (cut_behind p last ops)
behind_pieces p last [] end piece valid = (piece, tt)
behind_pieces p last (op ∷ ops) end piece valid =
    let each = and_parts (is_valid op) (list_all is_valid ops) valid in
    elim (cases_Bool (goes_on p last op)) [
      | inl on ↦
          rw on (behind_pieces (longer p (value_of op.body)) op ops (grown_end p last op end on) (grown_piece p last op end piece each.0 on) each.1)
      | inr off ↦ rw off (piece, behind_pieces (single op) op ops refl refl each.1)
    ]

pub cut_pieces : (ops : List Op) → list_all is_valid ops ≡ true → ArePieces (cut ops)
cut_pieces [] valid = tt
cut_pieces (op ∷ ops) valid = behind_pieces (single op) op ops refl refl (and_parts (is_valid op) (list_all is_valid ops) valid).1

-- what is cut begins with the open piece's first operation
first_of_cut : (p q : Run) (last other : Op) (ops : List Op) → may_go_on p (cut_behind q other ops) ≡ goes_on p (end_of p) q.first
first_of_cut p q last other [] = refl
first_of_cut p q last other (op ∷ ops) =
    elim (cases_Bool (goes_on q other op)) [
      | inl on ↦ rw on (first_of_cut p (longer q (value_of op.body)) last op ops)
      | inr off ↦ rw off refl
    ]

behind_longest : (p : Run) (last : Op) (ops : List Op) → end_of p ≡ last → are_longest (cut_behind p last ops) ≡ true
behind_longest p last [] end = refl
behind_longest p last (op ∷ ops) end =
    elim (cases_Bool (goes_on p last op)) [
      | inl on ↦ rw on (behind_longest (longer p (value_of op.body)) op ops (grown_end p last op end on))
      | inr off ↦
          let ends : may_go_on p (cut_behind (single op) op ops) ≡ false = first_of_cut p (single op) last op ops ∙ ap (λ o. goes_on p o op) end ∙ off in
          rw off (rw ends (behind_longest (single op) op ops refl))
    ]

pub cut_longest : (ops : List Op) → are_longest (cut ops) ≡ true
cut_longest [] = refl
cut_longest (op ∷ ops) = behind_longest (single op) op ops refl

-- the program's loop: the next operation goes into the open piece, or begins another one
pub piece_grows : (ops rest behind : List Op) (pieces : List Run) (p : Run) (last op : Op) → cut ops ≡ pieces ++ cut_behind p last rest
    → rest ≡ op ∷ behind → goes_on p last op ≡ true → cut ops ≡ pieces ++ cut_behind (longer p (value_of op.body)) op behind
piece_grows ops rest behind pieces p last op is item on = is ∙ ap (λ more. pieces ++ cut_behind p last more) item ∙ rw on refl

pub piece_ends : (ops rest behind : List Op) (pieces : List Run) (p : Run) (last op : Op) → cut ops ≡ pieces ++ cut_behind p last rest
    → rest ≡ op ∷ behind → goes_on p last op ≡ false → cut ops ≡ (pieces ++ p ∷ []) ++ cut_behind (single op) op behind
piece_ends ops rest behind pieces p last op is item off =
    is ∙ ap (λ more. pieces ++ cut_behind p last more) item ∙ rw off (sym (append_assoc pieces (p ∷ []) (cut_behind (single op) op behind)))

-- and ends with it
pub open_grows : (p : Run) (last op : Op) → end_of p ≡ last → goes_on p last op ≡ true → end_of (longer p (value_of op.body)) ≡ op
open_grows p last op end on = grown_end p last op end on
