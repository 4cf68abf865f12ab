-- The characters that mark operations end just after.
use Rattle.std.proofs.Common.{◌≡◌, ◌||◌, List, [], ◌∷◌, ◌++◌, refl, sym, ◌∙◌, ap, append_assoc, append-nil}
use Rattle.std.specs.List.{list_any}
use Rattle.op_ids.specs.Id.{Id, is_same}
use Rattle.op_model.specs.declared.marking.Marking.{Marking}
use Rattle.op_model.specs.declared.anchor.Anchor.TheVariants.{Before, After}
use Rattle.op_model.specs.declared.anchor.End.{End}
use Rattle.op_model.specs.declared.anchor.End.TheVariants as end
use Rattle.op_model.specs.Made.{is_end_after}
use Rattle.mark_anchors.specs.Ended.{ended_by, ended_of}

-- one more mark operation
pub ended_more : (ms : List Marking) (m : Marking) → ended_of (ms ++ m ∷ []) ≡ ended_of ms ++ ended_by m.end
ended_more [] m = append-nil (ended_by m.end)
ended_more (n ∷ ms) m = ap (λ ids. ended_by n.end ++ ids) (ended_more ms m) ∙ sym (append_assoc (ended_by n.end) (ended_of ms) (ended_by m.end))

one_end : (id : Id) (e : End) (rest : List Id) → (is_end_after id e || list_any (λ o. is_same o id) rest) ≡ list_any (λ o. is_same o id) (ended_by e ++ rest)
one_end id end.OfText rest = refl
one_end id (end.To (Before other)) rest = refl
one_end id (end.To (After other)) rest = refl

-- a mark operation ends just after a character that is one of them, and after no other
pub says_ended : (ms : List Marking) (id : Id) → list_any (λ m. is_end_after id m.end) ms ≡ list_any (λ e. is_same e id) (ended_of ms)
says_ended [] id = refl
says_ended (m ∷ ms) id = ap (λ rest. is_end_after id m.end || rest) (says_ended ms id) ∙ one_end id m.end (ended_of ms)
