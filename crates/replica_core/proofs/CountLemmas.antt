-- A clock has room for each operation of a list within the limits of a store.
use Rattle.std.proofs.Common.{◌≡◌, ◌∙◌, ℕ, ◌+◌, ◌<◌, true, List, [], ◌∷◌, ◌++◌, length, take, drop, get_or, refl, sym, append_assoc, append-nil}
use Rattle.std.proofs.lemmas.Bool.{false≢true}
use Rattle.std.proofs.lemmas.List.{take-append-drop}
use Rattle.op_ids.specs.Clock.{advanced, IsOverfull}
use Rattle.op_ids.proofs.FullLemmas.{IsOverfull-advanced}
use Rattle.op_model.specs.declared.op.Op.{Op}
use Rattle.op_model.specs.Causality.{clock_of, is_within_limits}
use Rattle.model_laws.proofs.Ready.{clock-push}
use Rattle.model_laws.proofs.EditLimits.{is_within_limits-full}
use Rattle.replica_core.proofs.FollowLemmas.{count_more}

-- a clock can count a list within the limits
not_full : (ops : List Op) → is_within_limits ops ≡ true → IsOverfull (clock_of ops) → ⊥
not_full ops within full = false≢true (sym (is_within_limits-full ops full) ∙ within)

-- what is too much stays so with more operations
full_with : (front rest : List Op) → IsOverfull (clock_of front) → IsOverfull (clock_of (front ++ rest))
full_with front [] full = rw append-nil full
full_with front (op ∷ rest) full =
    rw append_assoc at (full_with (front ++ op ∷ []) rest (rw (clock-push front op) (IsOverfull-advanced (clock_of front) op.id.replica full)))

-- there is room for an operation that comes behind others
pub room_behind : (earlier ops : List Op) (i : ℕ) (op : Op) (clock : List (ℕ × ℕ)) → is_within_limits (earlier ++ ops) ≡ true
    → i < length ops → op ≡ get_or ops i op → clock ≡ clock_of (earlier ++ take i ops) → IsOverfull (advanced clock op.id.replica) → ⊥
room_behind earlier ops i op clock within here is_it counted full =
    let more = count_more earlier ops i op clock (advanced clock op.id.replica) here is_it counted refl in
    let all = rw append_assoc at (full_with (earlier ++ take (i + 1) ops) (drop (i + 1) ops) (rw more at full)) in
    not_full (earlier ++ ops) within (rw (take-append-drop (i + 1) ops) at all)
