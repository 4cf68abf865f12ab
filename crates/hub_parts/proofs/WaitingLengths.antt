-- How many bytes wait.
use Rattle.std.proofs.Common.{◌≡◌, ℕ, ◌+◌, ◌≤◌, nat_lt, List, [], ◌∷◌, length, refl, ap, ◌∙◌, arith, inl, inr}
use Rattle.std.proofs.lemmas.Bool.{cases_Bool, le-ltb, ltb-false}
use Rattle.std.proofs.lemmas.List.{take_all, drop_all, take_at, drop_at}
use Rattle.op_model.specs.declared.op.Op.{Op}
use Rattle.op_model.specs.Actions.{made_by_action, Asked}
use Rattle.op_model.specs.Made.{size_of}
use Rattle.op_model.specs.declared.edit.Change.{Change}
use Rattle.op_model.specs.declared.edit.Change.TheVariants.{Insert, Delete, Mark, Unmark}
use Rattle.op_model.specs.Held.{with_edit, with_merge, ReplicaHeld}
use Rattle.op_model.specs.Records.{record_length, stream_length}
use Rattle.op_model.specs.Replay.{Kept, edited, merged, settlement}
use Rattle.op_model.specs.Waiting.{change_length, changes_length, waiting_length}

no_change : (it : Change) → change_length it [] ≡ 0
no_change (Insert at text) = refl
no_change (Delete at count) = refl
no_change (Mark from to mark) = refl
no_change (Unmark from to key) = refl

-- no operations have no bytes
no_changes : (cs : List Change) → changes_length cs [] ≡ 0
no_changes [] = refl
no_changes (c ∷ cs) =
    let none : List Op = [] in
    let one = ap (change_length c) (take_all (size_of c) none (omega arith)) ∙ no_change c in
    let rest = ap (changes_length cs) (drop_all (size_of c) none (omega arith)) ∙ no_changes cs in
    omega (arith, one, rest)

-- where all is taken, nothing waits
pub none_waiting : (taken : ℕ) (steps : List Kept) (list : List Op) → length list ≤ taken → waiting_length taken steps list ≡ 0
none_waiting taken [] list all = refl
none_waiting taken (edited session edit first count ∷ steps) list all =
    elim (cases_Bool (nat_lt first taken)) [
      | inl below ↦ rw below refl
      | inr above ↦
          let past = ltb-false first taken above in
          let front = ap (waiting_length taken steps) (take_all first list (omega (arith, all, past))) ∙ none_waiting taken steps list all in
          let back = ap (changes_length edit.changes) (drop_all first list (omega (arith, all, past))) ∙ no_changes edit.changes in
          rw above (omega (arith, front, back))
    ]
none_waiting taken (merged peer index ∷ steps) list all =
    elim (cases_Bool (nat_lt index taken)) [
      | inl below ↦ rw below refl
      | inr above ↦
          let past = ltb-false index taken above in
          let front = ap (waiting_length taken steps) (take_all index list (omega (arith, all, past))) ∙ none_waiting taken steps list all in
          let back = ap stream_length (drop_all index list (omega (arith, all, past))) in
          rw above (omega (arith, front, back))
    ]
none_waiting taken (settlement n ∷ steps) list all = none_waiting taken steps list all

-- an action adds the bytes of its changes
pub waits_edit : (h : ReplicaHeld) (session : ℕ) (e : Asked) (begun : ℕ) → begun ≤ length h.list
    → waiting_length begun (with_edit h session e).steps (with_edit h session e).list ≡ waiting_length begun h.steps h.list + changes_length e.changes (made_by_action h.list h.replica e)
waits_edit h session e begun within =
    let more = made_by_action h.list h.replica e in
    rw (le-ltb (length h.list) begun within, take_at h.list more (length h.list) refl, drop_at h.list more (length h.list) refl) refl

-- and so does a merge
pub waits_merge : (h : ReplicaHeld) (peer : ℕ) (op : Op) (begun : ℕ) → begun ≤ length h.list
    → waiting_length begun (with_merge h peer op).steps (with_merge h peer op).list ≡ waiting_length begun h.steps h.list + record_length op
waits_merge h peer op begun within =
    let more = op ∷ [] in
    rw (le-ltb (length h.list) begun within, take_at h.list more (length h.list) refl, drop_at h.list more (length h.list) refl) (omega arith)
