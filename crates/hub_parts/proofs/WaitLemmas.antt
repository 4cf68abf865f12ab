-- The records of what waits, and the bytes of what is taken.
use Rattle.std.proofs.Common.{◌≡◌, ℕ, ◌+◌, ◌≤◌, List, [], ◌++◌, length, drop, take, sym, ap, subst, ◌∙◌, arith, length-append}
use Rattle.std.proofs.lemmas.List.{drop_all, drop-append-le, take_all, take-append-drop, take-append-le}
use Rattle.group_commit.specs.Plan.{newest}
use Rattle.model_laws.proofs.Limits.{stream_length-append}
use Rattle.op_model.specs.declared.op.Op.{Op}
use Rattle.op_model.specs.Actions.{made_by_action, Asked}
use Rattle.op_model.specs.Held.{ReplicaHeld}
use Rattle.op_model.specs.Records.{stream_length}
use Rattle.op_model.specs.Waiting.{changes_length, waiting_length}
use Rattle.piece_codec.proofs.StreamLaws.{both_join, nothing}
use Rattle.hub_parts.specs.Adding.{Adds}
use Rattle.hub_parts.specs.Locked.{Counts, Waits}
use Rattle.hub_parts.proofs.WaitingLengths.{none_waiting}

-- where all is taken, nothing waits
pub none_waits : (h : ReplicaHeld) (begun : ℕ) (records : List ℕ) → begun ≡ length h.list → records ≡ [] → Waits h begun records
none_waits h begun records is none = record {
  spells = rw (is, none, drop_all (length h.list) h.list (omega arith)) (nothing newest);
  long = omega (arith, ap length none, none_waiting begun h.steps h.list (omega (arith, is)));
}

-- and its bytes are those of the whole list
pub all_counted : (h : ReplicaHeld) (begun bytes : ℕ) → begun ≡ length h.list → bytes ≡ stream_length h.list → Counts h begun bytes
all_counted h begun bytes is counted = counted ∙ ap stream_length (sym (take_all begun h.list (omega (arith, is))))

-- what waits where the list has grown
pub waits_grown : (h next : ReplicaHeld) (begun bytes : ℕ) (more : List Op) (was now : List ℕ) → Waits h begun was → begun ≤ length h.list
    → next.list ≡ h.list ++ more → waiting_length begun next.steps next.list ≡ waiting_length begun h.steps h.list + bytes → Adds was now more bytes
    → Waits next begun now
waits_grown h next begun bytes more was now waits within grown length_is adds =
    let all : drop begun next.list ≡ drop begun h.list ++ more = rw grown (drop-append-le begun h.list more within) in
    let was_long = waits.long in
    let more_long = adds.long in
    record {
      spells = rw (all, adds.behind) (both_join newest (drop begun h.list) more was adds.records waits.spells adds.spells);
      long = omega (arith, length_is, was_long, more_long, ap length adds.behind, length-append was adds.records);
    }

-- what is taken stays as it is there
pub counts_grown : (h next : ReplicaHeld) (begun bytes : ℕ) (more : List Op) → Counts h begun bytes → begun ≤ length h.list → next.list ≡ h.list ++ more
    → Counts next begun bytes
counts_grown h next begun bytes more counts within grown = rw (grown, take-append-le begun h.list more within) counts

-- what was put are the action's bytes
pub edit_adds : (h : ReplicaHeld) (e : Asked) (was now : List ℕ) (ops : List Op) → ops ≡ made_by_action h.list h.replica e
    → Adds was now ops (changes_length e.changes ops)
    → Adds was now (made_by_action h.list h.replica e) (changes_length e.changes (made_by_action h.list h.replica e))
edit_adds h e was now ops is adds = subst (λ (made_ops : List Op). Adds was now made_ops (changes_length e.changes made_ops)) is adds

-- the taken operations and the others have the bytes of all
pub bytes_of_both : (n : ℕ) (list : List Op) → stream_length (take n list) + stream_length (drop n list) ≡ stream_length list
bytes_of_both n list = sym (stream_length-append (take n list) (drop n list)) ∙ ap stream_length (take-append-drop n list)
