-- Calls of the locked part are calls of the hub.
use Rattle.std.proofs.Common.{◌≡◌, ℕ, ◌+◌, Bool, true, false, nat_le, List, refl, sym, ap, ◌∙◌, arith, if◌then◌else◌}
use Rattle.std.proofs.Common.{Option, inl, inr}
use Rattle.std.proofs.lemmas.Bool.{cases_Bool}
use Rattle.disk_trait.specs.Calls.{IsLawful}
use Rattle.disk_trait.specs.declared.facts.DiskFacts.{Ghosts}
use Rattle.op_model.specs.declared.op.Op.{Op}
use Rattle.op_model.specs.Actions.{Asked}
use Rattle.op_model.specs.Machine.{Commit, State, edit, merge, ack, tell, have, Ticket, ticket, applied, known, early, acknowledged, operations, clock}
use Rattle.op_model.specs.Telling.{reach}
use Rattle.op_model.specs.Machine.{refused, has_record_room, edit_length, with_room, edit_answer, new_edit_alone, known_ticket, unless_known, after_edit}
use Rattle.op_model.specs.Machine.{merge_answer, merge_alone, taken_in, IsRefusal}
use Rattle.op_model.specs.Machine.{EditStep, MergeStep, AckStep, TellStep, HaveStep}
use Rattle.op_model.specs.Records.{record_length}
use Rattle.op_model.specs.Waiting.{waiting_length}
use Rattle.op_model.specs.Held.{settled_list, with_acked, with_edit, with_merge, with_told, ReplicaHeld}
use Rattle.replica_core.specs.Merging.{after_merge, answer_of}
use Rattle.replica_core.specs.declared.merged.Merged.{Merged}
use Rattle.replica_core.specs.declared.merged.Merged.TheVariants as merged_as
use Rattle.hub_parts.specs.Locked.{IsLocked, LockedHeld}
use Rattle.hub_parts.specs.Locked.{commit_of as locked_commit, state_of as locked_state}
use Rattle.hub_parts.specs.Flusher.{IsFlusher, FlusherHeld}
use Rattle.hub_parts.specs.Fitting.{FitTogether, side_of}
use Rattle.root_slots.specs.Root.{version_of}
use Rattle.locked_replica.specs.Calls.{IsCall}
use Rattle.locked_replica.specs.Hub.{commit_of, state_of}
use Rattle.locked_replica.proofs.PartsFit.{hub_fits, hub_of, locked_taken, taken_begun}
use Rattle.locked_replica.proofs.QuietCalls.{quiet_call, counts_same}

-- a state of this replica, whatever its device and its commit
abbrev at : ReplicaHeld → Bool → Bool → ℕ → Option Commit → State
at h told failed version commit = record {
  held = h;
  version = version;
  failed = failed;
  failure_told = told;
  commit = commit;
}

-- whether there is room depends on the commit only by what was taken
same_room : (h : ReplicaHeld) (told f f' : Bool) (v v' : ℕ) (c c' : Option Commit) (bytes : ℕ) → taken_in c h.settled ≡ taken_in c' h.settled
    → has_record_room (at h told f v c) bytes ≡ has_record_room (at h told f' v' c') bytes
same_room h told f f' v v' c c' bytes same = ap (λ n. nat_le (waiting_length n h.steps h.list + bytes) 1048576) same

-- and so do the answers to an edit and to a merge
same_edit : (h : ReplicaHeld) (told f f' : Bool) (v v' : ℕ) (c c' : Option Commit) (e : Asked) → taken_in c h.settled ≡ taken_in c' h.settled
    → edit_answer (at h told f v c) e ≡ edit_answer (at h told f' v' c') e
same_edit h told f f' v v' c c' e same =
    ap (λ room. unless_known (known_ticket h e) (if told then refused 9 else with_room room (new_edit_alone h e)))
    (same_room h told f f' v v' c c' (edit_length h e) same)

same_merge : (h : ReplicaHeld) (told f f' : Bool) (v v' : ℕ) (c c' : Option Commit) (op : Op) → taken_in c h.settled ≡ taken_in c' h.settled
    → merge_answer (at h told f v c) op ≡ merge_answer (at h told f' v' c') op
same_merge h told f f' v v' c c' op same =
    ap (λ room. if told then refused 9 else with_room room (merge_alone h op))
    (same_room h told f f' v v' c c' (record_length op) same)

module _ {D : Type 0} (facts : Ghosts D) (l : LockedHeld) (f : FlusherHeld D) (lawful : facts.tells f.store.disk → IsLawful facts f.store.disk)
    (locked : IsLocked l) (flusher : IsFlusher facts f) (meet : FitTogether l (side_of f)) where
  taken : taken_in (commit_of l.replica f.store) l.replica.settled ≡ taken_in (locked_commit l) l.replica.settled
  taken = taken_begun facts l f locked flusher meet ∙ sym (locked_taken l locked)

  -- so the answers to an edit and to a merge are the locked part's
  edit_due : (e : Asked) → edit_answer (state_of (hub_of l f)) e ≡ edit_answer (locked_state l) e
  edit_due e =
      same_edit l.replica l.failure_told f.store.failed false (version_of f.store.current.body) 0 (commit_of l.replica f.store) (locked_commit l) e taken

  merge_due : (op : Op) → merge_answer (state_of (hub_of l f)) op ≡ merge_answer (locked_state l) op
  merge_due op =
      same_merge l.replica l.failure_told f.store.failed false (version_of f.store.current.body) 0 (commit_of l.replica f.store) (locked_commit l) op taken

  -- an edit that is answered with a ticket
  pub call_edit : (session : ℕ) (e : Asked) (t : Ticket) (next : LockedHeld) → IsLocked next → FitTogether next (side_of f)
      → EditStep (locked_state l) session e (ticket t) (locked_state next)
      → next ≡ record l { replica = after_edit t l.replica session e } → IsCall facts (edit session e) (ticket t) (hub_of l f) (hub_of next f)
  call_edit session e t next locked' meet' (answer, left) is =
      let due = edit_due e ∙ answer in
      elim (cases_Bool t.known) [
        | inl before ↦
            let same : next ≡ l = rw before at is in
            rw same (quiet_call facts (edit session e) (ticket t) (hub_of l f) (hub_of l f) refl lawful (hub_fits facts l f locked flusher meet)
            (due, rw before refl) (omega arith) refl (counts_same facts _ f.store refl refl) refl)
        | inr new ↦
            let next' : LockedHeld = record l { replica = with_edit l.replica session e } in
            let made_is : next ≡ next' = rw new at is in
            let fits = hub_fits facts next' f (rw made_is at locked') flusher (rw made_is at meet') in
            rw made_is (quiet_call facts (edit session e) (ticket t) (hub_of l f) (hub_of next' f) refl lawful fits (due, rw new refl)
            (omega arith) refl (counts_same facts _ f.store refl refl) refl)
      ]

  -- an edit that is refused
  pub call_edit_refused : (session : ℕ) (e : Asked) (n : ℕ) (next : LockedHeld) → EditStep (locked_state l) session e (refused n) (locked_state next)
      → next ≡ l → IsCall facts (edit session e) (refused n) (hub_of l f) (hub_of next f)
  call_edit_refused session e n next (answer, left) is =
      let due : IsRefusal n (edit_answer (state_of (hub_of l f)) e) = rw (edit_due e) answer in
      rw is (quiet_call facts (edit session e) (refused n) (hub_of l f) (hub_of l f) refl lawful (hub_fits facts l f locked flusher meet) (due, refl)
      (omega arith) refl (counts_same facts _ f.store refl refl) refl)

  -- a merge that isn't refused
  pub call_merge : (peer : ℕ) (op : Op) (m : Merged) (next : LockedHeld) → IsLocked next → FitTogether next (side_of f)
      → MergeStep (locked_state l) peer op (answer_of m) (locked_state next)
      → next ≡ record l { replica = after_merge m l.replica peer op } → IsCall facts (merge peer op) (answer_of m) (hub_of l f) (hub_of next f)
  call_merge peer op merged_as.Applied next locked' meet' (answer, left) is =
      let next' : LockedHeld = record l { replica = with_merge l.replica peer op } in
      let fits = hub_fits facts next' f (rw is at locked') flusher (rw is at meet') in
      let due = merge_due op ∙ answer in
      rw is (quiet_call facts (merge peer op) applied (hub_of l f) (hub_of next' f) refl lawful fits (due, refl)
      (omega arith) refl (counts_same facts _ f.store refl refl) refl)
  call_merge peer op merged_as.Known next locked' meet' (answer, left) is =
      let due = merge_due op ∙ answer in
      rw is (quiet_call facts (merge peer op) known (hub_of l f) (hub_of l f) refl lawful (hub_fits facts l f locked flusher meet) (due, refl)
      (omega arith) refl (counts_same facts _ f.store refl refl) refl)
  call_merge peer op merged_as.Early next locked' meet' (answer, left) is =
      let due = merge_due op ∙ answer in
      rw is (quiet_call facts (merge peer op) early (hub_of l f) (hub_of l f) refl lawful (hub_fits facts l f locked flusher meet) (due, refl)
      (omega arith) refl (counts_same facts _ f.store refl refl) refl)

  -- a merge that is refused
  pub call_merge_refused : (peer : ℕ) (op : Op) (n : ℕ) (next : LockedHeld) → MergeStep (locked_state l) peer op (refused n) (locked_state next)
      → next ≡ l → IsCall facts (merge peer op) (refused n) (hub_of l f) (hub_of next f)
  call_merge_refused peer op n next (answer, left) is =
      let due : IsRefusal n (merge_answer (state_of (hub_of l f)) op) = rw (merge_due op) answer in
      rw is (quiet_call facts (merge peer op) (refused n) (hub_of l f) (hub_of l f) refl lawful (hub_fits facts l f locked flusher meet) (due, refl)
      (omega arith) refl (counts_same facts _ f.store refl refl) refl)

  -- an acknowledgement, also of a hub whose device failed
  pub call_ack : (t : Ticket) (b : Bool) (next : LockedHeld) → IsLocked next → FitTogether next (side_of f)
      → AckStep (locked_state l) t (acknowledged b) (locked_state next)
      → next ≡ (if b then record l { replica = with_acked l.replica t.end } else l) → IsCall facts (ack t) (acknowledged b) (hub_of l f) (hub_of next f)
  call_ack t true next locked' meet' (settled, left) is =
      let next' : LockedHeld = record l { replica = with_acked l.replica t.end } in
      let fits = hub_fits facts next' f (rw is at locked') flusher (rw is at meet') in
      rw is (quiet_call facts (ack t) (acknowledged true) (hub_of l f) (hub_of next' f) refl lawful fits (settled, refl)
      (omega arith) refl (counts_same facts _ f.store refl refl) refl)
  call_ack t false next locked' meet' (unsettled, left) is =
      rw is (quiet_call facts (ack t) (acknowledged false) (hub_of l f) (hub_of l f) refl lawful (hub_fits facts l f locked flusher meet) (unsettled, refl)
      (omega arith) refl (counts_same facts _ f.store refl refl) refl)

  -- a telling of operations
  pub call_tell : (c : List (ℕ × ℕ)) (ops : List Op) (next : LockedHeld) → IsLocked next → FitTogether next (side_of f)
      → TellStep (locked_state l) c (operations ops) (locked_state next)
      → next ≡ record l { replica = with_told l.replica (reach c (settled_list l.replica)) }
      → IsCall facts (tell c) (operations ops) (hub_of l f) (hub_of next f)
  call_tell c ops next locked' meet' (are, left) is =
      let next' : LockedHeld = record l { replica = with_told l.replica (reach c (settled_list l.replica)) } in
      let fits = hub_fits facts next' f (rw is at locked') flusher (rw is at meet') in
      rw is (quiet_call facts (tell c) (operations ops) (hub_of l f) (hub_of next' f) refl lawful fits (are, refl)
      (omega arith) refl (counts_same facts _ f.store refl refl) refl)

  -- one that finds no memory
  pub call_tell_refused : (c : List (ℕ × ℕ)) (n : ℕ) (next : LockedHeld) → TellStep (locked_state l) c (refused n) (locked_state next) → next ≡ l
      → IsCall facts (tell c) (refused n) (hub_of l f) (hub_of next f)
  call_tell_refused c n next (memory, left) is =
      rw is (quiet_call facts (tell c) (refused n) (hub_of l f) (hub_of l f) refl lawful (hub_fits facts l f locked flusher meet) (memory, refl)
      (omega arith) refl (counts_same facts _ f.store refl refl) refl)

  -- a telling of the clock
  pub call_have : (c : List (ℕ × ℕ)) (next : LockedHeld) → IsLocked next → FitTogether next (side_of f)
      → HaveStep (locked_state l) (clock c) (locked_state next) → next ≡ record l { replica = with_told l.replica l.replica.settled }
      → IsCall facts have (clock c) (hub_of l f) (hub_of next f)
  call_have c next locked' meet' (is_clock, left) is =
      let next' : LockedHeld = record l { replica = with_told l.replica l.replica.settled } in
      let fits = hub_fits facts next' f (rw is at locked') flusher (rw is at meet') in
      rw is (quiet_call facts have (clock c) (hub_of l f) (hub_of next' f) refl lawful fits (is_clock, refl)
      (omega arith) refl (counts_same facts _ f.store refl refl) refl)

  pub call_have_refused : (n : ℕ) (next : LockedHeld) → HaveStep (locked_state l) (refused n) (locked_state next) → next ≡ l
      → IsCall facts have (refused n) (hub_of l f) (hub_of next f)
  call_have_refused n next (memory, left) is =
      rw is (quiet_call facts have (refused n) (hub_of l f) (hub_of l f) refl lawful (hub_fits facts l f locked flusher meet) (memory, refl)
      (omega arith) refl (counts_same facts _ f.store refl refl) refl)
