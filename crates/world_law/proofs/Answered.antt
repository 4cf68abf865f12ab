-- What is answered for a token of a settled edit is answered from then on.
use Rattle.std.proofs.Common.{◌≡◌, ℕ, ◌+◌, ◌≤◌, Bool, true, false, not, ◌⊎◌, inl, inr}
use Rattle.std.proofs.Common.{List, [], ◌∷◌, ◌++◌, length, take, Option, Some, None, arith, ap, refl, sym, ◌∙◌}
use Rattle.std.specs.Prelude.{◌==◌, if◌then◌else◌}
use Rattle.std.specs.Option.{option_map, option_and_then}
use Rattle.std.proofs.lemmas.Bool.{cases_Bool, eqb-true}
use Rattle.op_ids.specs.Clock.{is_ready}
use Rattle.op_model.specs.declared.op.Op.{Op}
use Rattle.op_model.specs.Actions.{Asked, made_by_action}
use Rattle.op_model.specs.Causality.{clock_of, is_known, first_failed}
use Rattle.op_model.specs.Held.{ReplicaHeld, with_edit, with_merge}
use Rattle.op_model.specs.Tokens.{carries, is_token, last_of}
use Rattle.op_model.specs.Machine.{Commit, State, Ticket, Event, edit, merge, begin, device_step}
use Rattle.op_model.specs.Machine.{settle, ack, tell, have, Answer, ticket, applied, known, early}
use Rattle.op_model.specs.Machine.{begun, nothing_new, idle, goes_on, goes_through, settled_to}
use Rattle.op_model.specs.Machine.{acknowledged, operations, clock, refused, holding, has_record_room}
use Rattle.op_model.specs.Machine.{ticket_behind, token_ticket, known_ticket, merge_alone, merge_answer_unless}
use Rattle.op_model.specs.Machine.{EditStep, MergeStep, BeginStep, DeviceStep, SettleStep, AckStep, TellStep, HaveStep, Step}
use Rattle.op_model.specs.Machine.{reopened, CrashLeavesOf}
use Rattle.op_model.specs.Records.{record_length}
use Rattle.model_laws.proofs.InTurn.{action_other}
use Rattle.model_laws.proofs.LastOf.{last_of-behind, last_of-take, last_of-within}
use Rattle.model_laws.proofs.Tickets.{edit_cases, was_made, is_new}
use Rattle.world_law.specs.World.{World, HasMachine}
use Rattle.world_law.specs.Histories.{Happening, step, crash, Happens, History, IsChanged}
use Rattle.world_law.specs.Laws.{Answers, AnsweredForever}
use Rattle.world_law.proofs.Members.{HasMachine-cases, HasMachine-at, one_machine}
use Rattle.world_law.proofs.Sound.{IsWithin}
use Rattle.world_law.proofs.Steps.{applied_alone, settled_by_commit, step_goes, crash_goes}
use Rattle.world_law.proofs.Worlds.{IsSoundWorld, happens_sound}
use Rattle.world_law.proofs.Clauses.{history_of_beginning}

-- a change of state keeps all such answers
abbrev KeepsAnswers : State → State → Type 0
KeepsAnswers s next = (token : ℕ) (t : Ticket) → Answers s token t → Answers next token t

-- the same list of the same replica, with no fewer operations settled
same_list : (s next : State) (token : ℕ) (t : Ticket) → next.held.replica ≡ s.held.replica → next.held.list ≡ s.held.list
    → s.held.settled ≤ next.held.settled → Answers s token t → Answers next token t
same_list s next token t number list more h =
    let settled = h.settled in record { ticket = rw (number, list) h.ticket; settled = omega arith }

-- operations more, of which none carries the token
grown : (s : State) (h : ReplicaHeld) (more : List Op) (token : ℕ) (t : Ticket) → h.replica ≡ s.held.replica → h.list ≡ s.held.list ++ more
    → h.settled ≡ s.held.settled → last_of (carries s.held.replica token) more ≡ None → Answers s token t → Answers (holding s h) token t
grown s h more token t number list settled none a = record {
  ticket = rw (number, list) (rw (last_of-behind (carries s.held.replica token) s.held.list more none) a.ticket);
  settled = rw settled a.settled;
}

-- an edit that isn't known has another token, or none
is_found : (s : State) (token : ℕ) (t : Ticket) (asked : Option ℕ) → is_token token asked ≡ true → token_ticket s.held token ≡ Some t
    → option_and_then (token_ticket s.held) asked ≡ Some t
is_found s token t None is k = let never : ⊥ = cc in absurd never
is_found s token t (Some u) is k = let same : u ≡ token = eqb-true u token is in rw same k

pub other_token : (s : State) (e : Asked) (token : ℕ) (t : Ticket) → known_ticket s.held e ≡ None → token_ticket s.held token ≡ Some t
    → is_token token e.token ≡ false
other_token s e token t none k =
    elim (cases_Bool (is_token token e.token)) [
      | inl is ↦ let found : known_ticket s.held e ≡ Some t = is_found s token t e.token is k in let never : ⊥ = cc in absurd never
      | inr is ↦ is
    ]

edit_grows : (s : State) (session : ℕ) (e : Asked) → known_ticket s.held e ≡ None → KeepsAnswers s (holding s (with_edit s.held session e))
edit_grows s session e none token t h =
    let other = other_token s e token t none h.ticket in
    grown s (with_edit s.held session e) (made_by_action s.held.list s.held.replica e) token t refl refl refl
    (action_other s.held.list s.held.replica e s.held.replica token other) h

edit_keeps : (s next : State) (session : ℕ) (e : Asked) (a : Answer) → EditStep s session e a next → KeepsAnswers s next
edit_keeps s next session e (ticket u) (is, at) token t h =
    elim (edit_cases s e u is) [
      | was_made k found ↦ let same : next ≡ s = rw found.known at at in rw same h
      | is_new k answer due ↦ rw at (rw due (edit_grows s session e k token t h))
    ]
edit_keeps s next session e (refused n) (is, at) token t h = rw at h
edit_keeps s next session e _ k token t h = absurd k

-- an operation that is applied is no own one
pub is_foreign : (known_op own ready : Bool) (answer : Answer)
    → (if known_op then known else if own then refused 20 else if not ready then early else answer) ≡ applied → own ≡ false
is_foreign true o r answer e = let never : ⊥ = cc in absurd never
is_foreign false true r answer e = let never : ⊥ = cc in absurd never
is_foreign false false r answer e = refl

merge_keeps : (s next : State) (peer : ℕ) (op : Op) (a : Answer) → MergeStep s peer op a next → KeepsAnswers s next
merge_keeps s next peer op applied (is, at) token t h =
    let alone = applied_alone s.failure_told (has_record_room s (record_length op)) (merge_alone s.held op) is in
    let foreign : (op.id.replica == s.held.replica) ≡ false =
    is_foreign (is_known (clock_of s.held.list) op) (op.id.replica == s.held.replica) (is_ready (clock_of s.held.list) op.id.replica op.deps) (merge_answer_unless s.held (first_failed s.held.list op)) alone in
    rw at (grown s (with_merge s.held peer op) (op ∷ []) token t refl refl refl (rw foreign refl) h)
merge_keeps s next peer op known (is, at) token t h = rw at h
merge_keeps s next peer op early (is, at) token t h = rw at h
merge_keeps s next peer op (refused n) (is, at) token t h = rw at h
merge_keeps s next peer op _ k token t h = absurd k

begin_keeps : (s next : State) (a : Answer) → BeginStep s a next → KeepsAnswers s next
begin_keeps s next (begun n) (is, at) token t h = rw at (same_list s _ token t refl refl (omega arith) h)
begin_keeps s next nothing_new (is, at) token t h = rw at h
begin_keeps s next (refused n) (is, at) token t h = rw at (same_list s _ token t refl refl (omega arith) h)
begin_keeps s next _ k token t h = absurd k

device_keeps : (s next : State) (a : Answer) → DeviceStep s a next → KeepsAnswers s next
device_keeps s next idle (_, _, at) token t h = rw at h
device_keeps s next goes_on (_, _, at) token t h = rw at h
device_keeps s next goes_through (_, _, at) token t h = rw at (same_list s _ token t refl refl (omega arith) h)
device_keeps s next (refused n) (inl (_, _, at)) token t h = rw at h
device_keeps s next (refused n) (inr (_, _, _, at)) token t h = rw at (same_list s _ token t refl refl (omega arith) h)
device_keeps s next _ k token t h = absurd k

settle_keeps : (s next : State) (a : Answer) → IsWithin s.held.settled (length s.held.list) s.commit → SettleStep s a next → KeepsAnswers s next
settle_keeps s next (settled_to n) within (is, at) token t h =
    let lies = settled_by_commit s.failed s.commit s.held.settled (length s.held.list) n within is in
    rw at (same_list s _ token t refl refl lies.0 h)
settle_keeps s next (refused n) within (is, at) token t h = rw at (same_list s _ token t refl refl (omega arith) h)
settle_keeps s next _ within k token t h = absurd k

ack_keeps : (s next : State) (asked : Ticket) (a : Answer) → AckStep s asked a next → KeepsAnswers s next
ack_keeps s next asked (acknowledged true) (is, at) token t h = rw at (same_list s _ token t refl refl (omega arith) h)
ack_keeps s next asked (acknowledged false) (is, at) token t h = rw at h
ack_keeps s next asked _ k token t h = absurd k

tell_keeps : (s next : State) (c : List (ℕ × ℕ)) (a : Answer) → TellStep s c a next → KeepsAnswers s next
tell_keeps s next c (operations ops) (is, at) token t h = rw at (same_list s _ token t refl refl (omega arith) h)
tell_keeps s next c (refused n) (is, at) token t h = rw at h
tell_keeps s next c _ k token t h = absurd k

have_keeps : (s next : State) (a : Answer) → HaveStep s a next → KeepsAnswers s next
have_keeps s next (clock c) (is, at) token t h = rw at (same_list s _ token t refl refl (omega arith) h)
have_keeps s next (refused n) (is, at) token t h = rw at h
have_keeps s next _ k token t h = absurd k

-- each event keeps such answers
step_keeps : (s : State) (e : Event) (a : Answer) (next : State) → IsWithin s.held.settled (length s.held.list) s.commit → Step s e a next
    → KeepsAnswers s next
step_keeps s (edit session e) a next within k = edit_keeps s next session e a k
step_keeps s (merge peer op) a next within k = merge_keeps s next peer op a k
step_keeps s begin a next within k = begin_keeps s next a k
step_keeps s device_step a next within k = device_keeps s next a k
step_keeps s settle a next within k = settle_keeps s next a within k
step_keeps s (ack t) a next within k = ack_keeps s next t a k
step_keeps s (tell c) a next within k = tell_keeps s next c a k
step_keeps s have a next within k = have_keeps s next a k

-- a front that has all that is settled
pub in_front : (h : ReplicaHeld) (n token : ℕ) (t : Ticket) (found : Option (List Op × Op)) → last_of (carries h.replica token) h.list ≡ found
    → option_map ticket_behind found ≡ Some t → t.end ≤ h.settled → h.settled ≤ n
    → (option_map ticket_behind (last_of (carries h.replica token) (take n h.list)) ≡ Some t) × (t.end ≤ length (take n h.list))
in_front h n token t None e k l m = let never : ⊥ = cc in absurd never
in_front h n token t (Some p) e k l m =
    let same : ticket_behind p ≡ t = cc in
    let end : length p.0 + 1 ≡ t.end = ap (λ given. given.end) same in
    let front = last_of-take (carries h.replica token) n h.list p e (omega arith) in
    let within = last_of-within (carries h.replica token) (take n h.list) p front in
    (rw front k, omega arith)

opened_keeps : (s : State) (n version : ℕ) → s.held.settled ≤ n → KeepsAnswers s (reopened s n version)
opened_keeps s n version low token t h =
    let (found, end) = in_front s.held n token t (last_of (carries s.held.replica token) s.held.list) refl h.ticket h.settled low in
    record { ticket = found; settled = end }

crash_of-through : (s next : State) (count : ℕ) (through : Bool) → s.held.settled ≤ count
    → (elim through as (λ _. Type 0) [
      | true ↦ next ≡ reopened s count s.version
      | false ↦ (next ≡ reopened s s.held.settled s.version) ⊎ (next ≡ reopened s count (s.version + 1))
    ])
    → KeepsAnswers s next
crash_of-through s next count true low is token t h = rw is (opened_keeps s count s.version low token t h)
crash_of-through s next count false low (inl is) token t h = rw is (opened_keeps s s.held.settled s.version (omega arith) token t h)
crash_of-through s next count false low (inr is) token t h = rw is (opened_keeps s count (s.version + 1) low token t h)

crash_of : (s next : State) (c : Option Commit) → IsWithin s.held.settled (length s.held.list) c
    → (elim c as (λ _. Type 0) [ None ↦ next ≡ reopened s s.held.settled s.version | Some d ↦ CrashLeavesOf s d next ])
    → KeepsAnswers s next
crash_of s next None within is token t h = rw is (opened_keeps s s.held.settled s.version (omega arith) token t h)
crash_of s next (Some c) within is token t h = crash_of-through s next c.count c.through within.0 is token t h

-- a machine of the same number behind one happening, that answers the same
abbrev Goes : World → State → ℕ → Ticket → Type 0
Goes after m token t = (n : State) × HasMachine after.machines n × (n.held.replica ≡ m.held.replica) × Answers n token t

changed_keeps : (w after : World) (replica : ℕ) (c : IsChanged replica w.machines after.machines) (m : State) (token : ℕ) (t : Ticket)
    → c.next.held.replica ≡ c.old.held.replica → KeepsAnswers c.old c.next → HasMachine w.machines m → Answers m token t → Goes after m token t
changed_keeps w after replica c m token t number keeps h a =
    elim (HasMachine-cases c.front c.rest c.old m (rw c.was at h)) [
      | inl e ↦ (c.next, rw c.is (HasMachine-at c.front c.rest c.next), number ∙ ap (λ x. x.held.replica) e, keeps token t (rw e a))
      | inr k ↦ (m, rw c.is (k c.next), refl, a)
    ]

happens_keeps : (w after : World) (what : Happening) (m : State) (token : ℕ) (t : Ticket) → IsSoundWorld w → Happens w what after
    → HasMachine w.machines m → Answers m token t → Goes after m token t
happens_keeps w after (step replica e answer) m token t sound (c, from, k, bag) h a =
    let stood : HasMachine w.machines c.old = rw c.was (HasMachine-at c.front c.rest c.old) in
    let went = step_goes w.bag c.old e answer c.next (sound.each c.old stood) from k in
    changed_keeps w after replica c m token t went.number (step_keeps c.old e answer c.next (sound.each c.old stood).commit k) h a
happens_keeps w after (crash replica) m token t sound (c, k, bag) h a =
    let stood : HasMachine w.machines c.old = rw c.was (HasMachine-at c.front c.rest c.old) in
    let went = crash_goes w.bag c.old c.next (sound.each c.old stood) k in
    changed_keeps w after replica c m token t went.number (crash_of c.old c.next c.old.commit (sound.each c.old stood).commit k) h a

history_keeps : (w after : World) (hs : List Happening) (m n : State) (token : ℕ) (t : Ticket) → IsSoundWorld w → History w hs after
    → HasMachine w.machines m → Answers m token t → HasMachine after.machines n → n.held.replica ≡ m.held.replica → Answers n token t
history_keeps w after [] m n token t sound is h a k e =
    let one = one_machine w.machines m n sound.apart h (rw is at k) (sym e) in rw (← one) a
history_keeps w after (x ∷ hs) m n token t sound (mid, first, rest) h a k e =
    let (o, i, number, b) = happens_keeps w mid x m token t sound first h a in
    history_keeps mid after hs o n token t (happens_sound w x mid sound first) rest i b k (e ∙ sym number)

pub answered_forever : AnsweredForever
answered_forever w mid after hs more m n token t begins before h a behind k e =
    history_keeps mid after more m n token t (history_of_beginning w mid hs begins before) behind h a k e
