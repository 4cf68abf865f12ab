-- The ticket of a token stays, whatever steps a machine makes.
use Rattle.std.proofs.Common.{◌≡◌, ℕ, true, false, inl, inr, List, [], ◌∷◌, ◌++◌, Some, None, refl}
use Rattle.op_model.specs.declared.op.Op.{Op}
use Rattle.op_model.specs.Actions.{Asked, made_by_action}
use Rattle.op_model.specs.Causality.{clock_of, is_known, first_failed}
use Rattle.op_model.specs.Held.{ReplicaHeld, with_edit, with_merge}
use Rattle.op_model.specs.Tokens.{carries, last_of}
use Rattle.op_model.specs.Machine.{State, Ticket, Event, edit, merge, begin, device_step}
use Rattle.op_model.specs.Machine.{settle, ack, tell, have, Answer, ticket, applied, known, early}
use Rattle.op_model.specs.Machine.{begun, nothing_new, idle, goes_on, goes_through, settled_to}
use Rattle.op_model.specs.Machine.{acknowledged, operations, clock, refused, has_record_room}
use Rattle.op_model.specs.Machine.{token_ticket, merge_alone, merge_answer_unless}
use Rattle.op_model.specs.Machine.{EditStep, MergeStep, BeginStep, DeviceStep, SettleStep, AckStep, TellStep, HaveStep, Step, Run}
use Rattle.op_model.specs.Records.{record_length}
use Rattle.op_ids.specs.Clock.{is_ready}
use Rattle.std.specs.Prelude.{◌==◌}
use Rattle.model_laws.proofs.InTurn.{action_other}
use Rattle.model_laws.proofs.LastOf.{last_of-behind}
use Rattle.model_laws.proofs.Tickets.{edit_cases, was_made, is_new}
use Rattle.world_law.specs.Laws.{ActsOnce, Answers}
use Rattle.world_law.specs.Tokens.{WasAnswered}
use Rattle.world_law.proofs.Answered.{answered_forever, is_foreign, other_token}
use Rattle.world_law.proofs.Known.{answered_as_it_was, answered_from_then_on}
use Rattle.world_law.proofs.Steps.{applied_alone}

-- a change of state keeps the tickets of all tokens
abbrev Stays : State → State → Type 0
Stays s next = (token : ℕ) (t : Ticket) → token_ticket s.held token ≡ Some t → token_ticket next.held token ≡ Some t

-- operations more, of which none carries the token
stays_behind : (s : State) (h : ReplicaHeld) (more : List Op) (token : ℕ) (t : Ticket) → h.replica ≡ s.held.replica → h.list ≡ s.held.list ++ more
    → last_of (carries s.held.replica token) more ≡ None → token_ticket s.held token ≡ Some t → token_ticket h token ≡ Some t
stays_behind s h more token t number list none k = rw (number, list) (rw (last_of-behind (carries s.held.replica token) s.held.list more none) k)

edit_stays : (s next : State) (session : ℕ) (e : Asked) (a : Answer) → EditStep s session e a next → Stays s next
edit_stays s next session e (ticket u) (is, at) token t h =
    elim (edit_cases s e u is) [
      | was_made k found ↦ let same : next ≡ s = rw found.known at at in rw same h
      | is_new k answer due ↦
          let other = other_token s e token t k h in
          rw at (rw due (stays_behind s (with_edit s.held session e) (made_by_action s.held.list s.held.replica e) token t refl refl
          (action_other s.held.list s.held.replica e s.held.replica token other) h))
    ]
edit_stays s next session e (refused n) (is, at) token t h = rw at h
edit_stays s next session e _ k token t h = absurd k

merge_stays : (s next : State) (peer : ℕ) (op : Op) (a : Answer) → MergeStep s peer op a next → Stays s next
merge_stays s next peer op applied (is, at) token t h =
    let alone = applied_alone s.failure_told (has_record_room s (record_length op)) (merge_alone s.held op) is in
    let foreign : (op.id.replica == s.held.replica) ≡ false =
    is_foreign (is_known (clock_of s.held.list) op) (op.id.replica == s.held.replica) (is_ready (clock_of s.held.list) op.id.replica op.deps) (merge_answer_unless s.held (first_failed s.held.list op)) alone in
    rw at (stays_behind s (with_merge s.held peer op) (op ∷ []) token t refl refl (rw foreign refl) h)
merge_stays s next peer op known (is, at) token t h = rw at h
merge_stays s next peer op early (is, at) token t h = rw at h
merge_stays s next peer op (refused n) (is, at) token t h = rw at h
merge_stays s next peer op _ k token t h = absurd k

begin_stays : (s next : State) (a : Answer) → BeginStep s a next → Stays s next
begin_stays s next (begun n) (is, at) token t h = rw at h
begin_stays s next nothing_new (is, at) token t h = rw at h
begin_stays s next (refused n) (is, at) token t h = rw at h
begin_stays s next _ k token t h = absurd k

device_stays : (s next : State) (a : Answer) → DeviceStep s a next → Stays s next
device_stays s next idle (_, _, at) token t h = rw at h
device_stays s next goes_on (_, _, at) token t h = rw at h
device_stays s next goes_through (_, _, at) token t h = rw at h
device_stays s next (refused n) (inl (_, _, at)) token t h = rw at h
device_stays s next (refused n) (inr (_, _, _, at)) token t h = rw at h
device_stays s next _ k token t h = absurd k

settle_stays : (s next : State) (a : Answer) → SettleStep s a next → Stays s next
settle_stays s next (settled_to n) (is, at) token t h = rw at h
settle_stays s next (refused n) (is, at) token t h = rw at h
settle_stays s next _ k token t h = absurd k

ack_stays : (s next : State) (asked : Ticket) (a : Answer) → AckStep s asked a next → Stays s next
ack_stays s next asked (acknowledged true) (is, at) token t h = rw at h
ack_stays s next asked (acknowledged false) (is, at) token t h = rw at h
ack_stays s next asked _ k token t h = absurd k

tell_stays : (s next : State) (c : List (ℕ × ℕ)) (a : Answer) → TellStep s c a next → Stays s next
tell_stays s next c (operations ops) (is, at) token t h = rw at h
tell_stays s next c (refused n) (is, at) token t h = rw at h
tell_stays s next c _ k token t h = absurd k

have_stays : (s next : State) (a : Answer) → HaveStep s a next → Stays s next
have_stays s next (clock c) (is, at) token t h = rw at h
have_stays s next (refused n) (is, at) token t h = rw at h
have_stays s next _ k token t h = absurd k

step_stays : (s : State) (e : Event) (a : Answer) (next : State) → Step s e a next → Stays s next
step_stays s (edit session e) a next k = edit_stays s next session e a k
step_stays s (merge peer op) a next k = merge_stays s next peer op a k
step_stays s begin a next k = begin_stays s next a k
step_stays s device_step a next k = device_stays s next a k
step_stays s settle a next k = settle_stays s next a k
step_stays s (ack t) a next k = ack_stays s next t a k
step_stays s (tell c) a next k = tell_stays s next c a k
step_stays s have a next k = have_stays s next a k

pub run_stays : (s next : State) (events : List (Event × Answer)) → Run s events next → Stays s next
run_stays s next [] is token t h = rw is h
run_stays s next (e ∷ es) (mid, first, rest) token t h = run_stays mid next es rest token t (step_stays s e.0 e.1 mid first token t h)

-- an edit that was answered, under a token
pub answers_behind : (s m : State) (session : ℕ) (e : Asked) (token : ℕ) (t : Ticket) → WasAnswered s session e token t m
    → Answers m token (record t { known = true })
answers_behind s m session e token t was =
    let given = answered_from_then_on s was.behind session e token t was.named was.some was.given in
    let kept = run_stays was.behind was.before was.events was.run token (record t { known = true }) given in
    let (settled, at) = was.acknowledged in
    rw at (record { ticket = kept; settled = settled })

pub acts_once : ActsOnce
acts_once w mid after hs more s m n next session again e answer token t begins before h was behind k number step =
    let answers = answered_forever w mid after hs more m n token (record t { known = true }) begins before h (answers_behind s m session e token t was) behind k number in
    answered_as_it_was n next again e answer token (record t { known = true }) (was.named, answers.ticket) step
