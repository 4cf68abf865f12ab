-- Under each token a replica has the operations of one edit, one after another: no crash cuts them, since each leaves a list at whose end a
-- step ended.
use Rattle.std.proofs.Common.{◌≡◌, ℕ, zero, suc, ◌+◌, ◌≤◌, Bool, true, false, ◌⊎◌, inl, inr}
use Rattle.std.proofs.Common.{List, [], ◌∷◌, ◌++◌, length, take, Option, Some, None, arith, ap, refl, sym, ◌∙◌, append_assoc, length-append, append-nil}
use Rattle.std.specs.Prelude.{◌==◌, Contains, if◌then◌else◌, nat_le, is_some}
use Rattle.std.specs.Option.{option_and_then, option_map}
use Rattle.std.proofs.lemmas.Bool.{cases_Bool, eqb-true}
use Rattle.std.proofs.lemmas.List.{take_all, take-append-le}
use Rattle.op_ids.specs.Clock.{is_ready}
use Rattle.op_model.specs.declared.op.Op.{Op}
use Rattle.op_model.specs.Actions.{Asked, made_by_action}
use Rattle.op_model.specs.Causality.{clock_of, is_known, first_failed}
use Rattle.op_model.specs.Held.{ReplicaHeld, with_edit, with_merge}
use Rattle.op_model.specs.Records.{record_length}
use Rattle.op_model.specs.Replay.{reached}
use Rattle.op_model.specs.Tokens.{carries, is_token, last_of}
use Rattle.op_model.specs.Machine.{Commit, State, Ticket, Event, edit, merge, begin, device_step, settle, ack, tell}
use Rattle.op_model.specs.Machine.{have, Answer, ticket, applied, known, early}
use Rattle.op_model.specs.Machine.{begun, nothing_new, idle, goes_on, goes_through, settled_to, acknowledged, operations, clock, refused, holding}
use Rattle.op_model.specs.Machine.{through, through_of, has_record_room, ticket_behind, token_ticket, known_ticket, merge_alone, merge_answer_unless}
use Rattle.op_model.specs.Machine.{EditStep, MergeStep, BeginStep, DeviceStep, SettleStep, AckStep, TellStep, HaveStep, Step}
use Rattle.op_model.specs.Machine.{opened, reopened, CrashLeaves, CrashLeavesOf}
use Rattle.model_laws.proofs.InTurn.{action_other}
use Rattle.model_laws.proofs.LastOf.{last_of-behind}
use Rattle.model_laws.proofs.Tickets.{edit_cases, was_made, is_new}
use Rattle.world_law.specs.World.{World, HasMachine, IsBeginning}
use Rattle.world_law.specs.Histories.{Happening, step, crash, Happens, History}
use Rattle.world_law.specs.Laws.{Always}
use Rattle.world_law.specs.Together.{HasNone, IsOneEdit, TokensNameOneEdit}
use Rattle.world_law.proofs.Answered.{is_foreign}
use Rattle.world_law.proofs.Members.{HasMachine-cases, HasMachine-at}
use Rattle.world_law.proofs.Steps.{applied_alone, begun_length}

-- under each token the list has no operation, or those of one edit
abbrev IsTogether : ℕ → List Op → Type 0
IsTogether replica list = (token : ℕ) → HasNone replica token list ⊎ IsOneEdit replica token list

-- a step ended at the commit's length
abbrev IsEnded : List ℕ → Option Commit → Type 0
IsEnded ends None = Unit {0}
IsEnded ends (Some c) = Contains ends c.count

-- What a machine keeps: so it is of each front of its list at which a step ended; and one ended at the list's end, at the last settled
-- operation, and at the commit's.
record IsWhole (m : State) : Type 0 where
  ends : (n : ℕ) → Contains (reached m.held.opened m.held.steps) n → (n ≤ length m.held.list) × IsTogether m.held.replica (take n m.held.list)
  last : Contains (reached m.held.opened m.held.steps) (length m.held.list)
  settled : Contains (reached m.held.opened m.held.steps) m.held.settled
  commit : IsEnded (reached m.held.opened m.held.steps) m.commit

contains_here : (x : ℕ) (xs : List ℕ) → Contains (x ∷ xs) x
contains_here x xs = (0, omega arith, refl)

contains_more : (y x : ℕ) (xs : List ℕ) → Contains xs x → Contains (y ∷ xs) x
contains_more y x xs there = let within = there.1 in (suc there.0, omega arith, there.2)

contains_cases : (y x : ℕ) (xs : List ℕ) → Contains (y ∷ xs) x → (y ≡ x) ⊎ Contains xs x
contains_cases y x xs (zero, within, is) = inl is
contains_cases y x xs (suc k, within, is) = inr (k, omega (arith, within), is)

ended_more : (y : ℕ) (xs : List ℕ) (c : Option Commit) → IsEnded xs c → IsEnded (y ∷ xs) c
ended_more y xs None ended = tt
ended_more y xs (Some c) ended = contains_more y c.count xs ended

-- the whole list of such a machine
together_now : (m : State) → IsWhole m → IsTogether m.held.replica m.held.list
together_now m h = let now = (h.ends (length m.held.list) h.last).1 in rw (take_all (length m.held.list) m.held.list (omega arith)) at now

-- the same list and steps, with a settled number and a commit at which steps ended
kept : (s next : State) → next.held.replica ≡ s.held.replica → next.held.list ≡ s.held.list
    → reached next.held.opened next.held.steps ≡ reached s.held.opened s.held.steps
    → Contains (reached s.held.opened s.held.steps) next.held.settled → IsEnded (reached s.held.opened s.held.steps) next.commit → IsWhole s → IsWhole next
kept s next number list ends settled commit h = record {
  ends = λ n has. rw (number, list) (h.ends n (rw ends at has));
  last = rw (list, ends) h.last;
  settled = rw ends settled;
  commit = rw ends commit;
}

-- a step more, which ends at the end of a longer list
grown : (s : State) (next : ReplicaHeld) (more : List Op) (end : ℕ) → next.replica ≡ s.held.replica → next.list ≡ s.held.list ++ more
    → reached next.opened next.steps ≡ end ∷ reached s.held.opened s.held.steps → end ≡ length s.held.list + length more → next.settled ≡ s.held.settled
    → IsTogether s.held.replica (s.held.list ++ more) → IsWhole s → IsWhole (holding s next)
grown s next more end number list ends is settled now h = record {
  ends = λ n has. rw (number, list) (by_place n (contains_cases end n (reached s.held.opened s.held.steps) (rw ends at has)));
  last = rw (list, ends) (rw (← long) (contains_here end (reached s.held.opened s.held.steps)));
  settled = rw (settled, ends) (contains_more end s.held.settled (reached s.held.opened s.held.steps) h.settled);
  commit = rw ends (ended_more end (reached s.held.opened s.held.steps) s.commit h.commit);
}
  where
    long : end ≡ length (s.held.list ++ more)
    long = is ∙ sym (length-append s.held.list more)

    by_place : (n : ℕ) → (end ≡ n) ⊎ Contains (reached s.held.opened s.held.steps) n
        → (n ≤ length (s.held.list ++ more)) × IsTogether s.held.replica (take n (s.held.list ++ more))
    by_place n (inl same) =
        let within : length (s.held.list ++ more) ≤ n = omega (arith, long, same) in
        (omega (arith, long, same), rw (take_all n (s.held.list ++ more) within) now)
    by_place n (inr has) =
        let before = h.ends n has in
        let within = before.0 in
        (omega (arith, within, length-append s.held.list more), rw (take-append-le n s.held.list more within) before.1)

-- operations more of which none carries the token
joined : (replica token : ℕ) (list more : List Op) → HasNone replica token more → HasNone replica token list ⊎ IsOneEdit replica token list
    → HasNone replica token (list ++ more) ⊎ IsOneEdit replica token (list ++ more)
joined replica token list more none (inl bare) = inl (last_of-behind (carries replica token) list more none ∙ bare)
joined replica token list more none (inr one) = inr (record {
  edit = one.edit;
  named = one.named;
  front = one.front;
  rest = one.rest ++ more;
  whole = ap (λ ops. ops ++ more) one.whole ∙ append_assoc (one.front ++ made_by_action one.front replica one.edit) one.rest more;
  before = one.before;
  after = last_of-behind (carries replica token) one.rest more none ∙ one.after;
})

-- an edit that isn't known has a token that no operation carries
none_carries : (found : Option (List Op × Op)) → option_map ticket_behind found ≡ None → found ≡ None
none_carries None is = refl
none_carries (Some p) is = absurd (cc)

token_is_new : (h : ReplicaHeld) (token : ℕ) (asked : Option ℕ) → is_token token asked ≡ true → option_and_then (token_ticket h) asked ≡ None
    → (asked ≡ Some token) × HasNone h.replica token h.list
token_is_new h token None is none = absurd (cc)
token_is_new h token (Some u) is none =
    let same : u ≡ token = eqb-true u token is in
    (ap (λ t. Some t) same, none_carries (last_of (carries h.replica token) h.list) (rw (← same) none))

edit_together : (h : ReplicaHeld) (e : Asked) → known_ticket h e ≡ None → IsTogether h.replica h.list → IsTogether h.replica (h.list ++ made_by_action h.list h.replica e)
edit_together h e new before token = elim (cases_Bool (is_token token e.token)) [
  | inl is ↦
      let named = token_is_new h token e.token is new in
      inr (record {
        edit = e;
        named = named.0;
        front = h.list;
        rest = [];
        whole = sym (append-nil (h.list ++ made_by_action h.list h.replica e));
        before = named.1;
        after = refl;
      })
  | inr other ↦
      joined h.replica token h.list (made_by_action h.list h.replica e)
      (action_other h.list h.replica e h.replica token other) (before token)
]

edit_whole : (s next : State) (session : ℕ) (e : Asked) (a : Answer) → EditStep s session e a next → IsWhole s → IsWhole next
edit_whole s next session e (ticket u) (is, at) h =
    elim (edit_cases s e u is) [
      | was_made k found ↦ let same : next ≡ s = rw found.known at at in rw same h
      | is_new k answer due ↦ rw at (rw due
          (grown s (with_edit s.held session e) (made_by_action s.held.list s.held.replica e) (length s.held.list + length (made_by_action s.held.list s.held.replica e)) refl refl refl
          refl refl (edit_together s.held e k (together_now s h)) h))
    ]
edit_whole s next session e (refused n) (is, at) h = rw at h
edit_whole s next session e _ k h = absurd k

merge_whole : (s next : State) (peer : ℕ) (op : Op) (a : Answer) → MergeStep s peer op a next → IsWhole s → IsWhole next
merge_whole s next peer op applied (is, at) h =
    let alone = applied_alone s.failure_told (has_record_room s (record_length op)) (merge_alone s.held op) is in
    let foreign : (op.id.replica == s.held.replica) ≡ false =
    is_foreign (is_known (clock_of s.held.list) op) (op.id.replica == s.held.replica) (is_ready (clock_of s.held.list) op.id.replica op.deps) (merge_answer_unless s.held (first_failed s.held.list op)) alone in
    let now = together_now s h in
    rw at (grown s (with_merge s.held peer op) (op ∷ []) (length s.held.list + 1) refl refl refl refl refl
    (λ token. joined s.held.replica token s.held.list (op ∷ []) (rw foreign refl) (now token)) h)
merge_whole s next peer op known (is, at) h = rw at h
merge_whole s next peer op early (is, at) h = rw at h
merge_whole s next peer op (refused n) (is, at) h = rw at h
merge_whole s next peer op _ k h = absurd k

begin_whole : (s next : State) (a : Answer) → BeginStep s a next → IsWhole s → IsWhole next
begin_whole s next (begun n) (is, at) h =
    let long = begun_length s.failed (is_some s.commit) (nat_le (length s.held.list) s.held.settled) (nat_le 18446744073709551615 s.version) (length s.held.list) n is in
    let last = rw long at h.last in
    rw at (kept s _ refl refl refl h.settled last h)
begin_whole s next nothing_new (is, at) h = rw at h
begin_whole s next (refused n) (is, at) h = rw at (kept s _ refl refl refl h.settled h.commit h)
begin_whole s next _ k h = absurd k

ended_through : (ends : List ℕ) (c : Option Commit) → IsEnded ends c → IsEnded ends (through c)
ended_through ends None ended = tt
ended_through ends (Some c) ended = ended

device_whole : (s next : State) (a : Answer) → DeviceStep s a next → IsWhole s → IsWhole next
device_whole s next idle (_, _, at) h = rw at h
device_whole s next goes_on (_, _, at) h = rw at h
device_whole s next goes_through (_, _, at) h =
    rw at (kept s _ refl refl refl h.settled (ended_through (reached s.held.opened s.held.steps) s.commit h.commit) h)
device_whole s next (refused n) (inl (_, _, at)) h = rw at h
device_whole s next (refused n) (inr (_, _, _, at)) h = rw at (kept s _ refl refl refl h.settled h.commit h)
device_whole s next _ k h = absurd k

-- what is settled is what the commit has
settled_ended : (failed : Bool) (c : Option Commit) (ends : List ℕ) (n : ℕ) → IsEnded ends c
    → (if failed then refused 44 else elim (through_of c) [ None ↦ refused 8 | Some m ↦ settled_to m ]) ≡ settled_to n → Contains ends n
settled_ended true c ends n h e = absurd (cc)
settled_ended false None ends n h e = absurd (cc)
settled_ended false (Some c) ends n h e = through_cases c.through c.count h e
  where
    through_cases : (t : Bool) (count : ℕ) → Contains ends count
        → (elim (if t then Some count else None) [ None ↦ refused 8 | Some m ↦ settled_to m ]) ≡ settled_to n → Contains ends n
    through_cases true count w f = let same : count ≡ n = cc in rw (← same) w
    through_cases false count w f = absurd (cc)

settle_whole : (s next : State) (a : Answer) → SettleStep s a next → IsWhole s → IsWhole next
settle_whole s next (settled_to n) (is, at) h =
    rw at (kept s _ refl refl refl (settled_ended s.failed s.commit (reached s.held.opened s.held.steps) n h.commit is) tt h)
settle_whole s next (refused n) (is, at) h = rw at (kept s _ refl refl refl h.settled h.commit h)
settle_whole s next _ k h = absurd k

ack_whole : (s next : State) (asked : Ticket) (a : Answer) → AckStep s asked a next → IsWhole s → IsWhole next
ack_whole s next asked (acknowledged true) (is, at) h = rw at (kept s _ refl refl refl h.settled h.commit h)
ack_whole s next asked (acknowledged false) (is, at) h = rw at h
ack_whole s next asked _ k h = absurd k

tell_whole : (s next : State) (c : List (ℕ × ℕ)) (a : Answer) → TellStep s c a next → IsWhole s → IsWhole next
tell_whole s next c (operations ops) (is, at) h = rw at (kept s _ refl refl refl h.settled h.commit h)
tell_whole s next c (refused n) (is, at) h = rw at h
tell_whole s next c _ k h = absurd k

have_whole : (s next : State) (a : Answer) → HaveStep s a next → IsWhole s → IsWhole next
have_whole s next (clock c) (is, at) h = rw at (kept s _ refl refl refl h.settled h.commit h)
have_whole s next (refused n) (is, at) h = rw at h
have_whole s next _ k h = absurd k

step_whole : (s : State) (e : Event) (a : Answer) (next : State) → Step s e a next → IsWhole s → IsWhole next
step_whole s (edit session e) a next k h = edit_whole s next session e a k h
step_whole s (merge peer op) a next k h = merge_whole s next peer op a k h
step_whole s begin a next k h = begin_whole s next a k h
step_whole s device_step a next k h = device_whole s next a k h
step_whole s settle a next k h = settle_whole s next a k h
step_whole s (ack t) a next k h = ack_whole s next t a k h
step_whole s (tell c) a next k h = tell_whole s next c a k h
step_whole s have a next k h = have_whole s next a k h

-- what is opened with a list that is together
opened_whole : (replica version : ℕ) (list : List Op) → IsTogether replica list → IsWhole (opened replica list version)
opened_whole replica version list now = record {
  ends = λ n has. by_place n (contains_cases (length list) n [] has);
  last = contains_here (length list) [];
  settled = contains_here (length list) [];
  commit = tt;
}
  where
    by_place : (n : ℕ) → (length list ≡ n) ⊎ Contains [] n → (n ≤ length list) × IsTogether replica (take n list)
    by_place n (inl same) = (omega (arith, same), rw (take_all n list (omega (arith, same))) now)
    by_place n (inr has) = let within = has.1 in absurd (omega (arith, within))

front_whole : (s next : State) (n version : ℕ) → IsWhole s → Contains (reached s.held.opened s.held.steps) n → next ≡ reopened s n version → IsWhole next
front_whole s next n version h has is = rw is (opened_whole s.held.replica version (take n s.held.list) (h.ends n has).1)

crash_whole : (s next : State) → CrashLeaves s next → IsWhole s → IsWhole next
crash_whole s next k h = by_commit s.commit k h.commit
  where
    of_commit : (c : Commit) → CrashLeavesOf s c next → Contains (reached s.held.opened s.held.steps) c.count → IsWhole next
    of_commit c k has = by_through c.through k
      where
        by_through : (t : Bool) → CrashLeavesOf s (record c { through = t }) next → IsWhole next
        by_through true is = front_whole s next c.count s.version h has is
        by_through false (inl is) = front_whole s next s.held.settled s.version h h.settled is
        by_through false (inr is) = front_whole s next c.count (s.version + 1) h has is

    by_commit : (c : Option Commit) → CrashLeaves (record s { commit = c }) next → IsEnded (reached s.held.opened s.held.steps) c → IsWhole next
    by_commit None is ended = front_whole s next s.held.settled s.version h h.settled is
    by_commit (Some c) k has = of_commit c k has

-- so it is of all machines of a world
abbrev AreWhole : World → Type 0
AreWhole w = (m : State) → HasMachine w.machines m → IsWhole m

happens_whole : (w : World) (h : Happening) (after : World) → AreWhole w → Happens w h after → AreWhole after
happens_whole w (step replica e a) after whole (c, from, k, bag) m there =
    elim (HasMachine-cases c.front c.rest c.next m (rw c.is at there)) [
      | inl same ↦ rw (← same) (step_whole c.old e a c.next k (whole c.old (rw c.was (HasMachine-at c.front c.rest c.old))))
      | inr other ↦ whole m (rw c.was (other c.old))
    ]
happens_whole w (crash replica) after whole (c, k, bag) m there =
    elim (HasMachine-cases c.front c.rest c.next m (rw c.is at there)) [
      | inl same ↦ rw (← same) (crash_whole c.old c.next k (whole c.old (rw c.was (HasMachine-at c.front c.rest c.old))))
      | inr other ↦ whole m (rw c.was (other c.old))
    ]

history_whole : (w : World) (hs : List Happening) (after : World) → AreWhole w → History w hs after → AreWhole after
history_whole w [] after whole is = rw is whole
history_whole w (h ∷ hs) after whole (mid, first, rest) = history_whole mid hs after (happens_whole w h mid whole first) rest

beginning_whole : (w : World) → IsBeginning w → AreWhole w
beginning_whole w b m there =
    let (version, is) = b.new m there in rw is (opened_whole m.held.replica version [] (λ token. inl refl))

pub tokens_name_one_edit : Always TokensNameOneEdit
tokens_name_one_edit w after hs b history m token there = together_now m (history_whole w hs after (beginning_whole w b) history m there) token
