-- What the machine answers to an edit.
use Rattle.std.proofs.Common.{◌≡◌, ℕ, ◌+◌, ◌≤◌, Bool, true, false, List, [], ◌∷◌}
use Rattle.std.proofs.Common.{Option, Some, None, IfSome, IsTrue, refl, sym, ap, subst, arith}
use Rattle.std.specs.Prelude.{if◌then◌else◌}
use Rattle.std.specs.Option.{option_map}
use Rattle.op_model.specs.Actions.{refusal_of, refused_changes, refused_in_turn, Asked, Room}
use Rattle.op_model.specs.declared.edit.Change.{Change}
use Rattle.op_model.specs.declared.op.Op.{Op}
use Rattle.op_model.specs.Held.{ReplicaHeld}
use Rattle.op_model.specs.Machine.{State, Answer, Ticket, ticket, applied, refused}
use Rattle.op_model.specs.Machine.{acknowledged, EditStep, AckStep, IsRefusal, known_ticket, unless_known, new_edit_alone, new_edit_answer}
use Rattle.op_model.specs.Machine.{edit_answer_unless, has_record_room, edit_length, with_room, has_places}
use Rattle.model_laws.proofs.Tickets.{edit_cases, known_is, was_made, is_new}
use Rattle.session_threads.specs.HubCalls.{IsQuiet, is_edit_refusal}

-- ---- a refusal

of_tests : (stale outside over : Bool)
    → IfSome (if stale then Some 6 else if outside then Some 5 else if over then Some 7 else None) (λ m. IsTrue (is_edit_refusal m))
of_tests true outside over = refl
of_tests false true over = refl
of_tests false false true = refl
of_tests false false false = tt

-- the number of a refusal after some changes
abbrev number_in : Option (ℕ × ℕ) → Option ℕ
number_in found = option_map (λ (f : ℕ × ℕ). f.1) found

of_single : (found : Option ℕ) → IfSome found (λ m. IsTrue (is_edit_refusal m))
    → IfSome (number_in (option_map (λ n. (0, n)) found)) (λ m. IsTrue (is_edit_refusal m))
of_single None is = tt
of_single (Some n) is = is

of_stale : (stale : Bool) (rest : Option (ℕ × ℕ)) → IfSome (number_in rest) (λ m. IsTrue (is_edit_refusal m))
    → IfSome (number_in (if stale then Some (0, 6) else rest)) (λ m. IsTrue (is_edit_refusal m))
of_stale true rest is = refl
of_stale false rest is = is

of_change : (outside over : Bool) (k : ℕ) (rest : Option (ℕ × ℕ)) → IfSome (number_in rest) (λ m. IsTrue (is_edit_refusal m))
    → IfSome (number_in (if outside then Some (k, 5) else if over then Some (k, 7) else rest)) (λ m. IsTrue (is_edit_refusal m))
of_change true over k rest is = refl
of_change false true k rest is = refl
of_change false false k rest is = is

of_turns : (k : ℕ) (room : Room) (replicas : ℕ) (token : Option ℕ) (n : ℕ) (cs : List Change)
    → IfSome (number_in (refused_in_turn k room replicas token n cs)) (λ m. IsTrue (is_edit_refusal m))
of_turns k room replicas token n [] = tt
of_turns k room replicas token n (c ∷ cs) = of_change _ _ k _ (of_turns (k + 1) _ replicas token _ cs)

of_changes : (ops : List Op) (replica : ℕ) (a : Asked) (cs : List Change)
    → IfSome (number_in (refused_changes ops replica a cs)) (λ m. IsTrue (is_edit_refusal m))
of_changes ops replica a [] = of_stale _ _ (of_turns 0 _ _ a.token _ a.changes)
of_changes ops replica a (c ∷ []) = of_single _ (of_tests _ _ _)
of_changes ops replica a (c ∷ d ∷ cs) = of_stale _ _ (of_turns 0 _ _ a.token _ a.changes)

by_places : (places : Bool) (t : Ticket) (n : ℕ) → IsRefusal n (if places then ticket t else refused 10) → IsTrue (is_edit_refusal n)
by_places true t n is = rw is.1 refl
by_places false t n is = rw is refl

by_cause : (h : ReplicaHeld) (e : Asked) (cause : Option ℕ) (n : ℕ) → IfSome cause (λ m. IsTrue (is_edit_refusal m))
    → IsRefusal n (edit_answer_unless h e cause) → IsTrue (is_edit_refusal n)
by_cause h e (Some m) n known is = rw is known
by_cause h e None n known is = by_places (has_places h) _ n is

by_room : (room : Bool) (answer : Answer) (n : ℕ) → (IsRefusal n answer → IsTrue (is_edit_refusal n))
    → IsRefusal n (with_room room answer) → IsTrue (is_edit_refusal n)
by_room true answer n other is = other is
by_room false (ticket t) n other is = rw is refl
by_room false applied n other is = rw is refl
by_room false answer n other is = other is

by_telling : (told room : Bool) (answer : Answer) (n : ℕ) → (IsRefusal n answer → IsTrue (is_edit_refusal n))
    → IsRefusal n (if told then refused 9 else with_room room answer) → IsTrue (is_edit_refusal n)
by_telling true room answer n other is = rw is refl
by_telling false room answer n other is = by_room room answer n other is

by_known : (found : Option Ticket) (answer : Answer) (n : ℕ) → (IsRefusal n answer → IsTrue (is_edit_refusal n))
    → IsRefusal n (unless_known found answer) → IsTrue (is_edit_refusal n)
by_known None answer n other is = other is
by_known (Some t) answer n other is = rw is.1 refl

-- the machine refuses an edit with one of these numbers
pub edit_refusals : (s next : State) (session : ℕ) (e : Asked) (n : ℕ)
    → EditStep s session e (refused n) next → IsTrue (is_edit_refusal n)
edit_refusals s next session e n (is, same) =
    by_known (known_ticket s.held e) (new_edit_answer s e) n
    (by_telling s.failure_told (has_record_room s (edit_length s.held e)) (new_edit_alone s.held e) n
    (by_cause s.held e (refusal_of s.held.list s.held.replica e) n (of_changes s.held.list s.held.replica e e.changes))) is

-- ---- what stays quiet

-- an edit begins no commit
pub edit_is_quiet : (s next : State) (session : ℕ) (e : Asked) (t : Ticket) → IsQuiet s
    → EditStep s session e (ticket t) next → IsQuiet next
edit_is_quiet s next session e t quiet (answer, is) = subst IsQuiet (sym is) quiet

pub refused_is_quiet : (s next : State) (session : ℕ) (e : Asked) (n : ℕ) → IsQuiet s
    → EditStep s session e (refused n) next → IsQuiet next
refused_is_quiet s next session e n quiet (due, is) = subst IsQuiet (sym is) quiet

-- an edit that was made before is no refusal
refused_by : (h : ReplicaHeld) (e : Asked) (n : ℕ) (found : Option Ticket) → known_ticket h e ≡ found
    → IsRefusal n (unless_known found (refused 9)) → refused n ≡ unless_known found (refused 9)
refused_by h e n None k is = ap refused is
refused_by h e n (Some t) k is = let known = (known_is h e t k).known in let new = is.0 in let never : ⊥ = cc in absurd never

-- a quiet state whose device failed answers each new edit so, and stays
pub edit_fails : (s next : State) (session : ℕ) (e : Asked) (answer : Answer) → IsQuiet s → s.failed ≡ true
    → EditStep s session e answer next → (answer ≡ unless_known (known_ticket s.held e) (refused 9)) × (next ≡ s)
edit_fails s next session e (ticket t) quiet failed (answer, is) =
    let told : s.failure_told ≡ true = rw failed at quiet in
    elim (edit_cases s e t answer) [
      | was_made k found ↦ (rw k refl, rw found.known at is)
      | is_new k given due ↦ let same : refused 9 ≡ ticket t = rw told at given in absurd (cc)
    ]
edit_fails s next session e (refused n) quiet failed (due, is) =
    let told : s.failure_told ≡ true = rw failed at quiet in
    let due_then : IsRefusal n (unless_known (known_ticket s.held e) (refused 9)) = rw told at due in
    (refused_by s.held e n (known_ticket s.held e) refl due_then, is)
edit_fails s next session e _ quiet failed step = absurd step

-- ---- an acknowledgement

-- what is settled is acknowledged
pub acknowledges : (s next : State) (t : Ticket) (b : Bool) → t.end ≤ s.held.settled → AckStep s t (acknowledged b) next → b ≡ true
acknowledges s next t true settled step = refl
acknowledges s next t false settled (open_end, is) = let never : ⊥ = omega arith in absurd never

pub ack_is_quiet : (s next : State) (t : Ticket) (b : Bool) → IsQuiet s → AckStep s t (acknowledged b) next → IsQuiet next
ack_is_quiet s next t true quiet (settled, is) = subst IsQuiet (sym is) quiet
ack_is_quiet s next t false quiet (open_end, is) = subst IsQuiet (sym is) quiet
