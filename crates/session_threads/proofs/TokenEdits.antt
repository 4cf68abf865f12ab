-- An edit with something to do leaves its token a ticket.
use Rattle.std.proofs.Common.{◌≡◌, ◌≢◌, ℕ, ◌<◌, Bool, true, false, List, [], length, ◌∷◌, ◌++◌, ◌+◌, Option, Some, None, refl, ap, arith, length-append}
use Rattle.std.specs.Prelude.{if◌then◌else◌}
use Rattle.std.specs.Option.{option_map}
use Rattle.op_model.specs.declared.op.Op.{Op}
use Rattle.op_model.specs.Actions.{edit_of, made_by_action, made_in_turn, refusal_of, refused_changes, refused_several, Asked}
use Rattle.op_model.specs.declared.edit.Change.{Change}
use Rattle.op_model.specs.Made.{greatest_counter, is_inside}
use Rattle.op_model.specs.Text.{visible}
use Rattle.op_model.specs.Causality.{clock_of}
use Rattle.session_threads.specs.ActsOnce.{first_size}
use Rattle.op_model.specs.Held.{ReplicaHeld}
use Rattle.op_model.specs.Made.{bodies_of, made, edit_refusal, size_of}
use Rattle.op_model.specs.Machine.{State, Answer, Ticket, ticket, applied, refused, token_ticket, EditStep, new_edit_answer}
use Rattle.op_model.specs.Machine.{edit_answer_unless, new_edit_alone, has_record_room, edit_length, with_room}
use Rattle.model_laws.proofs.Tickets.{edit_cases, was_made, is_new}
use Rattle.model_laws.proofs.EditLimits.{length-bodies_of, length-numbered}
use Rattle.model_laws.proofs.RoomInTurn.{several_passed}
use Rattle.model_laws.proofs.TurnFolds.{first_passes}
use Rattle.replica_core.proofs.SoundLemmas.{due_asks_right}
use Rattle.world_law.proofs.Known.{answered_from_then_on}

-- what is given isn't refused
given_unless : (h : ReplicaHeld) (e : Asked) (t : Ticket) (cause : Option ℕ) → edit_answer_unless h e cause ≡ ticket t → cause ≡ None
given_unless h e t None is = refl
given_unless h e t (Some n) is = absurd (cc)

given_alone : (told room : Bool) (t : Ticket) (answer : Answer) → (if told then refused 9 else with_room room answer) ≡ ticket t → answer ≡ ticket t
given_alone true room t answer is = absurd (cc)
given_alone false true t answer is = is
given_alone false false t (ticket u) is = absurd (cc)
given_alone false false t applied is = absurd (cc)
given_alone false false t answer is = is

not_refused : (s : State) (e : Asked) (t : Ticket) → new_edit_answer s e ≡ ticket t → refusal_of s.held.list s.held.replica e ≡ None
not_refused s e t is =
    given_unless s.held e t (refusal_of s.held.list s.held.replica e)
    (given_alone s.failure_told (has_record_room s (edit_length s.held e)) t (new_edit_alone s.held e) is)

number_none : (found : Option (ℕ × ℕ)) → option_map (λ (f : ℕ × ℕ). f.1) found ≡ None → found ≡ None
number_none None is = refl
number_none (Some f) is = absurd (cc)

single_none : (found : Option ℕ) → option_map {U = ℕ × ℕ} (λ n. (0, n)) found ≡ None → found ≡ None
single_none None is = refl
single_none (Some n) is = absurd (cc)

-- the first change of an action that nothing refuses lies within the text
first_inside : (ops : List Op) (replica : ℕ) (a : Asked) (c : Change) (cs : List Change) → a.changes ≡ c ∷ cs
    → refused_changes ops replica a (c ∷ cs) ≡ None → is_inside (length (visible ops a.doc)) c ≡ true
first_inside ops replica a c [] is none =
    (due_asks_right ops replica (record { doc = a.doc; rev = a.rev; token = a.token; change = c }) (single_none _ none)).inside
first_inside ops replica a c (d ∷ cs) is none =
    (first_passes 0 _ _ a.token (length (visible ops a.doc)) c (d ∷ cs) (rw is at (several_passed ops replica a none))).0

some_made : (ops : List Op) (replica : ℕ) (a : Asked) (cs : List Change) → a.changes ≡ cs → refused_changes ops replica a cs ≡ None
    → 0 < first_size cs → made_in_turn ops replica a.doc a.token cs ≢ []
some_made ops replica a [] is due some none = absurd (omega (arith, some))
some_made ops replica a (c ∷ cs) is due some none =
    let first : List Op = made ops replica (edit_of a.doc a.token c) in
    let rest : List Op = made_in_turn (ops ++ first) replica a.doc a.token cs in
    let bodies = length-bodies_of ops replica a.doc c (first_inside ops replica a c cs is due) in
    let many = length-numbered replica a.doc a.token (greatest_counter ops + 1) (clock_of ops) (bodies_of ops replica a.doc c) in
    let all = length-append first rest in
    let empty = ap (λ (ops : List Op). length ops) none in
    omega (arith, many, bodies, all, empty, some)

-- and makes some operation where its first change has something to do
makes_some : (ops : List Op) (replica : ℕ) (e : Asked) → refusal_of ops replica e ≡ None → 0 < first_size e.changes → made_by_action ops replica e ≢ []
makes_some ops replica e due some = some_made ops replica e e.changes refl (number_none _ due) some

-- so behind an edit that was given a ticket its token has it
pub leaves_ticket : (s next : State) (session : ℕ) (e : Asked) (token : ℕ) (t : Ticket) → e.token ≡ Some token → 0 < first_size e.changes
    → EditStep s session e (ticket t) next → token_ticket next.held token ≡ Some (record t { known = true })
leaves_ticket s next session e token t named some step =
    elim (edit_cases s e t step.0) [
      | was_made k found ↦
          let same : next ≡ s = let behind = step.1 in rw found.known at behind in
          let ticket_is : token_ticket s.held token ≡ Some t = rw named at k in
          let flag = found.known in
          rw same (rw ticket_is (rw flag refl))
      | is_new k answer due ↦
          answered_from_then_on s next session e token t named (makes_some s.held.list s.held.replica e (not_refused s e t answer) some) step
    ]
