-- What an edit's token promises of one replica. An edit is one change of a document or several, made at once.
use Rattle.std.specs.Prelude.{◌≡◌, ◌≢◌, ℕ, List, [], Some, true}
use Rattle.op_model.specs.Actions.{Asked, made_by_action}
use Rattle.op_model.specs.Machine.{State, Event, Answer, Ticket, ticket, acknowledged, token_ticket, EditStep, AckStep, Run}

-- the edit has this token, whose ticket is this one: it was made before
abbrev pub IsNamed : State → Asked → ℕ → Ticket → Type 0
IsNamed s e token t = (e.token ≡ Some token) × (token_ticket s.held token ≡ Some t)

-- an edit that was made before is answered its ticket, never a refusal, and adds nothing
abbrev pub IsAnsweredAsItWas : Type 0
IsAnsweredAsItWas =
    (s next : State) (session : ℕ) (e : Asked) (answer : Answer) (token : ℕ) (t : Ticket) → IsNamed s e token t
    → EditStep s session e answer next → (answer ≡ ticket t) × (next ≡ s)

-- the ticket that an edit is answered is the ticket of its token behind it
abbrev pub IsAnsweredFromThenOn : Type 0
IsAnsweredFromThenOn =
    (s next : State) (session : ℕ) (e : Asked) (token : ℕ) (t : Ticket) → e.token ≡ Some token
    → made_by_action s.held.list s.held.replica e ≢ []
    → EditStep s session e (ticket t) next → token_ticket next.held token ≡ Some (record t { known = true })

-- The session's edit with this token was answered with this ticket, whatever events came behind it, and then the ticket was acknowledged:
-- only so a session is told that its edit is made.
pub record WasAnswered (old : State) (session : ℕ) (e : Asked) (token : ℕ) (t : Ticket) (new : State) : Type 0 where
  pub named : e.token ≡ Some token
  pub some : made_by_action old.held.list old.held.replica e ≢ []
  pub behind : State
  pub given : EditStep old session e (ticket t) behind
  pub events : List (Event × Answer)
  pub before : State
  pub run : Run behind events before
  pub acknowledged : AckStep before t (acknowledged true) new
