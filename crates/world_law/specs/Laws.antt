-- What is so of every world that a history leads to.
use Rattle.std.specs.Prelude.{◌≡◌, ◌≢◌, ℕ, ◌≤◌, List, ◌++◌, take, Some, true}
use Rattle.op_model.specs.declared.op.Op.{Op}
use Rattle.op_model.specs.Actions.{Asked, made_by_action}
use Rattle.op_model.specs.Causality.{clock_of, HasOp}
use Rattle.op_model.specs.Text.{text, rev}
use Rattle.op_model.specs.Spans.{spans}
use Rattle.op_model.specs.Machine.{State, Answer, Ticket, ticket, token_ticket, EditStep}
use Rattle.world_law.specs.World.{World, HasMachine, IsInBag, IsBeginning}
use Rattle.world_law.specs.Histories.{Happening, History}
use Rattle.world_law.specs.Tokens.{WasAnswered}

-- no two replicas hold different operations under one id, nor does one
abbrev pub HoldsOneOperation : World → Type 0
HoldsOneOperation w =
    (a b : State) (x y : Op) → HasMachine w.machines a → HasMachine w.machines b → HasOp a.held.list x → HasOp b.held.list y
    → x.id ≡ y.id → x ≡ y

-- nor does a message tell another one
pub record TellsOneOperation (w : World) : Type 0 where
  -- than any message
  pub once : (x y : Op) → IsInBag w.bag x → IsInBag w.bag y → x.id ≡ y.id → x ≡ y
  -- than any replica holds
  pub as_held : (m : State) (x y : Op) → HasMachine w.machines m → HasOp m.held.list x → IsInBag w.bag y → x.id ≡ y.id → x ≡ y

-- no edit of any replica makes an operation with this one's id, whether it would be refused or not
abbrev pub MakesNoOther : World → Op → Type 0
MakesNoOther w told =
    (m : State) (edit : Asked) (op : Op) → HasMachine w.machines m → HasOp (made_by_action m.held.list m.held.replica edit) op
    → op.id ≢ told.id

-- replicas with equal clocks show equal text and spans in every document, and count as many operations of it
abbrev pub ShowsTheSame : World → Type 0
ShowsTheSame w =
    (a b : State) (doc : ℕ) → HasMachine w.machines a → HasMachine w.machines b → clock_of a.held.list ≡ clock_of b.held.list
    → (text a.held.list doc ≡ text b.held.list doc) × (spans a.held.list doc ≡ spans b.held.list doc)
    × (rev a.held.list doc ≡ rev b.held.list doc)

-- each operation in the bag is among the settled ones of its maker
abbrev pub KeepsWhatWasTold : World → Type 0
KeepsWhatWasTold w =
    (op : Op) → IsInBag w.bag op
    → (m : State) × HasMachine w.machines m × (m.held.replica ≡ op.id.replica) × HasOp (take m.held.settled m.held.list) op

-- so it is at every moment of every history, whatever is lost, repeated, late or in another order, and whichever replicas crash
abbrev pub Always : (World → Type 0) → Type 0
Always P = (w after : World) (hs : List Happening) → IsBeginning w → History w hs after → P after

-- what is told at some moment has an id that is never made again from then on
abbrev pub NeverMadeAgain : Type 0
NeverMadeAgain =
    (w mid after : World) (hs more : List Happening) (told : Op) → IsBeginning w → History w hs mid → IsInBag mid.bag told
    → History mid more after → MakesNoOther after told

-- each front of a history is one, and so is what follows it: what holds behind every history holds at every moment
abbrev pub EachFrontIsOne : Type 0
EachFrontIsOne =
    (w after : World) (front rest : List Happening) → History w (front ++ rest) after
    → (mid : World) × History w front mid × History mid rest after

-- an edit with this token was made, its ticket is this one, and its operations are settled
pub record Answers (m : State) (token : ℕ) (t : Ticket) : Type 0 where
  pub ticket : token_ticket m.held token ≡ Some t
  pub settled : t.end ≤ m.held.settled

-- from then on the token has the same ticket at every moment, across all crashes of its replica
abbrev pub AnsweredForever : Type 0
AnsweredForever =
    (w mid after : World) (hs more : List Happening) (m n : State) (token : ℕ) (t : Ticket) → IsBeginning w → History w hs mid
    → HasMachine mid.machines m → Answers m token t → History mid more after → HasMachine after.machines n
    → n.held.replica ≡ m.held.replica → Answers n token t

-- An edit that was answered under its token acts once: whatever any replica does from then on, and however often it crashes and is opened
-- again, the same edit is answered the first ticket whenever it is sent again, in whichever session, and nothing changes: the list has no
-- operation more.
abbrev pub ActsOnce : Type 0
ActsOnce =
    (w mid after : World) (hs more : List Happening) (s m n next : State) (session again : ℕ) (e : Asked) (answer : Answer) (token : ℕ) (t : Ticket)
    → IsBeginning w → History w hs mid → HasMachine mid.machines m → WasAnswered s session e token t m → History mid more after
    → HasMachine after.machines n → n.held.replica ≡ m.held.replica → EditStep n again e answer next
    → (answer ≡ ticket (record t { known = true })) × (next ≡ n)
