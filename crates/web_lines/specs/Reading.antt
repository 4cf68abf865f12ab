-- What a session reads, and of which messages it is.
use Rattle.std.specs.Prelude.{◌≡◌, ℕ, List, [], ◌∷◌, ◌++◌, take, Option, Some, Result, Ok, Err, OnOk, ⊤}
use Rattle.tungstenite.specs.Socket.{Socket, Reads, Writes, Flushed, content_of}
use Rattle.tungstenite.specs.declared.error.Error.{Error}
use Rattle.tungstenite.specs.declared.message.Message.{Message}
use Rattle.web_lines.specs.Endings.{ending_after, ending_by}
use Rattle.web_lines.specs.Lines.{lines_of}
use Rattle.websocket.specs.Connection.{close_step}
use Rattle.web_lines.specs.declared.ending.Ending.{Ending}
use Rattle.web_lines.specs.declared.ending.Ending.TheVariants.{NotYet, Closed, Refused, StreamEnded}
use Rattle.web_lines.specs.declared.message_lines.MessageLines.{MessageLines}

-- what some reads of a socket gave, in order
abbrev pub Given : Type 0
Given = List (Result Message Error)

-- the lines of what a read gave: none if it gave no message
abbrev pub lines_read : Result Message Error → List ℕ
lines_read (Ok message) = lines_of (content_of message)
lines_read (Err _) = []

-- the lines of all that was given
abbrev pub lines_given : Given → List ℕ
lines_given [] = []
lines_given (given ∷ rest) = lines_read given ++ lines_given rest

-- how a connection is after a read gave this
abbrev pub ending_given : Result Message Error → Ending
ending_given (Ok message) = ending_after (content_of message)
ending_given (Err error) = ending_by error

-- how it is after these reads
abbrev pub last_ending : Ending → Given → Ending
last_ending ending [] = ending
last_ending ending (given ∷ rest) = last_ending (ending_given given) rest

-- each of these reads found the connection open: nothing is read of one that ended
abbrev pub FoundOpen : Ending → Given → Type 0
FoundOpen ending [] = ⊤
FoundOpen ending (given ∷ rest) = (ending ≡ NotYet) × FoundOpen (ending_given given) rest

-- the bytes that a call handed on
abbrev pub handed_bytes : {E : Type 0} → Result ℕ E → List ℕ → List ℕ
handed_bytes (Ok count) piece = take count piece
handed_bytes (Err _) piece = []

module _ {S : Type 0} where
  -- reads of a socket, one after another: before each, all that waited to be sent went out
  abbrev pub ReadsInTurn : (S → Option (List ℕ)) → (S → Option (List ℕ)) → Socket S → Given → Socket S → Type 0
  ReadsInTurn contents remaining old [] new = new ≡ old
  ReadsInTurn contents remaining old (given ∷ rest) new =
      (ready after : Socket S) × Flushed contents old ready × (ready.output ≡ []) × Reads remaining ready after given
      × ReadsInTurn contents remaining after rest new

  -- a read was noted: its lines are held, and how the connection is
  pub record Notes (remaining : S → Option (List ℕ)) (old new : MessageLines S) : Type 0 where
    pub given : Result Message Error
    pub reads : Reads remaining old.socket new.socket given
    pub lines : new.held ≡ lines_read given
    pub ending : new.ending ≡ ending_given given

  -- the other end was told how the connection is: a refusal is a close with its code, and nothing waits to be sent
  abbrev pub Tells : (S → Option (List ℕ)) → Ending → Socket S → Socket S → Type 0
  Tells contents NotYet old new = Flushed contents old new × (new.output ≡ [])
  Tells contents (Closed code) old new = Flushed contents old new × (new.output ≡ [])
  Tells contents (Refused code) old new = Writes contents old new (close_step old.conn (Some (code, []))) × (new.output ≡ [])
  Tells contents StreamEnded old new = new ≡ old

  -- these bytes were handed on: with what is held they are what was held, and the lines of the messages that were read meanwhile, in order
  pub record Brings (contents remaining : S → Option (List ℕ)) (old new : MessageLines S) (bytes : List ℕ) : Type 0 where
    pub given : Given
    pub last : Socket S
    pub reads : ReadsInTurn contents remaining old.socket given last
    pub found : FoundOpen old.ending given
    pub lines : old.held ++ lines_given given ≡ bytes ++ new.held
    pub ending : new.ending ≡ last_ending old.ending given
    pub goes_on : new.ending ≡ NotYet → Flushed contents last new.socket

  -- what a call brought, and unless it failed the other end was told
  pub record HandsOn {E : Type 0} (contents remaining : S → Option (List ℕ)) (old new : MessageLines S) (result : Result ℕ E) (piece : List ℕ) : Type 0 where
    pub brings : Brings contents remaining old new (handed_bytes result piece)
    pub tells : OnOk result ((ready : Socket S) × Flushed contents brings.last ready × Tells contents new.ending ready new.socket)
