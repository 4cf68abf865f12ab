-- What a desk does with the lines of a stream, and what is said to them.
use Rattle.std.specs.Prelude.{◌≡◌, ◌⊎◌, List, [], ◌∷◌, ◌++◌, ℕ, Option, Some, None, Result, Ok, Err, IsTrue}
use Rattle.session_lines.specs.Requests.{answer_to}
use Rattle.session_lines.specs.Saying.{said, is_long}
use Rattle.session_lines.specs.declared.command.Command.{Command}
use Rattle.session_lines.specs.declared.answer.Answer.{Answer}
use Rattle.session_lines.specs.declared.answer.Answer.TheVariants.{Refused}
use Rattle.session_lines.specs.declared.refusal.Refusal.{Refusal}
use Rattle.session_lines.specs.declared.refusal.Refusal.TheVariants.{Memory, Line}

-- what a line asks for, or why it isn't served; one that is too long isn't read
abbrev pub request_in : Option (List ℕ) → Result Command Refusal
request_in None = Err Line
request_in (Some line) = answer_to line

-- what a line is taken for: its request; or out of memory, which can come while a line is read that isn't too long
abbrev pub IsTaken : Option (List ℕ) → Result Command Refusal → Type 0
IsTaken None taken = taken ≡ Err Line
IsTaken (Some line) taken = (taken ≡ answer_to line) ⊎ (taken ≡ Err Memory)

-- what is said for an answer: its text; or out of memory, which can come in place of a text or spans alone
abbrev pub IsSaid : Answer → List ℕ → Type 0
IsSaid answer text = (text ≡ said answer) ⊎ (IsTrue (is_long answer) × (text ≡ said (Refused Memory)))

module _ {D : Type 0} (serves : D → Command → Answer → D → Type 0) where
  -- a request that isn't served is answered so, and the desk isn't asked; a command the desk serves
  abbrev pub IsAnswered : D → Result Command Refusal → Answer → D → Type 0
  IsAnswered old (Err refusal) answer new = (answer ≡ Refused refusal) × (new ≡ old)
  IsAnswered old (Ok command) answer new = serves old command answer new

  -- a line is taken for a request, which is answered, and the answer is said as this text
  pub record Exchange (old : D) (line : Option (List ℕ)) (text : List ℕ) (new : D) : Type 0 where
    pub taken : Result Command Refusal
    pub answer : Answer
    pub is_taken : IsTaken line taken
    pub is_answered : IsAnswered old taken answer new
    pub is_said : IsSaid answer text

  -- each line is answered, one after the other, and this is what was said in all
  abbrev pub Exchanges : D → List (Option (List ℕ)) → List ℕ → D → Type 0
  Exchanges old [] text new = (text ≡ []) × (new ≡ old)
  Exchanges old (line ∷ lines) text new =
      (between : D) × (first rest : List ℕ)
      × Exchange old line first between × Exchanges between lines rest new × (text ≡ first ++ rest)
