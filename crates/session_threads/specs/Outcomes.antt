-- How a session ends.
use Rattle.std.specs.Prelude.{◌≡◌, List, [], ◌∷◌, ◌++◌, ℕ, Option}
use Rattle.std.specs.Io.KnownBytes.{Appends, Consumes, IsAtEnd}
use Rattle.byte_streams.specs.Fronts.{BeginsWith}
use Rattle.session_lines.specs.declared.command.Command.{Command}
use Rattle.session_lines.specs.declared.answer.Answer.{Answer}
use Rattle.session_threads.specs.Lines.{lines_read}
use Rattle.session_threads.specs.Exchanges.{Exchange, Exchanges}

module _ {D : Type 0} (serves : D → Command → Answer → D → Type 0) where
  -- each line is answered, one after the other, but of the last one's answer only a beginning may have been written
  abbrev pub CutOff : D → List (Option (List ℕ)) → List ℕ → D → Type 0
  CutOff old [] written new = (written ≡ []) × (new ≡ old)
  CutOff old (line ∷ []) written new = (text : List ℕ) × Exchange serves old line text new × BeginsWith text written
  CutOff old (line ∷ next ∷ lines) written new =
      (between : D) × (first rest : List ℕ)
      × Exchange serves old line first between × CutOff between (next ∷ lines) rest new × (written ≡ first ++ rest)

  module _ (old new : D) (input_old input_new output_old output_new : Option (List ℕ)) where
    -- the whole input was read, each of its lines was answered, and the answers were written
    pub record Served : Type 0 where
      pub read : List ℕ
      pub text : List ℕ
      pub consumed : Consumes input_old input_new read
      pub ended : IsAtEnd input_new
      pub answered : Exchanges serves old (lines_read read) text new
      pub written : Appends output_old output_new text

    -- of what was read a beginning of the lines was answered, and the answers were written, the last perhaps in part
    pub record CutShort : Type 0 where
      pub read : List ℕ
      pub lines : List (Option (List ℕ))
      pub text : List ℕ
      pub consumed : Consumes input_old input_new read
      pub first : BeginsWith (lines_read read) lines
      pub answered : CutOff old lines text new
      pub written : Appends output_old output_new text
