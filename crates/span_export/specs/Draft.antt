-- Markdown that is being written.
use Rattle.std.specs.Prelude.{ℕ, List, ◌++◌, Bool, true, false}
use Rattle.span_export.specs.declared.before.Before.{Before}
use Rattle.span_export.specs.declared.before.Before.TheVariants.{LineStart, Digits, Space, Word, LetterEnd, SignEnd}

-- what is written so far, and what stands before the next byte
pub record Written : Type 0 where
  pub bytes : List ℕ
  pub before : Before

-- these bytes written, after which this stands before the next
abbrev pub wrote : List ℕ → Before → Written → Written
wrote bytes before w = record { bytes = w.bytes ++ bytes; before = before }

-- nothing of the line stands there
abbrev pub is_line_start : Before → Bool
is_line_start LineStart = true
is_line_start _ = false

-- digits stand there, and nothing else of the line
abbrev pub is_digits : Before → Bool
is_digits Digits = true
is_digits _ = false

-- emphasis ended there after a character that is no letter
abbrev pub is_sign_end : Before → Bool
is_sign_end SignEnd = true
is_sign_end _ = false

-- emphasis ended there
abbrev pub is_end : Before → Bool
is_end LetterEnd = true
is_end SignEnd = true
is_end _ = false

-- text stands there that is no space
abbrev pub is_text : Before → Bool
is_text Digits = true
is_text Word = true
is_text _ = false

-- white space stands there, which would be lost at the end
abbrev pub is_loose : Before → Bool
is_loose LineStart = true
is_loose Space = true
is_loose _ = false
