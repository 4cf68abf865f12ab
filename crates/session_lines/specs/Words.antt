-- What answers as text are made of.
use Rattle.std.specs.Prelude.{ℕ, List, [], ◌∷◌, ◌++◌, Bool, true, false, codes}
use Rattle.std.specs.Int.{w128, to_be_bytes}
use Rattle.uuid.specs.Text.{lower, hyphenated_text}
use Rattle.serde_json.specs.Data.{string}
use Rattle.serde_json.specs.Written.{compact_text}

-- bytes of UTF-8 as a JSON string
abbrev pub quoted : List ℕ → List ℕ
quoted bytes = compact_text (string bytes)

-- a comma, where something stands before
abbrev pub comma_after : Bool → List ℕ
comma_after true = codes ","
comma_after false = []

-- items with commas between them, and the closing bracket
abbrev pub said_list : {A : Type 0} → (A → List ℕ) → Bool → List A → List ℕ
said_list said later [] = codes "]"
said_list said later (x ∷ xs) = comma_after later ++ (said x ++ said_list said true xs)

-- the name of a replica as a JSON string: a UUID, hyphenated in lower case
abbrev pub said_replica : ℕ → List ℕ
said_replica replica = quoted (hyphenated_text lower (to_be_bytes w128 replica))
