-- A few texts of a command line.
use Rattle.std.specs.Prelude.{ℕ, List, map, take, min, length, Option, None, Some, nat_lt, if◌then◌else◌}
use Rattle.command_syntax.specs.declared.few_texts.FewTexts.{FewTexts}

-- the texts that are named
abbrev pub texts_of : FewTexts → List (List ℕ)
texts_of texts = map (λ text. text.now) (take (min texts.count 8) texts.named)

-- texts, of which there are at most 8
abbrev pub as_few : List (List ℕ) → Option (List (List ℕ))
as_few texts = if nat_lt 8 (length texts) then None else Some texts
