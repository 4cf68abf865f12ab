-- Places of the visible text that last: each stays with one of its two neighbours.
use Rattle.std.specs.Prelude.{ℕ, ◌+◌, ◌*◌, Bool, true, not, if◌then◌else◌, List, length, take, filter, Option, Some, None}
use Rattle.op_ids.specs.Id.{Id}
use Rattle.op_model.specs.declared.op.Op.{Op}
use Rattle.op_model.specs.declared.anchor.Anchor.{Anchor}
use Rattle.op_model.specs.declared.anchor.Anchor.TheVariants.{Before, After}
use Rattle.op_model.specs.declared.lasting.Lasting.{Lasting}
use Rattle.op_model.specs.declared.lasting.Lasting.TheVariants.{StartOfText, Beside, EndOfText}
use Rattle.op_model.specs.declared.lasting.Neighbour.{Neighbour}
use Rattle.op_model.specs.declared.lasting.Neighbour.TheVariants.{Previous, Next}
use Rattle.op_model.specs.declared.character.Character.{Character}
use Rattle.op_model.specs.Made.{id_at, id_before}
use Rattle.op_model.specs.Places.{index_of, place}
use Rattle.op_model.specs.Placing.{has_id}
use Rattle.op_model.specs.Text.{is_removed, visible}
use Rattle.op_model.specs.Walk.{walk}

-- just after this character, or at the start of the text
abbrev pub beside_previous : Option Id → Lasting
beside_previous None = StartOfText
beside_previous (Some id) = Beside (After id)

-- just before this character, or at the end of the text
abbrev pub beside_next : Option Id → Lasting
beside_next None = EndOfText
beside_next (Some id) = Beside (Before id)

-- the place after the first so many visible characters, that stays with the last of them or with the next one
abbrev pub place_of : List Op → ℕ → ℕ → Neighbour → Lasting
place_of ops doc at Previous = beside_previous (id_before (visible ops doc) at)
place_of ops doc at Next = beside_next (id_at (visible ops doc) at)

-- how many of these characters stand before an anchor
abbrev pub reach_of : List Character → Anchor → ℕ
reach_of cs (Before id) = index_of id cs
reach_of cs (After id) = index_of id cs + 1

-- how many of these characters stand before a place
abbrev pub reach : List Character → Lasting → ℕ
reach cs StartOfText = 0
reach cs (Beside anchor) = reach_of cs anchor
reach cs EndOfText = length cs

-- the character that an anchor stands beside is one of these
abbrev pub has_character : List Character → Anchor → Bool
has_character cs (Before id) = has_id cs id
has_character cs (After id) = has_id cs id

-- the start and the end of the text are always there, a place beside a character where that is one of these
abbrev pub is_there : List Character → Lasting → Bool
is_there cs StartOfText = true
is_there cs (Beside anchor) = has_character cs anchor
is_there cs EndOfText = true

-- how many of the first so many characters of a document a reader sees
abbrev pub seen_of : List Op → ℕ → ℕ → ℕ
seen_of ops doc n = length (filter (λ c. not (is_removed ops doc c)) (take n (walk ops doc)))

-- how many visible characters stand before a place, if it is there
abbrev pub at_of : List Op → ℕ → Lasting → Option ℕ
at_of ops doc p = if is_there (walk ops doc) p then Some (seen_of ops doc (reach (walk ops doc) p)) else None

-- the number of a place among all places beside these characters, from the start of the text to its end
abbrev pub number_of : List Character → Lasting → ℕ
number_of cs StartOfText = 0
number_of cs (Beside anchor) = place cs anchor
number_of cs EndOfText = 2 * length cs + 1
