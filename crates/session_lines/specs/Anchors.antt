-- The text of a place that lasts: `start`, `end`, or a side, a counter and a replica, as `a7@` and a UUID. Each has one text, but for the
-- case of the UUID's letters.
use Rattle.std.specs.Prelude.{ℕ, ◌+◌, ◌*◌, ◌-◌, Bool, ◌&&◌, ◌==◌, nat_le, nat_lt, if◌then◌else◌, List, [], ◌∷◌, ◌++◌, length, take, drop}
use Rattle.std.specs.Prelude.{Option, Some, None, option_map, option_and_then, codes, decimal}
use Rattle.std.proofs.Common.{get_or}
use Rattle.std.specs.Int.{w128, from_be_bytes, to_be_bytes}
use Rattle.std.specs.Str.{bytes_eq}
use Rattle.uuid.specs.Text.{parsed, lower, hyphenated_text}
use Rattle.fixed_numbers.specs.declared.limits.TheConstants.{MAX_COUNTER}
use Rattle.op_ids.specs.Id.{Id}
use Rattle.op_model.specs.declared.anchor.Anchor.TheVariants.{Before, After}
use Rattle.op_model.specs.declared.lasting.Lasting.{Lasting}
use Rattle.op_model.specs.declared.lasting.Lasting.TheVariants.{StartOfText, Beside, EndOfText}
use Rattle.session_lines.specs.Fields.{not_nil}

-- a decimal digit
abbrev pub is_digit : ℕ → Bool
is_digit b = nat_le 48 b && nat_le b 57

-- the number of these digits after others of which the number is n, as long as that is no greater than a counter
abbrev pub counted : ℕ → List ℕ → Option ℕ
counted n [] = Some n
counted n (b ∷ bs) = if is_digit b && nat_le n MAX_COUNTER then counted (10 * n + (b - 48)) bs else None

-- a counter, from 1 to 2^48 - 1
abbrev pub some_counter : ℕ → Option ℕ
some_counter n = if nat_le 1 n && nat_le n MAX_COUNTER then Some n else None

-- the counter that these digits are, of which the first one isn't 0
abbrev pub counter_named : List ℕ → Option ℕ
counter_named [] = None
counter_named (b ∷ bs) = if b == 48 then None else option_and_then some_counter (counted 0 (b ∷ bs))

-- the replica that a UUID names, unless it is nil
abbrev pub replica_named : List ℕ → Option ℕ
replica_named text = option_and_then (λ bytes. not_nil (from_be_bytes w128 bytes)) (parsed text)

-- an id of both
abbrev pub id_of : List ℕ → List ℕ → Option Id
id_of digits name =
    option_and_then (λ counter. option_map (λ replica. record { counter = counter; replica = replica }) (replica_named name)) (counter_named digits)

-- the id that a counter, an `@` (64) at this index and a UUID name
abbrev pub id_at : ℕ → List ℕ → Option Id
id_at at text = if get_or text at 0 == 64 then id_of (take at text) (drop (at + 1) text) else None

-- the same, of a hyphenated UUID, which has 36 bytes
abbrev pub id_named : List ℕ → Option Id
id_named text = if nat_lt (length text) 37 then None else id_at (length text - 37) text

-- the place just after a character, or just before it
abbrev pub beside_named : List ℕ → Option Lasting
beside_named [] = None
beside_named (side ∷ text) =
    if side == 97 then option_map (λ id. Beside (After id)) (id_named text)
    else if side == 98 then option_map (λ id. Beside (Before id)) (id_named text)
    else None

-- the place of this text
abbrev pub lasting_named : List ℕ → Option Lasting
lasting_named text =
    if bytes_eq text (codes "start") then Some StartOfText else if bytes_eq text (codes "end") then Some EndOfText else beside_named text

-- an id as text
abbrev pub id_text : Id → List ℕ
id_text id = decimal id.counter ++ (codes "@" ++ hyphenated_text lower (to_be_bytes w128 id.replica))

-- the text of a place
abbrev pub lasting_text : Lasting → List ℕ
lasting_text StartOfText = codes "start"
lasting_text (Beside (After id)) = codes "a" ++ id_text id
lasting_text (Beside (Before id)) = codes "b" ++ id_text id
lasting_text EndOfText = codes "end"
