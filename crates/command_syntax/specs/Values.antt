-- The values of a command line that aren't taken as written.
use Rattle.std.specs.Prelude.{ℕ, ◌^◌, Bool, ◌&&◌, ◌==◌, nat_lt, List, length, Option, Some, None}
use Rattle.std.specs.Prelude.{option_map, option_and_then, if◌then◌else◌}
use Rattle.std.specs.Int.{w128, from_be_bytes}
use Rattle.std.specs.List.{list_all}
use Rattle.std.specs.Char.{is_ascii_digit}
use Rattle.std.specs.Str.Parse.{digits_value}
use Rattle.uuid.specs.Text.{parsed}
use Rattle.span_export.specs.declared.exporting.Form.{Form}
use Rattle.span_export.specs.declared.exporting.Form.TheVariants.{Text}
use Rattle.span_export.specs.Exported.{form_named}

-- a number above 0
abbrev pub above_zero : ℕ → Option ℕ
above_zero n = if n == 0 then None else Some n

-- decimal digits, and nothing else
abbrev pub is_decimal : List ℕ → Bool
is_decimal text = nat_lt 0 (length text) && list_all is_ascii_digit text

-- a number in decimal digits, up to 2^32 - 1
abbrev pub decimal_of : List ℕ → Option ℕ
decimal_of text =
    if is_decimal text && nat_lt (digits_value 10 text) (2 ^ 32) then Some (digits_value 10 text) else None

-- a number in decimal digits, from 1 to 2^32 - 1
abbrev pub from_one_of : List ℕ → Option ℕ
from_one_of text = option_and_then above_zero (decimal_of text)

-- the number of a document in decimal digits, from 1 to 2^32 - 1
abbrev pub doc_of : List ℕ → Option ℕ
doc_of text = from_one_of text

-- how many operations a version has at most, from 1 to 2^32 - 1: where it isn't named, the greatest of these
abbrev pub every_of : Option (List ℕ) → Option ℕ
every_of None = Some 4294967295
every_of (Some text) = from_one_of text

-- a number that a port may have
abbrev pub as_port : ℕ → Option ℕ
as_port n = if nat_lt 0 n && nat_lt n (2 ^ 16) then Some n else None

-- a port in decimal digits, from 1 to 65,535
abbrev pub port_of : List ℕ → Option ℕ
port_of text = option_and_then as_port (decimal_of text)

-- a port that may be left out: where it is, there is none
abbrev pub optional_port_of : Option (List ℕ) → Option (Option ℕ)
optional_port_of None = Some None
optional_port_of (Some text) = option_map (λ port. Some port) (port_of text)

-- a number that may be left out: where it is, there is none
abbrev pub optional_number_of : Option (List ℕ) → Option (Option ℕ)
optional_number_of None = Some None
optional_number_of (Some text) = option_map (λ n. Some n) (decimal_of text)

-- the replica that a UUID names, in any of its text forms but nil
abbrev pub replica_of : List ℕ → Option ℕ
replica_of text = option_and_then (λ bytes. above_zero (from_be_bytes w128 bytes)) (parsed text)

-- the form of an export, with breaks of the line in place of paragraphs or not: that of this name, and the text alone where none is named
abbrev pub form_of : Option (List ℕ) → Bool → Option Form
form_of None breaks = Some Text
form_of (Some name) breaks = form_named name breaks
