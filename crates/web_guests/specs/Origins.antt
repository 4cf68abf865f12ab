-- Web origins as browsers write them (RFC 6454, section 6.2): a scheme, "://", a host, and a port that the scheme doesn't have by itself.
use Rattle.std.specs.Prelude.{ℕ, ◌+◌, ◌-◌, min, Bool, true, false, not, ◌&&◌, ◌||◌, ◌==◌, nat_lt, nat_le, if◌then◌else◌}
use Rattle.std.specs.Prelude.{List, [], ◌∷◌, length, take, drop, slice_index, slice_range, position, unwrap_or, codes, bytes_eq}
use Rattle.std.specs.List.{list_all}
use Rattle.std.specs.Char.{is_ascii_digit, is_ascii_lowercase}
use Rattle.std.specs.Str.Parse.{digits_value}

-- how many bytes come before the first of this one; all where there is none
abbrev pub until : ℕ → List ℕ → ℕ
until byte text = unwrap_or (position (λ b. b == byte) text) (length text)

-- a letter in lower case, a digit, '+', '-' or '.'
abbrev pub is_scheme_byte : ℕ → Bool
is_scheme_byte b = is_ascii_lowercase b || is_ascii_digit b || b == 43 || b == 45 || b == 46

-- a letter in lower case, and then such bytes
abbrev pub is_scheme : List ℕ → Bool
is_scheme [] = false
is_scheme (first ∷ rest) = is_ascii_lowercase first && list_all is_scheme_byte rest

-- a letter in lower case, a digit, '-', '.' or '_'
abbrev pub is_name_byte : ℕ → Bool
is_name_byte b = is_ascii_lowercase b || is_ascii_digit b || b == 45 || b == 46 || b == 95

-- a name or an IPv4 address
abbrev pub is_name : List ℕ → Bool
is_name text = nat_lt 0 (length text) && list_all is_name_byte text

-- a digit, a letter from a to f, ':' or '.'
abbrev pub is_address_byte : ℕ → Bool
is_address_byte b = is_ascii_digit b || (nat_le 97 b && nat_le b 102) || b == 58 || b == 46

-- an IPv6 address in brackets
abbrev pub is_address : List ℕ → Bool
is_address text =
    nat_lt 2 (length text) && slice_index text 0 == 91 && slice_index text (length text - 1) == 93
    && list_all is_address_byte (slice_range text 1 (length text - 1))

-- a host
abbrev pub is_host : List ℕ → Bool
is_host text = is_name text || is_address text

-- where a host ends: after the bracket that closes an address, or before the first colon
abbrev pub host_end : List ℕ → ℕ
host_end [] = 0
host_end (first ∷ rest) =
    let place = first ∷ rest in
    if first == 91 then min (length place) (until 93 place + 1) else until 58 place

-- up to five decimal digits, the first no zero, of a number up to 65,535
abbrev pub is_port : List ℕ → Bool
is_port digits =
    nat_lt 0 (length digits) && nat_le (length digits) 5 && not (slice_index digits 0 == 48)
    && list_all is_ascii_digit digits && nat_le (digits_value 10 digits) 65535

-- the port that the scheme has by itself
abbrev pub is_own_port : List ℕ → List ℕ → Bool
is_own_port scheme port =
    (bytes_eq scheme (codes "http") && bytes_eq port (codes "80"))
    || (bytes_eq scheme (codes "https") && bytes_eq port (codes "443"))

-- nothing, or a colon and a port that the scheme doesn't have by itself
abbrev pub is_port_tail : List ℕ → List ℕ → Bool
is_port_tail scheme [] = true
is_port_tail scheme (b ∷ port) = b == 58 && is_port port && not (is_own_port scheme port)

-- a host, and what may come after it
abbrev pub is_place : List ℕ → List ℕ → Bool
is_place scheme place =
    is_host (take (host_end place) place) && is_port_tail scheme (drop (host_end place) place)

-- a scheme, "://", and a host with what may come after it
abbrev pub is_from_place : List ℕ → Bool
is_from_place text =
    let scheme = take (until 58 text) text in
    let rest = drop (until 58 text) text in
    bytes_eq (take 3 rest) (codes "://") && is_scheme scheme && is_place scheme (drop 3 rest)

-- that in at most 255 bytes
abbrev pub is_origin : List ℕ → Bool
is_origin text = nat_le (length text) 255 && is_from_place text
