-- How no session begins: with a byte that stands in no line, or as an HTTP request does.
use Rattle.std.specs.Prelude.{ℕ, List, [], ◌∷◌, Bool, true, false, not, ◌==◌, ◌&&◌, ◌||◌, codes, Option, None, Some, if◌then◌else◌}
use Rattle.std.specs.Char.{is_ascii_control, is_ascii_alphanumeric, char_set_contains}
use Rattle.first_bytes.specs.declared.front.Front.{Front}
use Rattle.first_bytes.specs.declared.front.Front.TheVariants.{Nothing, Word, Foreign, Other}

-- a control byte (ASCII) other than tab, line feed and carriage return: as TLS, STUN and SOCKS begin, and no JSON text
abbrev pub is_control : ℕ → Bool
is_control byte = is_ascii_control byte && not (byte == 9 || byte == 10 || byte == 13)

-- a byte of HTTP's words (RFC 9110, section 5.6.2)
abbrev pub is_word_byte : ℕ → Bool
is_word_byte byte = is_ascii_alphanumeric byte || char_set_contains (codes "!#$%&'*+-.^_`|~") byte

-- the rest of a word, and a space
abbrev pub ends_word : List ℕ → Bool
ends_word [] = false
ends_word (byte ∷ bytes) = byte == 32 || (is_word_byte byte && ends_word bytes)

-- no session begins so: by such a control byte, or by a method and a space as a request does (RFC 9112, section 3)
abbrev pub is_foreign : List ℕ → Bool
is_foreign [] = false
is_foreign (byte ∷ bytes) = is_control byte || (is_word_byte byte && ends_word bytes)

-- with these bytes after such a beginning no session begins so
abbrev pub is_foreign_after : Front → List ℕ → Bool
is_foreign_after Nothing bytes = is_foreign bytes
is_foreign_after Word bytes = ends_word bytes
is_foreign_after Foreign bytes = true
is_foreign_after Other bytes = false

-- what may be handed on of known bytes after such a beginning: all of them, unless no session begins so
abbrev pub own_bytes : Front → Option (List ℕ) → Option (List ℕ)
own_bytes front None = None
own_bytes front (Some bytes) = if is_foreign_after front bytes then None else Some bytes
