-- Text as it stands in Markdown.
use Rattle.std.specs.Prelude.{ℕ, List, [], ◌∷◌, ◌++◌, ◌==◌, Bool, false, ◌&&◌, ◌||◌, codes, encode_utf8_all, if◌then◌else◌}
use Rattle.std.specs.Char.{is_ascii_digit}
use Rattle.span_export.specs.declared.before.Before.{Before}
use Rattle.span_export.specs.declared.before.Before.TheVariants.{LineStart, Digits, Space, Word}
use Rattle.span_export.specs.Putting.{if_wanted}
use Rattle.span_export.specs.Draft.{Written, wrote, is_line_start, is_digits, is_sign_end}

-- a tag that shows nothing, and keeps apart what stands before it and after it
abbrev pub separator : List ℕ
separator = codes "<span></span>"

-- a byte that means something wherever it stands: \ ` * _ [ ] < > & ! ~ |
abbrev pub is_always_marker : ℕ → Bool
is_always_marker byte =
    byte == 92 || (byte == 96 || (byte == 42 || (byte == 95 || (byte == 91 || (byte == 93
    || (byte == 60 || (byte == 62 || (byte == 38 || (byte == 33 || (byte == 126 || byte == 124))))))))))

-- a byte that means something at the start of a line: # + - = :
abbrev pub is_line_marker : ℕ → Bool
is_line_marker byte = byte == 35 || (byte == 43 || (byte == 45 || (byte == 61 || byte == 58)))

-- a byte that makes the digits before it the number of a list's item: . )
abbrev pub is_list_marker : ℕ → Bool
is_list_marker byte = byte == 46 || byte == 41

-- a byte that means something there
abbrev pub is_marker : Before → ℕ → Bool
is_marker before byte =
    is_always_marker byte
    || (is_line_start before && is_line_marker byte || is_digits before && is_list_marker byte)

-- a byte as it stands there: a line feed as a break of the line; white space that would be lost by a reference, and a zero too; what
-- means something after a backslash
abbrev pub shown : Before → ℕ → List ℕ
shown before byte =
    if byte == 0 then codes "&#0;"
    else if byte == 9 then codes "&#9;"
    else if byte == 10 then codes "\\\n"
    else if byte == 11 then codes "&#11;"
    else if byte == 12 then codes "&#12;"
    else if byte == 13 then codes "&#13;"
    else if is_line_start before && byte == 32 then codes "&#32;"
    else if is_marker before byte then 92 ∷ byte ∷ []
    else byte ∷ []

-- the end of emphasis after a sign would be none before a byte other than white space
abbrev pub needs_gap : Before → ℕ → Bool
needs_gap before byte = if byte == 32 || byte == 10 then false else is_sign_end before

-- what stands before the next byte, after this one
abbrev pub behind : Before → ℕ → Before
behind before byte =
    if byte == 10 then LineStart
    else if byte == 32 then Space
    else if (is_line_start before || is_digits before) && is_ascii_digit byte then Digits
    else Word

-- a byte written
abbrev pub add_byte : ℕ → Written → Written
add_byte byte w =
    wrote (if_wanted (needs_gap w.before byte) separator ++ shown w.before byte) (behind w.before byte) w

-- bytes written, one after the other
abbrev pub add_bytes : List ℕ → Written → Written
add_bytes [] w = w
add_bytes (byte ∷ bytes) w = add_bytes bytes (add_byte byte w)

-- characters written
abbrev pub add_characters : List ℕ → Written → Written
add_characters characters w = add_bytes (encode_utf8_all characters) w
