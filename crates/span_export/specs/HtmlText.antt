-- Text as it stands in HTML, between tags and between the quotes of an attribute.
use Rattle.std.specs.Prelude.{ℕ, List, [], ◌∷◌, ◌==◌, codes, flat_map, if◌then◌else◌}

-- a byte as it stands there: those that mean something by a reference, and with them a carriage return, of which a reader would
-- make a line feed, and a zero, which it would drop
abbrev pub html_byte : ℕ → List ℕ
html_byte byte =
    if byte == 38 then codes "&amp;"
    else if byte == 60 then codes "&lt;"
    else if byte == 62 then codes "&gt;"
    else if byte == 34 then codes "&quot;"
    else if byte == 39 then codes "&#39;"
    else if byte == 13 then codes "&#13;"
    else if byte == 0 then codes "&#0;"
    else byte ∷ []

-- bytes of UTF-8 as they stand there
abbrev pub html_text : List ℕ → List ℕ
html_text bytes = flat_map html_byte bytes
