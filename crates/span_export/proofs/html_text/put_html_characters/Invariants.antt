use Rattle.std.proofs.Common.{◌≡◌, ◌++◌, take, encode_utf8_all}
use Rattle.span_export.specs.HtmlText.{html_text}
use Rattle.span_export.proofs.html_text.put_html_characters.Given as goal

-- the characters so far are put
abbrev pub invariant-loop-character : goal.invariant-loop-character
invariant-loop-character l =
    l.out.items ≡ l.initial.out.items ++ html_text (encode_utf8_all (take l.character-index l.characters))
