use Rattle.std.proofs.Common.{◌≡◌, take}
use Rattle.span_export.specs.MarkdownText.{add_characters}
use Rattle.span_export.proofs.markdown_text.add_characters.Given as goal

-- the characters so far are written
abbrev pub invariant-loop-character : goal.invariant-loop-character
invariant-loop-character l = l.draft ≡ add_characters (take l.character-index l.characters) l.initial.draft
