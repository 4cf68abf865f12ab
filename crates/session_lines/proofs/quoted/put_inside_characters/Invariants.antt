use Rattle.std.proofs.Common.{Ok, take, encode_utf8_all}
use Rattle.std.specs.declared.alloc.AllocError.{AllocError}
use Rattle.session_lines.specs.Putting.{Puts, inside}
use Rattle.session_lines.proofs.quoted.put_inside_characters.Given as goal

-- the characters so far are put
abbrev pub invariant-loop-character : goal.invariant-loop-character
invariant-loop-character l =
    Puts {T = Unit {0}} {E = AllocError} (Ok tt) l.initial.out l.out (inside (encode_utf8_all (take l.character-index l.characters)))
