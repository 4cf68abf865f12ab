-- What is read of a line, and what isn't.
use Rattle.std.proofs.Common.{◌≡◌, ℕ, List, Bool, true, false, Some, None, refl}
use Rattle.std.specs.Str.{IsUtf8, is_utf8}
use Rattle.std.proofs.lemmas.Str.{is_utf8-from_IsUtf8, IsUtf8-from_is_utf8}
use Rattle.serde_json.specs.Data.{Data}
use Rattle.serde_json.specs.Read.{read}
use Rattle.session_lines.specs.Requests.{reading}
use Rattle.daemon_asking.specs.Judging.{is_given, says_ok}

-- what was read says so as its value does
pub read_says : (line : List ℕ) (d : Data) → IsUtf8 line → read line ≡ Some d → is_given d ≡ says_ok line
read_says line d utf8 is = let valid = is_utf8-from_IsUtf8 line utf8 in rw (valid, is) refl

by_test : (line : List ℕ) (valid : Bool) → is_utf8 line ≡ valid → (IsUtf8 line → read line ≡ None) → reading line ≡ None
by_test line true is none = rw (is, none (IsUtf8-from_is_utf8 line is)) refl
by_test line false is none = rw is refl

-- what can't be read doesn't
pub unread_says : (line : List ℕ) → (IsUtf8 line → read line ≡ None) → false ≡ says_ok line
unread_says line none = rw (by_test line (is_utf8 line) refl none) refl
