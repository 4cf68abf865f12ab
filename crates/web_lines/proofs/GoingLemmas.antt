-- Bytes that go out in several calls.
use Rattle.std.proofs.Common.{◌≡◌, ℕ, List, [], ◌++◌, Option, sym, ap, ◌∙◌, append_assoc, append-nil}
use Rattle.std.specs.Io.KnownBytes.{Appends}
use Rattle.std.proofs.KnownBytes.{Appends-trans}
use Rattle.web_lines.specs.Outgoing.{GoesOut}

-- what waited after one call goes on in the next one
pub goes-on : (a b c : Option (List ℕ)) (bytes rest left : List ℕ) → GoesOut a b bytes rest → GoesOut b c rest left → GoesOut a c bytes left
goes-on a b c bytes rest left (first, split, appended) (second, split2, appended2) = (
  first ++ second,
  split ∙ ap (λ l. first ++ l) split2 ∙ sym (append_assoc first second left),
  Appends-trans a b c first second appended appended2,
)

-- once all went out that waited, other bytes go out after it
pub goes-after : (a b c : Option (List ℕ)) (waited bytes left : List ℕ) → GoesOut a b waited [] → GoesOut b c bytes left → GoesOut a c (waited ++ bytes) left
goes-after a b c waited bytes left (first, split, appended) (second, split2, appended2) = (
  first ++ second,
  ap (λ l. l ++ bytes) (split ∙ append-nil first) ∙ ap (λ l. first ++ l) split2 ∙ sym (append_assoc first second left),
  Appends-trans a b c first second appended appended2,
)

-- and so do bytes that were all written
pub writes-after : (a b c : Option (List ℕ)) (waited bytes : List ℕ) → GoesOut a b waited [] → Appends b c bytes → Appends a c (waited ++ bytes)
writes-after a b c waited bytes (first, split, appended) appended2 = rw (split ∙ append-nil first) (Appends-trans a b c first bytes appended appended2)
