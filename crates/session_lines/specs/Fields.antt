-- The fields of a request, and what each is read as.
use Rattle.std.specs.Prelude.{◌≡◌, ◌≢◌, ℕ, zero, suc, ◌^◌, Bool, false, ◌&&◌, ◌==◌, nat_lt, nat_le}
use Rattle.std.specs.Prelude.{if◌then◌else◌, List, [], ◌∷◌, length, Option, Some, None, option_map}
use Rattle.std.specs.Prelude.{option_and_then, Result, Ok, Err, codes, ⊤}
use Rattle.std.specs.Int.{w128, from_be_bytes}
use Rattle.std.specs.List.{list_any, list_all}
use Rattle.std.specs.Str.{chars, bytes_eq}
use Rattle.std.specs.declared.num.NonZeroU32.{NonZeroU32}
use Rattle.std.proofs.Math.Nat.{zero-lt-suc}
use Rattle.uuid.specs.Text.{parsed}
use Rattle.serde_json.specs.Data.{Data, Members, no_members, member}
use Rattle.serde_json.specs.Find.{get, as_str, as_number, as_u64, as_object}
use Rattle.fixed_numbers.specs.declared.limits.TheConstants.{MAX_URL_LENGTH}
use Rattle.session_lines.specs.declared.refusal.Refusal.{Refusal}
use Rattle.session_lines.specs.declared.refusal.Refusal.TheVariants.{Memory, Field}
use Rattle.session_lines.specs.declared.verb.Verb.{Verb}
use Rattle.session_lines.specs.declared.verb.Verb.TheVariants as verb
use Rattle.session_lines.specs.declared.kind.Kind.{Kind}
use Rattle.session_lines.specs.declared.kind.Kind.TheVariants as kind

-- a step, and then what follows from its value; a refusal ends the reading
infixl 10 ◌>>=◌
abbrev pub ◌>>=◌ : {A B : Type 0} → Result A Refusal → (A → Result B Refusal) → Result B Refusal
(Ok x) >>= f = f x
(Err e) >>= f = Err e

-- a field that isn't there or breaks its rule is refused
abbrev pub or_field : {A : Type 0} → Option A → Result A Refusal
or_field None = Err Field
or_field (Some x) = Ok x

-- what a function returned is what is read, unless a growth was refused
abbrev pub Reads : {A : Type 0} → Result A Refusal → Result A Refusal → Type 0
Reads (Ok x) read = read ≡ Ok x
Reads (Err e) read = e ≢ Memory → read ≡ Err e

-- the request of this name
abbrev pub verb_named : List ℕ → Option Verb
verb_named name =
    if bytes_eq name (codes "insert") then Some verb.Insert
    else if bytes_eq name (codes "delete") then Some verb.Delete
    else if bytes_eq name (codes "mark") then Some verb.Mark
    else if bytes_eq name (codes "unmark") then Some verb.Unmark
    else if bytes_eq name (codes "edits") then Some verb.Edits
    else if bytes_eq name (codes "text") then Some verb.Text
    else if bytes_eq name (codes "spans") then Some verb.Spans
    else if bytes_eq name (codes "versions") then Some verb.Versions
    else if bytes_eq name (codes "changes") then Some verb.Changes
    else if bytes_eq name (codes "anchors") then Some verb.Anchors
    else if bytes_eq name (codes "places") then Some verb.Places
    else if bytes_eq name (codes "find") then Some verb.Find
    else if bytes_eq name (codes "export") then Some verb.Export
    else if bytes_eq name (codes "status") then Some verb.Status
    else if bytes_eq name (codes "peers") then Some verb.Peers
    else if bytes_eq name (codes "documents") then Some verb.Documents
    else if bytes_eq name (codes "room") then Some verb.Room
    else if bytes_eq name (codes "stop") then Some verb.Stop
    else None

-- the kind of mark of this name
abbrev pub kind_named : List ℕ → Option Kind
kind_named name =
    if bytes_eq name (codes "strong") then Some kind.Strong
    else if bytes_eq name (codes "em") then Some kind.Em
    else if bytes_eq name (codes "link") then Some kind.Link
    else if bytes_eq name (codes "comment") then Some kind.Comment
    else None

-- is one of these names
abbrev pub is_among : List ℕ → List (List ℕ) → Bool
is_among name names = list_any (λ n. bytes_eq n name) names

-- the names of members
abbrev pub names_of : Members → List (List ℕ)
names_of no_members = []
names_of (member k d ms) = k ∷ names_of ms

-- each member has one of these names
abbrev pub are_among : Members → List (List ℕ) → Bool
are_among ms names = list_all (λ name. is_among name names) (names_of ms)

-- an object whose members have no other names than these
abbrev pub has_only : Option Members → List (List ℕ) → Bool
has_only None names = false
has_only (Some ms) names = are_among ms names

-- members of other names are refused
abbrev pub only : List (List ℕ) → Data → Result ⊤ Refusal
only names d = if has_only (as_object d) names then Ok tt else Err Field

-- a number from this one to 2^32 - 1
abbrev pub in_range : ℕ → ℕ → Option ℕ
in_range low n = if nat_le low n && nat_lt n (2 ^ 32) then Some n else None

-- a number from this one to 2^32 - 1, written with no sign, fraction or exponent
abbrev pub as_whole : ℕ → Data → Option ℕ
as_whole low d = option_and_then (in_range low) (option_and_then as_u64 (as_number d))

-- the field of this name, a whole number
abbrev pub whole : List ℕ → ℕ → Data → Result ℕ Refusal
whole key low d = or_field (option_and_then (as_whole low) (get key d))

-- the field of this name, a text
abbrev pub text_at : List ℕ → Data → Option (List ℕ)
text_at key d = option_and_then as_str (get key d)

-- a whole number, if there is one
abbrev pub if_whole : Option Data → Result (Option ℕ) Refusal
if_whole None = Ok None
if_whole (Some d) = or_field (option_map (λ n. Some n) (as_whole 0 d))

-- the number of operations that the document has to have, if one is asked for
abbrev pub rev_of : Data → Result (Option ℕ) Refusal
rev_of d = if_whole (get (codes "rev") d)

-- the number of operations that the document is to be shown with, if one is asked for
abbrev pub at_rev_of : Data → Result (Option ℕ) Refusal
at_rev_of d = if_whole (get (codes "at_rev") d)

-- a number above 0
abbrev pub non_zero : ℕ → Option NonZeroU32
non_zero zero = None
non_zero (suc n) = Some (record { value = suc n; ok = zero-lt-suc n })

-- how many characters are deleted, from 1 on
abbrev pub count_of : Data → Result NonZeroU32 Refusal
count_of d = whole (codes "count") 1 d >>= λ n. or_field (non_zero n)

-- characters, at least one
abbrev pub some_characters : List ℕ → Option (List ℕ)
some_characters cs = if nat_lt 0 (length cs) then Some cs else None

-- the characters that are inserted
abbrev pub characters_of : Data → Result (List ℕ) Refusal
characters_of d = or_field (option_and_then (λ bytes. some_characters (chars bytes)) (text_at (codes "text") d))

-- the kind of mark
abbrev pub kind_of : Data → Result Kind Refusal
kind_of d = or_field (option_and_then kind_named (text_at (codes "kind") d))

-- a URL, of 1 to 1,024 bytes
abbrev pub some_url : List ℕ → Option (List ℕ)
some_url bytes = if nat_lt 0 (length bytes) && nat_le (length bytes) MAX_URL_LENGTH then Some bytes else None

-- where a link leads
abbrev pub url_of : Data → Result (List ℕ) Refusal
url_of d = or_field (option_and_then some_url (text_at (codes "url") d))

-- the number of a comment's name, a UUID in any of its text forms
abbrev pub comment_of : Data → Result ℕ Refusal
comment_of d = or_field (option_map (from_be_bytes w128) (option_and_then parsed (text_at (codes "id") d)))

-- a number that isn't the nil UUID's
abbrev pub not_nil : ℕ → Option ℕ
not_nil n = if n == 0 then None else Some n

-- the number of the token that a UUID is, in any of its text forms but nil
abbrev pub token_named : List ℕ → Option ℕ
token_named text = option_and_then (λ bytes. not_nil (from_be_bytes w128 bytes)) (parsed text)

-- a token, if there is one
abbrev pub if_token : Option Data → Result (Option ℕ) Refusal
if_token None = Ok None
if_token (Some d) = or_field (option_map (λ t. Some t) (option_and_then token_named (as_str d)))

-- the number of the edit's token, if it has one
abbrev pub token_of : Data → Result (Option ℕ) Refusal
token_of d = if_token (get (codes "token") d)
