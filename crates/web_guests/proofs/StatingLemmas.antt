-- What one field more says.
use Rattle.std.proofs.Common.{◌≡◌, ◌∙◌, ℕ, ◌+◌, ◌<◌, List, [], ◌∷◌, ◌++◌, length, take, get_or, ap}
use Rattle.std.proofs.lemmas.List.{append-nil, take_more, map-append}
use Rattle.std.proofs.lemmas.Grind.{flat_map-append}
use Rattle.httparse.specs.declared.spans.HeaderSpan.{HeaderSpan}
use Rattle.httparse.specs.declared.spans.Span.{Span}
use Rattle.httparse.specs.Spans.{header_bytes}
use Rattle.websocket.specs.Headers.{fields_of}
use Rattle.web_guests.specs.Stating.{said_by, values_of}

-- a span of nothing
abbrev pub nothing : HeaderSpan
nothing =
    let none : Span = record { start = 0; end = 0 } in
    record { name = none; value = none }

-- what is said by one field more
pub values_more : (head name : List ℕ) (spans : List HeaderSpan) (i : ℕ) → i < length spans
    → values_of (fields_of head (take (i + 1) spans)) name
    ≡ values_of (fields_of head (take i spans)) name ++ said_by name (header_bytes head (get_or spans i nothing))
values_more head name spans i inside =
    let field = header_bytes head (get_or spans i nothing) in
    let before = fields_of head (take i spans) in
    ap (λ s. values_of (fields_of head s) name) (take_more spans i nothing inside)
    ∙ ap (λ f. values_of f name) (map-append (header_bytes head) (take i spans) (get_or spans i nothing ∷ []))
    ∙ flat_map-append (said_by name) before (field ∷ [])
    ∙ ap (λ v. values_of before name ++ v) (append-nil (said_by name field))
