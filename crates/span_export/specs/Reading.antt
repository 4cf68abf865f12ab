-- How a reader takes text from HTML and from Markdown.
use Rattle.std.specs.Prelude.{ℕ, List, [], ◌∷◌, ◌++◌, ◌==◌, ◌||◌, codes, flat_map, encode_utf8_all, bytes_eq, if◌then◌else◌}
use Rattle.op_model.specs.declared.span.Span.{Span}

-- where a reader is: in text, in a tag, or in a reference whose name begins so
pub data Place : Type 0 where
  text : Place
  tag : Place
  reference : List ℕ → Place

-- what a reference names
abbrev pub named : List ℕ → ℕ
named name =
    if bytes_eq name (codes "amp") then 38
    else if bytes_eq name (codes "lt") then 60
    else if bytes_eq name (codes "gt") then 62
    else if bytes_eq name (codes "quot") then 34
    else if bytes_eq name (codes "#39") then 39
    else if bytes_eq name (codes "#9") then 9
    else if bytes_eq name (codes "#11") then 11
    else if bytes_eq name (codes "#12") then 12
    else if bytes_eq name (codes "#13") then 13
    else if bytes_eq name (codes "#32") then 32
    else 0

-- the text of HTML: what stands outside of tags, where a reference is what it names
abbrev pub read_html : Place → List ℕ → List ℕ
read_html place [] = []
read_html text (byte ∷ bytes) =
    if byte == 60 then read_html tag bytes
    else if byte == 38 then read_html (reference []) bytes
    else byte ∷ read_html text bytes
read_html tag (byte ∷ bytes) = if byte == 62 then read_html text bytes else read_html tag bytes
read_html (reference name) (byte ∷ bytes) =
    if byte == 59 then named name ∷ read_html text bytes else read_html (reference (name ++ byte ∷ [])) bytes

-- the characters of spans, as UTF-8
abbrev pub text_of : List Span → List ℕ
text_of spans = flat_map (λ s. encode_utf8_all s.text) spans

-- where a reader of Markdown is: in text, just after a backslash, in a tag, in a reference whose name begins so, in the address of
-- a link, just after a backslash in it, or just after its end
pub data Spot : Type 0 where
  plain : Spot
  escape : Spot
  inside_tag : Spot
  entity : List ℕ → Spot
  address : Spot
  address_escape : Spot
  address_end : Spot

-- the text of Markdown that has no more than emphasis by stars, links with < > and tags: what stands outside of these, where a
-- backslash is dropped and what follows it is kept, and a reference is what it names
abbrev pub read_markdown : Spot → List ℕ → List ℕ
read_markdown spot [] = []
read_markdown plain (byte ∷ bytes) =
    if byte == 92 then read_markdown escape bytes
    else if byte == 60 then read_markdown inside_tag bytes
    else if byte == 38 then read_markdown (entity []) bytes
    else if byte == 93 then read_markdown address bytes
    else if byte == 42 || byte == 91 then read_markdown plain bytes
    else byte ∷ read_markdown plain bytes
read_markdown escape (byte ∷ bytes) = byte ∷ read_markdown plain bytes
read_markdown inside_tag (byte ∷ bytes) =
    if byte == 62 then read_markdown plain bytes else read_markdown inside_tag bytes
read_markdown (entity name) (byte ∷ bytes) =
    if byte == 59 then named name ∷ read_markdown plain bytes else read_markdown (entity (name ++ byte ∷ [])) bytes
read_markdown address (byte ∷ bytes) =
    if byte == 92 then read_markdown address_escape bytes
    else if byte == 62 then read_markdown address_end bytes
    else read_markdown address bytes
read_markdown address_escape (byte ∷ bytes) = read_markdown address bytes
read_markdown address_end (byte ∷ bytes) = read_markdown plain bytes
