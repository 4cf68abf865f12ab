-- A document as it was.
use Rattle.std.specs.Prelude.{◌≡◌, ℕ, zero, suc, ◌==◌, nat_le, if◌then◌else◌, List, [], ◌∷◌, take, Option, Some, None}
use Rattle.op_model.specs.declared.op.Op.{Op}
use Rattle.op_model.specs.declared.span.Span.{Span}
use Rattle.op_model.specs.Spans.{spans}
use Rattle.op_model.specs.Text.{rev, text}
use Rattle.doc_core.specs.Standing.{Document, StandsFor}

-- the beginning of a list up to the operation with which a document has so many; the whole list if it has fewer
abbrev pub up_to : List Op → ℕ → ℕ → List Op
up_to ops doc zero = []
up_to [] doc (suc n) = []
up_to (op ∷ ops) doc (suc n) = op ∷ up_to ops doc (if op.doc == doc then n else suc n)

-- the text of a document as it was when it had so many operations, if it has had them
abbrev pub text_past : List Op → ℕ → ℕ → Option (List ℕ)
text_past ops doc count = if nat_le count (rev ops doc) then Some (text (up_to ops doc count) doc) else None

-- its spans as they were then
abbrev pub spans_past : List Op → ℕ → ℕ → Option (List Span)
spans_past ops doc count = if nat_le count (rev ops doc) then Some (spans (up_to ops doc count) doc) else None

-- a beginning of the list has so many operations of the document, and this is what it makes of it
pub record IsPast (d : Document) (list : List Op) (doc count : ℕ) : Type 0 where
  pub number : d.number ≡ doc
  pub front : ℕ
  pub counted : rev (take front list) doc ≡ count
  pub stands : StandsFor d (take front list)
