-- Used by private functions and proofs alone.
--
-- The documents of a list.
use Rattle.std.specs.Prelude.{◌≡◌, ◌<◌, ℕ, List, [], ◌∷◌, length, map, slice_index_or}
use Rattle.doc_core.specs.declared.doc.Doc.{Doc}
use Rattle.doc_core.specs.declared.draft.Draft.{Draft}
use Rattle.doc_core.specs.Drafting.{IsDraftOf}
use Rattle.doc_core.specs.Standing.{StandsFor}
use Rattle.op_model.specs.declared.op.Op.{Op}
use Rattle.op_model.specs.Causality.{documents}

-- the number of a document
abbrev pub doc_number : Doc → ℕ
doc_number d = d.number

-- their numbers
abbrev pub numbers : List Doc → List ℕ
numbers ds = map doc_number ds

-- each of these stands for a list
abbrev pub AllStand : List Doc → List Op → Type 0
AllStand [] ops = Unit {0}
AllStand (d ∷ ds) ops = StandsFor d ops × AllStand ds ops

-- these are the documents of a list: one for each that has operations, in rising order, and each stands for the list
pub record AreDocs (docs : List Doc) (ops : List Op) : Type 0 where
  pub numbers : numbers docs ≡ documents ops
  pub stand : AllStand docs ops

-- the number of a draft
abbrev pub draft_number : Draft → ℕ
draft_number d = d.number

-- the numbers of drafts
abbrev pub draft_numbers : List Draft → List ℕ
draft_numbers ds = map draft_number ds

-- each of these is a draft of a list
abbrev pub AllDrafts : List Draft → List Op → Type 0
AllDrafts [] ops = Unit {0}
AllDrafts (d ∷ ds) ops = IsDraftOf d ops × AllDrafts ds ops

-- these are drafts of a list, one for each of these numbers
pub record AreDrafts (ds : List Draft) (ns : List ℕ) (ops : List Op) : Type 0 where
  pub numbers : draft_numbers ds ≡ ns
  pub drafts : AllDrafts ds ops

-- at this index of the numbers stands this one
pub record IsNumberAt (ns : List ℕ) (at n : ℕ) : Type 0 where
  pub there : at < length ns
  pub number : n ≡ slice_index_or ns at n
