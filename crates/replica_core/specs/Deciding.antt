-- Used by private functions and proofs alone.
--
-- What decides on an operation before anything changes.
use Rattle.std.specs.Prelude.{◌≡◌, ℕ, ◌+◌, Bool, ◌&&◌, nat_lt, List, [], ◌∷◌}
use Rattle.std.specs.List.{list_all}
use Rattle.op_ids.specs.Id.{Id}
use Rattle.op_model.specs.declared.op.Op.{Op}
use Rattle.op_model.specs.declared.op.Body.{Body}
use Rattle.op_model.specs.Causality.{IsCausallyClosed, clock_of, is_covered_insert}
use Rattle.op_model.specs.Records.{body_length}
use Rattle.edit_tokens.specs.Places.{AreTokens}
use Rattle.replica_core.specs.declared.index.Index.{Index}
use Rattle.replica_core.specs.declared.opening.Opened.{Opened}
use Rattle.replica_core.specs.Docs.{AreDocs}
use Rattle.replica_core.specs.Indexes.{IsIndexOf}

-- a causally closed list, its clock and its index
pub record AreCounted (ops : List Op) (counts : List (ℕ × ℕ)) (known : Index) : Type 0 where
  pub closed : IsCausallyClosed ops
  pub clock : counts ≡ clock_of ops
  pub index : IsIndexOf known ops

-- a causally closed list, its clock, its documents, its index, and the tokens of a replica's edits in it
pub record AreKnown (ops : List Op) (replica : ℕ) (found : Opened) : Type 0 where
  pub closed : IsCausallyClosed ops
  pub clock : found.clock ≡ clock_of ops
  pub docs : AreDocs found.docs.items ops
  pub index : IsIndexOf found.index ops
  pub tokens : AreTokens found.tokens replica ops

-- how many bytes the contents of these records take
abbrev pub lengths : List Body → ℕ
lengths [] = 0
lengths (b ∷ bs) = body_length b + lengths bs

-- these are inserts of an operation's document that its deps cover, with smaller counters
abbrev pub names_all : List Op → Op → List Id → Bool
names_all ops op ids = list_all (λ id. is_covered_insert ops op.deps op.doc id && nat_lt id.counter op.id.counter) ids
