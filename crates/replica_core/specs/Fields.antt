-- Used by private functions and proofs alone.
--
-- The fields of a replica.
use Rattle.std.specs.Prelude.{◌≡◌, ℕ, List}
use Rattle.op_model.specs.declared.op.Op.{Op}
use Rattle.op_model.specs.Causality.{clock_of}
use Rattle.op_model.specs.Replay.{Kept}
use Rattle.doc_core.specs.declared.doc.Doc.{Doc}
use Rattle.edit_tokens.specs.declared.place.Place.{Place}
use Rattle.edit_tokens.specs.Places.{AreTokens}
use Rattle.replica_core.specs.declared.index.Index.{Index}
use Rattle.replica_core.specs.declared.repeats.Repeats.{Repeats}
use Rattle.replica_core.specs.Docs.{AreDocs}
use Rattle.replica_core.specs.Indexes.{IsIndexOf}
use Rattle.replica_core.specs.Repeats.{AreRepeats}
use Rattle.op_model.specs.Held.{ReplicaHeld}
use Rattle.replica_core.specs.Held.{IsSound}

-- what a replica with these fields holds
abbrev pub held_of : ℕ → List Op → ℕ → ℕ → ℕ → ℕ → List Kept → ReplicaHeld
held_of replica list opened settled acked told steps = record {
  replica = replica;
  list = list;
  opened = opened;
  settled = settled;
  acked = acked;
  told = told;
  steps = steps;
}

-- what a replica holds is sound, its clock, its documents and its index are those of the list, and its tokens those of its own edits, and what was
-- removed again is noted, from the opening on
pub record AreFields (h : ReplicaHeld) (counts : List (ℕ × ℕ)) (kept_docs : List Doc) (known : Index) (places : List (ℕ × Place)) (noted : Repeats) : Type 0 where
  pub sound : IsSound h
  pub clock : counts ≡ clock_of h.list
  pub docs : AreDocs kept_docs h.list
  pub index : IsIndexOf known h.list
  pub tokens : AreTokens places h.replica h.list
  pub repeats : AreRepeats noted h.list
  pub noted_from : noted.from ≡ h.opened
