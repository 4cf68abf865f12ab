-- What a crash leaves at any moment, by a wider rule.
use Rattle.std.proofs.Common.{ℕ, List, inl, inr, ◌⊎◌}
use Rattle.disk_trait.specs.Calls.{LeavesOnly}
use Rattle.disk_trait.specs.declared.facts.DiskFacts.{Ghosts}

-- what a crash leaves at any moment, said in a weaker way
pub moments_of : {D : Type 0} (facts : Ghosts D) (old new : D) (P Q : List ℕ → Type 0) → ((file : List ℕ) → P file → Q file) → LeavesOnly facts old new P
    → LeavesOnly facts old new Q
moments_of facts old new P Q weaker leaves =
    record {
      later = leaves.later;
      each = λ file left. weaker file (leaves.each file left);
      before = λ t file earlier left. either (leaves.before t file earlier left);
    }
  where
    either : {A : Type 0} {file : List ℕ} → A ⊎ P file → A ⊎ Q file
    either (inl a) = inl a
    either {file = file} (inr p) = inr (weaker file p)
