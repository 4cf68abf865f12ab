-- Used by private functions and proofs alone.
--
-- The versions of a document, as they are found one after another.
use Rattle.std.specs.Prelude.{◌≤◌, ℕ, List, Option, Some, None, IfSome}
use Rattle.list_counts.specs.Versions.{versions_after, versions_by}
use Rattle.list_counts.specs.declared.version.Version.{Version}

-- the versions of operations that these replicas made, after the last one so far, which may go on
abbrev pub versions_from : ℕ → Option Version → List ℕ → List Version
versions_from every None replicas = versions_by every replicas
versions_from every (Some v) replicas = versions_after every v replicas

-- what the last version so far counts is at most this
abbrev pub IsAtMost : ℕ → Option Version → Type 0
IsAtMost n last = IfSome last (λ v. (v.rev ≤ n) × (v.ops ≤ n))
