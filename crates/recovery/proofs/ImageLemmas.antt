-- What an opened file has, and why one isn't opened.
use Rattle.std.proofs.Common.{◌≡◌, ◌≢◌, ℕ, ◌≤◌, false, List, [], Result, Ok, Err, refl, sym, ap, ◌∙◌, ◌⊎◌, inl, inr}
use Rattle.op_model.specs.declared.op.Op.{Op}
use Rattle.op_model.specs.Causality.{IsCausallyClosed}
use Rattle.op_model.specs.Records.{stream_length}
use Rattle.change_codec.specs.declared.format.Format.TheVariants.{Third}
use Rattle.piece_codec.proofs.StreamLaws.{one_list, nothing}
use Rattle.root_slots.specs.Body.{root_of}
use Rattle.root_slots.specs.Root.{format_of, version_of, replica_of}
use Rattle.group_commit.specs.Commit.{IsRootOf}
use Rattle.group_commit.specs.Loading.{IsHistory}
use Rattle.group_commit.specs.Saved.{Saved}
use Rattle.group_commit.specs.declared.open_fault.OpenError.TheVariants.{Memory as LoadMemory}
use Rattle.replica_core.proofs.FollowLemmas.{stream_within}
use Rattle.replica_core.proofs.LimitLemmas.{closed_within}
use Rattle.replica_core.specs.declared.refusal.Refusal.{Refusal}
use Rattle.replica_core.specs.declared.refusal.Refusal.TheVariants as refusal
use Rattle.recovery.specs.Faults.{IsFault, HasBadOperation, failures_of, is_of_sync}
use Rattle.recovery.specs.Image.{IsImage}
use Rattle.recovery.specs.declared.open_fault.OpenError.{OpenError}
use Rattle.recovery.specs.declared.open_fault.OpenError.TheVariants.{Load, BadOperation}

-- a file with a root, of which the stream is causally closed operations
pub image_of : (root : Saved) (file : List ℕ) (replica : ℕ) (ops : List Op) → IsRootOf root file → IsHistory root replica ops → IsCausallyClosed ops
    → IsImage file replica (version_of root.body) ops
image_of root file replica ops is history closed =
    record {
      body = root.body;
      bytes = root.stream;
      holds = is.holds;
      spells = history.spelled.some;
      owner = sym history.owner;
      made = refl;
      closed = closed;
    }

-- a file of which they aren't
pub bad_of : (root : Saved) (file : List ℕ) (replica : ℕ) (ops : List Op) → IsRootOf root file → IsHistory root replica ops → (IsCausallyClosed ops → ⊥)
    → HasBadOperation file
bad_of root file replica ops is history broken =
    record {
      body = root.body;
      ops = ops;
      bytes = root.stream;
      holds = is.holds;
      spells = history.spelled.some;
      broken = broken;
    }

is_memory : (e : Refusal) → (e ≡ refusal.Memory) ⊎ (e ≢ refusal.Memory)
is_memory refusal.Memory = inl refl
is_memory refusal.Range = inr (λ is. absurd (cc))
is_memory refusal.Stale = inr (λ is. absurd (cc))
is_memory refusal.Limit = inr (λ is. absurd (cc))
is_memory refusal.Steps = inr (λ is. absurd (cc))
is_memory refusal.OwnUnknown = inr (λ is. absurd (cc))
is_memory refusal.Counter = inr (λ is. absurd (cc))
is_memory refusal.Names = inr (λ is. absurd (cc))
is_memory refusal.Document = inr (λ is. absurd (cc))
is_memory refusal.StoreLimit = inr (λ is. absurd (cc))
is_memory refusal.BadOperation = inr (λ is. absurd (cc))

-- a list that isn't taken over, when out of memory or for an operation
pub fault_of : (e : Refusal) (cause : OpenError) (file : List ℕ) → (e ≡ refusal.Memory → cause ≡ Load LoadMemory)
    → (e ≢ refusal.Memory → cause ≡ BadOperation) → (e ≢ refusal.Memory → HasBadOperation file) → IsFault cause file
fault_of e cause file memory other bad = by_cause (is_memory e)
  where
    by_cause : (e ≡ refusal.Memory) ⊎ (e ≢ refusal.Memory) → IsFault cause file
    by_cause (inl is) = rw (memory is) (inl tt)
    by_cause (inr unlike) = rw (other unlike) (bad unlike)

-- neither is a failure of the device
pub no_failure : (e : Refusal) (cause : OpenError) → (e ≡ refusal.Memory → cause ≡ Load LoadMemory) → (e ≢ refusal.Memory → cause ≡ BadOperation)
    → failures_of cause ≡ 0
no_failure e cause memory other = by_cause (is_memory e)
  where
    by_cause : (e ≡ refusal.Memory) ⊎ (e ≢ refusal.Memory) → failures_of cause ≡ 0
    by_cause (inl is) = rw (memory is) refl
    by_cause (inr unlike) = rw (other unlike) refl

-- nor of the sync
pub no_sync : (e : Refusal) (cause : OpenError) → (e ≡ refusal.Memory → cause ≡ Load LoadMemory) → (e ≢ refusal.Memory → cause ≡ BadOperation)
    → is_of_sync cause ≡ false
no_sync e cause memory other = by_cause (is_memory e)
  where
    by_cause : (e ≡ refusal.Memory) ⊎ (e ≢ refusal.Memory) → is_of_sync cause ≡ false
    by_cause (inl is) = rw (memory is) refl
    by_cause (inr unlike) = rw (other unlike) refl

-- causally closed operations take at most 2^30 bytes one by one
pub closed_is_short : (ops : List Op) → IsCausallyClosed ops → stream_length ops ≤ 1073741824
closed_is_short ops closed = stream_within ops (closed_within ops closed)

-- a new store stands for the empty list of its replica
pub empty_image : (root : Saved) (replica : ℕ) (file : List ℕ)
    → root_of root.body ≡ record { format = Third; version = 1; replica = replica; stream_length = 0; operations = 0; tables = [] } → root.stream ≡ [] → IsRootOf root file
    → IsImage file replica 1 []
empty_image root replica file says none is =
    record {
      body = root.body;
      bytes = [];
      holds = is.holds ∙ ap (λ bytes. Ok (root.body, bytes)) none;
      spells = record { spells = nothing (format_of root.body); counted = sym (ap (λ r. r.operations) says) };
      owner = ap (λ r. r.replica) says;
      made = ap (λ r. r.version) says;
      closed = tt;
    }

-- the body and the stream of an answer
abbrev pub body_in : Result (List ℕ × List ℕ) ℕ → List ℕ
body_in (Ok found) = found.0
body_in (Err n) = []

abbrev pub bytes_in : Result (List ℕ × List ℕ) ℕ → List ℕ
bytes_in (Ok found) = found.1
bytes_in (Err n) = []

-- a file has one image
pub one_image : (file : List ℕ) (r s v w : ℕ) (a b : List Op) → IsImage file r v a → IsImage file s w b → (r ≡ s) × (v ≡ w) × (a ≡ b)
one_image file r s v w a b first second =
    let same = sym first.holds ∙ second.holds in (
      sym first.owner ∙ ap (λ x. replica_of (body_in x)) same ∙ second.owner,
      sym first.made ∙ ap (λ x. version_of (body_in x)) same ∙ second.made,
      one_list (format_of first.body) (format_of second.body) a b second.bytes (rw (ap bytes_in same) at first.spells.spells) second.spells.spells,
    )
