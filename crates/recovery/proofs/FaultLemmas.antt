-- A file that has an image has no fault.
use Rattle.std.proofs.Common.{◌≡◌, ℕ, List, Ok, Err, refl, sym, ap, ◌∙◌, ◌⊎◌, inl, inr, arith}
use Rattle.op_model.specs.declared.op.Op.{Op}
use Rattle.op_model.specs.Records.{stream_length}
use Rattle.piece_codec.proofs.StreamLaws.{one_list}
use Rattle.stream_list.specs.Streams.{SpellsSome}
use Rattle.root_slots.specs.Root.{format_of, count_of}
use Rattle.group_commit.specs.Image.{stored}
use Rattle.group_commit.specs.Loading.{HasNoHistory, HasLongHistory}
use Rattle.group_commit.specs.declared.open_fault.OpenError.TheVariants.{Memory, NoRoot, BadRoot, BadTable, BadStream, TooLong, ReadFailed, SyncFailed}
use Rattle.recovery.specs.Faults.{IsFault, HasBadOperation, number_of, failures_of}
use Rattle.recovery.specs.Image.{IsImage}
use Rattle.recovery.specs.declared.open_fault.OpenError.{OpenError}
use Rattle.recovery.specs.declared.open_fault.OpenError.TheVariants.{Load, BadOperation}
use Rattle.recovery.proofs.ImageLemmas.{body_in, bytes_in, closed_is_short}

-- what is stored is no fault
is_stored : (file : List ℕ) (r v n : ℕ) (ops : List Op) → IsImage file r v ops → stored file ≡ Err n → ⊥
is_stored file r v n ops image is = apart (sym image.holds ∙ is)
  where
    apart : {x : List ℕ × List ℕ} → Ok x ≡ Err n → ⊥
    apart same = absurd (cc)

-- what a file with an image spells is the image's list
same_list : (file : List ℕ) (r v : ℕ) (ops others : List Op) (body bytes : List ℕ) → IsImage file r v ops → stored file ≡ Ok (body, bytes)
    → SpellsSome (format_of body) others (count_of body) bytes → ops ≡ others
same_list file r v ops others body bytes image holds some =
    one_list (format_of image.body) (format_of body) ops others bytes (rw (ap bytes_in (sym image.holds ∙ holds)) at image.spells.spells) some.spells

-- its operations are causally closed
no_bad : (file : List ℕ) (r v : ℕ) (ops : List Op) → IsImage file r v ops → HasBadOperation file → ⊥
no_bad file r v ops image bad =
    let same : ops ≡ bad.ops = same_list file r v ops bad.ops bad.body bad.bytes image bad.holds bad.spells in
    bad.broken (rw (sym same) image.closed)

-- its stream spells as many operations as its root says
has_history : (file : List ℕ) (r v : ℕ) (ops : List Op) → IsImage file r v ops → HasNoHistory file → ⊥
has_history file r v ops image lacks =
    let same = sym image.holds ∙ lacks.holds in
    let spells : SpellsSome (format_of lacks.body) ops (count_of lacks.body) lacks.bytes =
    rw (ap body_in same, ap bytes_in same) at image.spells in
    lacks.none ops spells.spells spells.counted

-- and these take at most 2^30 bytes
no_longer : (file : List ℕ) (r v : ℕ) (ops : List Op) → IsImage file r v ops → HasLongHistory file → ⊥
no_longer file r v ops image it =
    let same : ops ≡ it.long.ops = same_list file r v ops it.long.ops it.body it.bytes image it.holds it.long.some in
    absurd (omega (arith, closed_is_short ops image.closed, ap stream_length same, it.long.long))

-- a refusal of it is out of memory or a failure of the device
pub no_fault : (file : List ℕ) (r v : ℕ) (ops : List Op) (cause : OpenError) → IsImage file r v ops → IsFault cause file
    → (number_of cause ≡ 1) ⊎ (failures_of cause ≡ 1)
no_fault file r v ops BadOperation image bad = absurd (no_bad file r v ops image bad)
no_fault file r v ops (Load Memory) image fault = inl refl
no_fault file r v ops (Load ReadFailed) image fault = inr refl
no_fault file r v ops (Load SyncFailed) image fault = inr refl
no_fault file r v ops (Load NoRoot) image (inl is) = absurd (is_stored file r v 42 ops image is)
no_fault file r v ops (Load NoRoot) image (inr never) = absurd never
no_fault file r v ops (Load BadRoot) image (inl is) = absurd (is_stored file r v 43 ops image is)
no_fault file r v ops (Load BadRoot) image (inr never) = absurd never
no_fault file r v ops (Load BadTable) image (inl is) = absurd (is_stored file r v 45 ops image is)
no_fault file r v ops (Load BadTable) image (inr never) = absurd never
no_fault file r v ops (Load BadStream) image (inl is) = absurd (is_stored file r v 46 ops image is)
no_fault file r v ops (Load BadStream) image (inr lacks) = absurd (has_history file r v ops image lacks)
no_fault file r v ops (Load TooLong) image (inl never) = absurd never
no_fault file r v ops (Load TooLong) image (inr long) = absurd (no_longer file r v ops image long)
