-- What a crash leaves is one of the files that it may leave.
use Rattle.std.proofs.Common.{◌≡◌, ℕ, ◌+◌, ◌-◌, ◌<◌, ◌≤◌, Bool, true, false, List, [], ◌∷◌, length}
use Rattle.std.proofs.Common.{take, replicate, get_or, refl, sym, subst, ◌∙◌, arith, length-append}
use Rattle.std.proofs.Common.{length-take}
use Rattle.std.specs.List.{All}
use Rattle.std.proofs.lemmas.List.{get_or-take, get_or_append_left, length-replicate}
use Rattle.std.proofs.lemmas.List.Elements.{All-tail}
use Rattle.disk_trait.specs.File.{overwritten}
use Rattle.disk_trait.specs.Survivors.{Range, IsOutside, MayLeave}
use Rattle.disk_trait.specs.Crash.{filled, left_whole, left}
use Rattle.disk_trait.specs.declared.medium.Fate.{Fate}
use Rattle.disk_trait.specs.declared.medium.Fate.TheVariants.{Old, New, Fill}
use Rattle.disk_trait.proofs.FileLemmas.{length-overwritten, overwritten_outside}

-- a range ends within a file of this size
abbrev Within : ℕ → Range → Type 0
Within size range = range.0 + range.1 ≤ size

length-filled : (byte : ℕ) (ranges : List Range) (file : List ℕ) → All (Within (length file)) ranges → length (filled byte ranges file) ≡ length file
length-filled byte [] file within = refl
length-filled byte (range ∷ ranges) file within =
    let first : range.0 + range.1 ≤ length file = within 0 range (omega arith) in
    let next : List ℕ = overwritten file range.0 (replicate range.1 byte) in
    let same : length next ≡ length file = omega (arith, length-overwritten file range.0 (replicate range.1 byte) (omega arith), length-replicate range.1 byte) in
    length-filled byte ranges next (subst (λ size. All (Within size) ranges) (sym same) (All-tail (Within (length file)) range ranges within)) ∙ same

filled_outside : (byte : ℕ) (ranges : List Range) (file : List ℕ) (i : ℕ) → All (Within (length file)) ranges → All (IsOutside i) ranges
    → get_or (filled byte ranges file) i 0 ≡ get_or file i 0
filled_outside byte [] file i within outside = refl
filled_outside byte (range ∷ ranges) file i within outside =
    let first : range.0 + range.1 ≤ length file = within 0 range (omega arith) in
    let next : List ℕ = overwritten file range.0 (replicate range.1 byte) in
    let same : length next ≡ length file = omega (arith, length-overwritten file range.0 (replicate range.1 byte) (omega arith), length-replicate range.1 byte) in
    let out : IsOutside i (range.0, length (replicate range.1 byte)) = subst (λ n. IsOutside i (range.0, n)) (sym (length-replicate range.1 byte)) (outside 0 range (omega arith)) in
    filled_outside byte ranges next i (subst (λ size. All (Within size) ranges) (sym same) (All-tail (Within (length file)) range ranges within)) (All-tail (IsOutside i) range ranges outside)
    ∙ overwritten_outside file range.0 (replicate range.1 byte) i (omega arith) out

-- whatever their fate, the unsettled bytes leave the size and the rest as they are
length-left_whole : (fate : Fate) (bytes settled : List ℕ) (ranges : List Range) → length settled ≤ length bytes → All (Within (length bytes)) ranges
    → length (left_whole fate bytes settled ranges) ≡ length bytes
length-left_whole Old bytes settled ranges longer within = omega (arith, length-append settled (replicate (length bytes - length settled) 0), length-replicate {A = ℕ} (length bytes - length settled) 0)
length-left_whole New bytes settled ranges longer within = refl
length-left_whole (Fill byte) bytes settled ranges longer within =
    omega (
      arith,
      length-append (take (length settled) (filled byte ranges bytes)) (replicate (length bytes - length settled) byte),
      length-replicate (length bytes - length settled) byte,
      length-take (length settled) (filled byte ranges bytes),
      length-filled byte ranges bytes within,
    )

untouched : (fate : Fate) (bytes settled : List ℕ) (ranges : List Range) (i : ℕ) → MayLeave (length bytes) settled ranges bytes → All (Within (length bytes)) ranges
    → i < length settled → All (IsOutside i) ranges → get_or (left_whole fate bytes settled ranges) i 0 ≡ get_or settled i 0
untouched Old bytes settled ranges i reads within there outside = get_or_append_left settled (replicate (length bytes - length settled) 0) 0 i there
untouched New bytes settled ranges i reads within there outside = reads.untouched i there outside
untouched (Fill byte) bytes settled ranges i reads within there outside =
    let front : i < length (take (length settled) (filled byte ranges bytes)) =
    omega (arith, length-take (length settled) (filled byte ranges bytes), length-filled byte ranges bytes within, reads.no_shorter) in
    get_or_append_left (take (length settled) (filled byte ranges bytes)) (replicate (length bytes - length settled) byte) 0 i front
    ∙ get_or-take (length settled) (filled byte ranges bytes) i 0 there
    ∙ filled_outside byte ranges bytes i within outside ∙ reads.untouched i there outside

-- a part of the whole that has the settled size at least
cut : (fate : Fate) (size : ℕ) (bytes settled : List ℕ) (ranges : List Range) → length settled ≤ size → size ≤ length bytes → MayLeave (length bytes) settled ranges bytes
    → All (Within (length bytes)) ranges → MayLeave (length bytes) settled ranges (take size (left_whole fate bytes settled ranges))
cut fate size bytes settled ranges no_shorter no_longer reads within =
    let whole = left_whole fate bytes settled ranges in
    let same : length (take size whole) ≡ size = omega (arith, length-take size whole, length-left_whole fate bytes settled ranges reads.no_shorter within) in
    record {
      no_shorter = omega arith;
      no_longer = omega arith;
      untouched = λ i there outside. get_or-take size whole i 0 (omega arith) ∙ untouched fate bytes settled ranges i reads within there outside;
    }

-- what a crash leaves, it may leave
pub left_may_be_left : (fate : Fate) (grown : Bool) (bytes settled : List ℕ) (ranges : List Range) → MayLeave (length bytes) settled ranges bytes
    → All (λ range. range.0 + range.1 ≤ length bytes) ranges → MayLeave (length bytes) settled ranges (left fate grown bytes settled ranges)
left_may_be_left fate true bytes settled ranges reads within = cut fate (length bytes) bytes settled ranges reads.no_shorter (omega arith) reads within
left_may_be_left fate false bytes settled ranges reads within = cut fate (length settled) bytes settled ranges (omega arith) reads.no_shorter reads within
