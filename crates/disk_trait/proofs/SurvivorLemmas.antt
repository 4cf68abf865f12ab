-- What a write, a sync and a crash make of the files that a crash may leave.
use Rattle.std.proofs.Common.{◌≡◌, ◌⊎◌, ℕ, ◌+◌, ◌-◌, ◌<◌, ◌≤◌, min, max, List, [], ◌∷◌, ◌++◌}
use Rattle.std.proofs.Common.{length, take, drop, get_or, refl, sym, ap, subst, ◌∙◌, inl, inr}
use Rattle.std.proofs.Common.{arith, length-append, length-take, length-drop}
use Rattle.std.specs.List.{All}
use Rattle.std.proofs.lemmas.Bool.{cases_lt}
use Rattle.std.proofs.lemmas.List.{get_or-take, get_or-drop, get_or_append_left, get_or-append_right, ext_get_or}
use Rattle.std.proofs.Math.Seq.{get_or-append_seam}
use Rattle.std.proofs.lemmas.List.Elements.{All-cons, All-push}
use Rattle.disk_trait.specs.File.{overwritten, part, Torn}
use Rattle.disk_trait.specs.Survivors.{Range, IsOutside, IsSameOutside, MayLeave}
use Rattle.disk_trait.proofs.FileLemmas.{length-overwritten, overwritten_in, overwritten_outside, torn_outside, torn_by_place, overwritten_is_torn}

-- a place is outside of a range or in it
place : (i at n : ℕ) → IsOutside i (at, n) ⊎ ((at ≤ i) × (i < at + n))
place i at n =
    elim (cases_lt i at) [ inl below ↦ inl (inl below) | inr above ↦ elim (cases_lt i (at + n)) [ inl within ↦ inr (above, within) | inr past ↦ inl (inr past) ] ]

-- and outside of a shorter one
narrower : (i at n m : ℕ) → m ≤ n → IsOutside i (at, n) → IsOutside i (at, m)
narrower i at n m shorter (inl below) = inl below
narrower i at n m shorter (inr above) = inr (omega arith)

-- a place outside of all ranges but the last, and of the last
outside_all : (ranges : List Range) (range : Range) (i : ℕ) → All (IsOutside i) (ranges ++ range ∷ []) → All (IsOutside i) ranges × IsOutside i range
outside_all ranges range i outside = (
  λ k d there.
      let more : k < length (ranges ++ range ∷ []) = omega (arith, length-append ranges (range ∷ [])) in
      subst (IsOutside i) (get_or_append_left ranges (range ∷ []) d k there) (outside k d more),
  let last : length ranges < length (ranges ++ range ∷ []) = omega (arith, length-append ranges (range ∷ [])) in
      subst (IsOutside i) (get_or-append_seam ranges range [] range) (outside (length ranges) range last),
)

-- a crash may leave what it could before the write
pub still_leaves : (size grown : ℕ) (settled : List ℕ) (ranges : List Range) (range : Range) (c : List ℕ) → size ≤ grown → MayLeave size settled ranges c
    → MayLeave grown settled (ranges ++ range ∷ []) c
still_leaves size grown settled ranges range c longer leaves = record {
  no_shorter = leaves.no_shorter;
  no_longer = omega (arith, leaves.no_longer);
  untouched = λ i within outside. leaves.untouched i within ((outside_all ranges range i outside).0);
}

-- and each such file torn in its range
pub leaves_torn : (size : ℕ) (settled : List ℕ) (ranges : List Range) (at n : ℕ) (d c : List ℕ) → MayLeave size settled ranges d → Torn at n d c
    → MayLeave (max size (at + n)) settled (ranges ++ (at, n) ∷ []) c
leaves_torn size settled ranges at n d c leaves torn = record {
  no_shorter = omega (arith, leaves.no_shorter, torn.no_shorter);
  no_longer = omega (arith, leaves.no_longer, torn.no_longer);
  untouched = λ i within outside.
      let both = outside_all ranges (at, n) i outside in
      torn_outside at n d c i torn both.1 ∙ leaves.untouched i within both.0;
}

-- what a crash in a write left, with the settled bytes put back into the range
restored : (settled c : List ℕ) (at n : ℕ) → length settled ≤ length c
    → (x : List ℕ) × (length x ≡ length c) × ((i : ℕ) → IsOutside i (at, n) → get_or x i 0 ≡ get_or c i 0)
    × ((i : ℕ) → i < length settled → at ≤ i → i < at + n → get_or x i 0 ≡ get_or settled i 0)
restored settled c at n no_shorter =
    elim (cases_lt (length settled) at) [
      | inl past ↦ (c, refl, λ i outside. refl, λ i within above below. absurd (omega arith))
      | inr begun ↦
          let back : List ℕ = take n (drop at settled) in
          let size : length back ≡ min n (length settled - at) = omega (arith, length-take n (drop at settled), length-drop at settled) in
          let within : at ≤ length c = omega arith in (
            overwritten c at back,
            omega (arith, length-overwritten c at back within),
            λ i outside. overwritten_outside c at back i within (narrower i at n (length back) (omega arith) outside),
            λ i there above below.
                let place : at + (i - at) ≡ i = omega arith in
                overwritten_in c at back i within above (omega arith) ∙ get_or-take n (drop at settled) (i - at) 0 (omega arith)
                ∙ get_or-drop at settled (i - at) 0 ∙ ap (λ k. get_or settled k 0) place,
          )
    ]

-- and nothing else
pub leaves_only_torn : (size : ℕ) (settled : List ℕ) (ranges : List Range) (at n : ℕ) (c : List ℕ) → length settled ≤ size → at ≤ size
    → MayLeave (max size (at + n)) settled (ranges ++ (at, n) ∷ []) c → (d : List ℕ) × MayLeave size settled ranges d × Torn at n d c
leaves_only_torn size settled ranges at n c begun within leaves =
    let x = restored settled c at n leaves.no_shorter in
    let d : List ℕ = take size x.0 in
    let count : length d ≡ min size (length c) = omega (arith, length-take size x.0, x.1) in
    let same : (i : ℕ) → i < length d → get_or d i 0 ≡ get_or x.0 i 0 = λ i there. get_or-take size x.0 i 0 (omega arith) in (
      d,
      record {
        no_shorter = omega (arith, leaves.no_shorter);
        no_longer = omega arith;
        untouched = λ i there outside.
            same i (omega (arith, leaves.no_shorter)) ∙ elim (place i at n) [
              | inl out ↦ x.2 i out ∙ leaves.untouched i there (All-push (IsOutside i) ranges (at, n) outside out)
              | inr written ↦ x.3 i there written.0 written.1
            ];
      },
      torn_by_place at n d c (omega arith) (omega (arith, leaves.no_longer)) (omega arith) (λ i there outside. sym (same i there ∙ x.2 i outside)),
    )

-- right after a sync a crash leaves the settled file
pub leaves_settled : (file c : List ℕ) → MayLeave (length file) file [] c → c ≡ file
leaves_settled file c leaves =
    ext_get_or 0 c file (omega (arith, leaves.no_shorter, leaves.no_longer)) (λ i there.
    leaves.untouched i (omega (arith, leaves.no_longer)) (λ k d none. absurd (omega arith)))

-- and that it may leave
pub settled_leaves : (file c : List ℕ) → c ≡ file → MayLeave (length file) file [] c
settled_leaves file c same =
    let itself : MayLeave (length file) file [] file = record { no_shorter = omega arith; no_longer = omega arith; untouched = λ i there outside. refl } in
    subst (MayLeave (length file) file []) (sym same) itself

-- a range that is copied is one less to leave out
pub range_copied : (ranges : List Range) (range : Range) (file bytes : List ℕ) → range.0 + range.1 ≤ length bytes → IsSameOutside (range ∷ ranges) file bytes
    → IsSameOutside ranges (overwritten file range.0 (part bytes range.0 range.1)) bytes
range_copied ranges (at, n) file bytes inside same =
    let copied : List ℕ = part bytes at n in
    let size : length copied ≡ n = omega (arith, length-take n (drop at bytes), length-drop at bytes) in
    let within : at ≤ length file = omega (arith, same.0) in (
      omega (arith, length-overwritten file at copied within, same.0),
      λ i there outside. elim (place i at n) [
        | inl out ↦ overwritten_outside file at copied i within (narrower i at n (length copied) (omega arith) out)
            ∙ same.1 i there (All-cons (IsOutside i) (at, n) ranges out outside)
        | inr copied_there ↦
            let place : at + (i - at) ≡ i = omega arith in
            overwritten_in file at copied i within copied_there.0 (omega arith) ∙ get_or-take n (drop at bytes) (i - at) 0 (omega arith)
            ∙ get_or-drop at bytes (i - at) 0 ∙ ap (λ k. get_or bytes k 0) place
      ],
    )

-- with none left out the files are the same
pub none_left_out : (file bytes : List ℕ) → IsSameOutside [] file bytes → file ≡ bytes
none_left_out file bytes same = ext_get_or 0 file bytes same.0 (λ i there. same.1 i (omega (arith, same.0)) (λ k d none. absurd (omega arith)))

-- a settled file with what was written past its end is what reads give, outside of what was written since
pub grown_is_read : (settled bytes : List ℕ) (ranges : List Range) → MayLeave (length bytes) settled ranges bytes → IsSameOutside ranges (settled ++ drop (length settled) bytes) bytes
grown_is_read settled bytes ranges reads =
    let size : length (settled ++ drop (length settled) bytes) ≡ length bytes = omega (arith, length-append settled (drop (length settled) bytes), length-drop (length settled) bytes, reads.no_shorter) in (
      size,
      λ i there outside. elim (cases_lt i (length settled)) [
        | inl old ↦ get_or_append_left settled (drop (length settled) bytes) 0 i old ∙ sym (reads.untouched i old outside)
        | inr new ↦
            let place : length settled + (i - length settled) ≡ i = omega arith in
            get_or-append_right settled (drop (length settled) bytes) (length settled) i 0 refl new ∙ get_or-drop (length settled) bytes (i - length settled) 0 ∙ ap (λ k. get_or bytes k 0) place
      ],
    )

-- each range is within the file, and so is one more after it grew
pub ranges_within : (ranges : List Range) (at n old new : ℕ) → All (λ range. range.0 + range.1 ≤ old) ranges → old ≤ new → at + n ≤ new → All (λ range. range.0 + range.1 ≤ new) (ranges ++ (at, n) ∷ [])
ranges_within ranges at n old new within longer last =
    All-push (λ range. range.0 + range.1 ≤ new) ranges (at, n) (λ k d there. omega (arith, within k d there)) last

-- after a write in place, what may be left is what could be before, torn in its range
module _ (file settled : List ℕ) (ranges : List Range) (at : ℕ) (bytes : List ℕ) (within : at ≤ length file) where
  sized : length (overwritten file at bytes) ≡ max (length file) (at + length bytes)
  sized = length-overwritten file at bytes within

  pub still_leaves_after : (c : List ℕ) → MayLeave (length file) settled ranges c → MayLeave (length (overwritten file at bytes)) settled (ranges ++ (at, length bytes) ∷ []) c
  still_leaves_after c = still_leaves (length file) (length (overwritten file at bytes)) settled ranges (at, length bytes) c (omega (arith, sized))

  pub leaves_torn_after : (d c : List ℕ) → MayLeave (length file) settled ranges d → Torn at (length bytes) d c
      → MayLeave (length (overwritten file at bytes)) settled (ranges ++ (at, length bytes) ∷ []) c
  leaves_torn_after d c leaves torn =
      subst (λ size. MayLeave size settled (ranges ++ (at, length bytes) ∷ []) c) (sym sized) (leaves_torn (length file) settled ranges at (length bytes) d c leaves torn)

  pub leaves_only_torn_after : length settled ≤ length file → (c : List ℕ) → MayLeave (length (overwritten file at bytes)) settled (ranges ++ (at, length bytes) ∷ []) c
      → (d : List ℕ) × MayLeave (length file) settled ranges d × Torn at (length bytes) d c
  leaves_only_torn_after begun c leaves =
      leaves_only_torn (length file) settled ranges at (length bytes) c begun within (subst (λ size. MayLeave size settled (ranges ++ (at, length bytes) ∷ []) c) sized leaves)

  -- so the file as it then reads
  pub reads_leave : MayLeave (length file) settled ranges file
      → MayLeave (length (overwritten file at bytes)) settled (ranges ++ (at, length bytes) ∷ []) (overwritten file at bytes)
  reads_leave leaves = leaves_torn_after file (overwritten file at bytes) leaves (overwritten_is_torn file at bytes within)

-- a file that was settled as it reads, with no range written since, is what a crash leaves
pub settles : (bytes settled : List ℕ) (ranges : List Range) (c : List ℕ) → settled ≡ bytes → ranges ≡ [] → MayLeave (length bytes) settled ranges c → c ≡ bytes
settles bytes settled ranges c same none leaves =
    leaves_settled bytes c (subst (λ file. MayLeave (length bytes) file [] c) same (subst (λ rs. MayLeave (length bytes) settled rs c) none leaves))
