-- How many cells of each 64 chunks a reader sees.
use Rattle.std.proofs.Common.{◌≡◌, ℕ, ◌+◌, ◌-◌, ◌*◌, ◌/◌, ◌≤◌, ◌<◌, ◌^◌, inl, inr, List, [], ◌∷◌, ◌++◌, length, take, drop, get_or, zero, suc, refl}
use Rattle.std.proofs.Common.{sym, ◌∙◌, ap, arith}
use Rattle.std.specs.Prelude.{slice_set, min}
use Rattle.std.proofs.lemmas.Bool.{cases_lt}
use Rattle.std.proofs.lemmas.List.{drop-append-le, drop-set-add, drop-set-lt, get_or-drop, get_or-take, get_or_append_left, get_or_push, length-drop}
use Rattle.std.proofs.lemmas.List.{length-set, length-take-le, length_push, take-append-le, take-set-le, take-take}
use Rattle.std.proofs.lemmas.List.Sums.{sum_by-take-drop, sum_by-take-le}
use Rattle.std.proofs.Common.{get_or-set_other, get_or-set_same, set}
use Rattle.std.proofs.Math.Seq.{take-append_seam, take-set-lt}
use Rattle.char_sequence.specs.declared.cell.Cell.{Cell}
use Rattle.char_sequence.specs.Chunks.{AreSized, ChunkCells, IsPlace}
use Rattle.char_sequence.specs.Sums.{seen, seen_in, seen_in_group, AreGroups}
use Rattle.char_sequence.proofs.PlaceLemmas.{chunk_of_place}
use Rattle.char_sequence.proofs.SumLemmas.{seen_most, seen_part, seen_set}

-- a chunk of another group changes
group_before : (held : ChunkCells) (i g : ℕ) (new : List Cell) → i < 64 * g → seen_in_group (slice_set held i new) g ≡ seen_in_group held g
group_before held i g new less = ap (λ ks. seen (take 64 ks)) (drop-set-lt (64 * g) held i new less)

group_behind : (held : ChunkCells) (i g : ℕ) (new : List Cell) → 64 * g + 64 ≤ i → seen_in_group (slice_set held i new) g ≡ seen_in_group held g
group_behind held i g new past =
    let o = i - 64 * g in
    let at : i ≡ 64 * g + o = omega arith in
    let far : 64 ≤ o = omega arith in
    ap (λ n. seen (take 64 (drop (64 * g) (slice_set held n new)))) at
    ∙ (ap (λ ks. seen (take 64 ks)) (drop-set-add (64 * g) held o new) ∙ ap seen (take-set-le 64 (drop (64 * g) held) o new far))

-- the chunk is one of the group
group_own : (held : ChunkCells) (i g : ℕ) (k new : List Cell) → i < length held → 64 * g ≤ i → i < 64 * g + 64 → 64 * g + 64 ≤ length held
    → k ≡ get_or held i k → (seen_in k ≤ seen_in_group held g) × (seen_in_group (slice_set held i new) g ≡ seen_in_group held g - seen_in k + seen_in new)
group_own held i g k new inside from_it to_it whole is =
    let o = i - 64 * g in
    let at : i ≡ 64 * g + o = omega arith in
    let near : o < 64 = omega arith in
    let rest = length-drop (64 * g) held in
    let long : length (take 64 (drop (64 * g) held)) ≡ 64 = length-take-le 64 (drop (64 * g) held) (omega arith) in
    let here : k ≡ get_or (take 64 (drop (64 * g) held)) o k =
    is ∙ (ap (λ n. get_or held n k) at ∙ (sym (get_or-drop (64 * g) held o k) ∙ sym (get_or-take 64 (drop (64 * g) held) o k near))) in
    let own : o < length (take 64 (drop (64 * g) held)) = omega arith in (
      seen_part (take 64 (drop (64 * g) held)) o k own here,
      ap (λ n. seen (take 64 (drop (64 * g) (slice_set held n new)))) at
          ∙ (ap (λ ks. seen (take 64 ks)) (drop-set-add (64 * g) held o new)
          ∙ (ap seen (take-set-lt 64 (drop (64 * g) held) o new near)
          ∙ seen_set (take 64 (drop (64 * g) held)) o k new own here)),
    )

-- a reader sees no more of a group than of all
seen_few_group : (held : ChunkCells) (g : ℕ) → seen_in_group held g ≤ seen held
seen_few_group held g =
    let front = sum_by-take-le seen_in (drop (64 * g) held) 64 in
    let back = sum_by-take-drop seen_in held (64 * g) in
    omega arith

-- the groups stay, with the count of one in place of the old one
pub recounted : (groups : List ℕ) (held : ChunkCells) (i before after count : ℕ) (k new : List Cell) → AreGroups groups held → AreSized 1 held
    → length held ≤ 2 ^ 54 → i < length held → k ≡ get_or held i k → before ≡ seen_in k → after ≡ seen_in new → after ≤ 512 → i / 64 < length groups
    → count ≡ min (get_or groups (i / 64) 0 - before + after) 18446744073709551615 → AreGroups (set groups (i / 64) count) (slice_set held i new)
recounted groups held i before after count k new are sized many inside is was will few within counted =
    let long = length-set groups (i / 64) count in
    let wide = length-set held i new in
    record {
      whole = let w = are.whole in omega arith;
      rest = let r = are.rest in omega arith;
      each = λ g below. go g (omega arith);
    }
  where
    own : (g : ℕ) → g ≡ i / 64 → get_or (set groups (i / 64) count) g 0 ≡ seen_in_group (slice_set held i new) g
    own g here =
        let w = are.whole in
        let parts = group_own held i g k new inside (omega arith) (omega arith) (omega arith) is in
        let old = are.each g (omega arith) in
        let same = ap (λ n. get_or groups n 0) here in
        let most = seen_most held sized in
        let part = seen_few_group held g in
        let read = ap (λ n. get_or (set groups (i / 64) count) n 0) here ∙ get_or-set_same groups (i / 64) count 0 within in
        let less = parts.0 in
        let now = parts.1 in
        omega arith

    go : (g : ℕ) → g < length groups → get_or (set groups (i / 64) count) g 0 ≡ seen_in_group (slice_set held i new) g
    go g below = elim (cases_lt g (i / 64)) [
      | inl less ↦
          get_or-set_other groups (i / 64) g count 0 (λ same. omega arith) ∙ (are.each g below ∙ sym (group_behind held i g new (omega arith)))
      | inr least ↦ elim (cases_lt (i / 64) g) [
        | inl more ↦
            get_or-set_other groups (i / 64) g count 0 (λ same. omega arith) ∙ (are.each g below ∙ sym (group_before held i g new (omega arith)))
        | inr most ↦ own g (omega arith)
      ]
    ]

-- a chunk behind all whole groups changes none
pub recounted_none : (groups : List ℕ) (held : ChunkCells) (i : ℕ) (new : List Cell) → AreGroups groups held → length groups ≤ i / 64
    → AreGroups groups (slice_set held i new)
recounted_none groups held i new are past =
    let wide = length-set held i new in
    record {
      whole = let w = are.whole in omega arith;
      rest = let r = are.rest in omega arith;
      each = λ g below. are.each g below ∙ sym (group_behind held i g new (omega arith));
    }

-- a chunk behind all others changes none of the whole groups before it
group_kept : (held : ChunkCells) (k : List Cell) (g : ℕ) → 64 * g + 64 ≤ length held → seen_in_group (held ++ k ∷ []) g ≡ seen_in_group held g
group_kept held k g whole =
    let rest = length-drop (64 * g) held in
    ap (λ ks. seen (take 64 ks)) (drop-append-le (64 * g) held (k ∷ []) (omega arith))
    ∙ ap seen (take-append-le 64 (drop (64 * g) held) (k ∷ []) (omega arith))

-- with a chunk more behind the others the counts stay, if it makes no whole group
pub still_groups : (groups : List ℕ) (held now : ChunkCells) (k : List Cell) → AreGroups groups held → now ≡ held ++ k ∷ []
    → length now < 64 * length groups + 64 → AreGroups groups now
still_groups groups held now k are more short =
    let long = ap length more ∙ length_push held k in
    let whole = are.whole in
    record {
      whole = omega arith;
      rest = short;
      each = λ g below. are.each g below ∙ (sym (group_kept held k g (omega arith)) ∙ ap (λ ks. seen_in_group ks g) (sym more));
    }

-- if it makes one, the count of the last 64 comes behind the others
pub one_group_more : (groups new : List ℕ) (held now : ChunkCells) (k : List Cell) (count : ℕ) → AreGroups groups held → now ≡ held ++ k ∷ []
    → length now ≡ 64 * length groups + 64 → count ≡ seen_in_group now (length groups) → new ≡ groups ++ count ∷ [] → AreGroups new now
one_group_more groups new held now k count are more full counted is_new =
    let long = ap length more ∙ length_push held k in
    let many = ap length is_new ∙ length_push groups count in
    record {
      whole = omega arith;
      rest = omega arith;
      each = λ g below. elim (cases_lt g (length groups)) [
        | inl less ↦
            let whole = are.whole in
            ap (λ ns. get_or ns g 0) is_new
            ∙ (get_or_append_left groups (count ∷ []) 0 g less
            ∙ (are.each g less ∙ (sym (group_kept held k g (omega arith)) ∙ ap (λ ks. seen_in_group ks g) (sym more))))
        | inr least ↦
            let last : g ≡ length groups = omega arith in
            ap (λ ns. get_or ns g 0) is_new ∙ (get_or_push groups count 0 g (sym last) ∙ (counted ∙ ap (seen_in_group now) (sym last)))
      ];
    }

-- a list written back over one as long
pub written_back : (n : ℕ) (new old : List ℕ) → n ≡ length new → take n (new ++ drop (length new) old) ≡ new
written_back n new old long = ap (λ m. take m (new ++ drop (length new) old)) long ∙ take-append_seam new (drop (length new) old)

-- chunks before a place stay where they are in a front of all
front_same : (n m i : ℕ) (held : ChunkCells) → n + m ≤ i → take m (drop n (take i held)) ≡ take m (drop n held)
front_same zero m i held within = take-take m i held (omega arith)
front_same (suc n) m zero held within = absurd (omega arith)
front_same (suc n) m (suc i) [] within = refl
front_same (suc n) m (suc i) (k ∷ held) within = front_same n m i held (omega arith)

-- so the counts of whole groups before a place stay, if the chunks before it do
pub front_groups : (groups : List ℕ) (held now : ChunkCells) (i : ℕ) → AreGroups groups held → take i now ≡ take i held → i ≤ length held
    → (g : ℕ) → g < i / 64 → (g < length groups) × (get_or groups g 0 ≡ seen_in_group now g)
front_groups groups held now i are same within g below =
    let rest = are.rest in
    let near : 64 * g + 64 ≤ i = omega arith in
    let there : g < length groups = omega arith in (
      there,
      are.each g there
          ∙ ap seen (sym (front_same (64 * g) 64 i held near) ∙ ap (λ ks. take 64 (drop (64 * g) ks)) (sym same) ∙ front_same (64 * g) 64 i now near),
    )

-- one more is counted
pub one_counted : (groups now : List ℕ) (held : ChunkCells) (g count : ℕ) → now ≡ slice_set groups g count → g < length groups
    → count ≡ seen_in_group held g → ((h : ℕ) → h < g → get_or groups h 0 ≡ seen_in_group held h) → (h : ℕ) → h < g + 1
    → get_or now h 0 ≡ seen_in_group held h
one_counted groups now held g count put inside is before h less = rw put (elim (cases_lt h g) [
  | inl past ↦ get_or-set_other groups g h count 0 (λ same. omega arith) ∙ before h past
  | inr own ↦ let here : h ≡ g = omega arith in rw here (get_or-set_same groups g count 0 inside ∙ is)
])

-- where others stand in place of the chunk at a place, or behind all, the chunks before it stay
pub front_stays : (held now by : ChunkCells) (i j : ℕ) → IsPlace held i j → now ≡ take i held ++ by → (take i now ≡ take i held) × (i ≤ length held)
front_stays held now by i j place put =
    let within : i ≤ length held = omega (arith, chunk_of_place held i j place) in
    let long : i ≤ length (take i held) = let all = length-take-le i held within in omega arith in
    (ap (take i) put ∙ take-append-le i (take i held) by long ∙ take-take i i held (omega arith), within)
