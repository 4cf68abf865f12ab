-- What an overwritten and a torn file have at each place.
use Rattle.std.proofs.Common.{◌≡◌, ℕ, ◌+◌, ◌-◌, ◌<◌, ◌≤◌, min, max, List, ◌++◌, length, take, drop}
use Rattle.std.proofs.Common.{get_or, sym, ap, ◌∙◌, inl, inr, arith, length-append, length-take}
use Rattle.std.proofs.Common.{length-drop}
use Rattle.std.proofs.lemmas.List.{get_or-take, get_or-drop, get_or_append_left, get_or-append_right, ext_get_or}
use Rattle.disk_trait.specs.File.{overwritten, Torn}
use Rattle.disk_trait.specs.Survivors.{IsOutside}

pub length-overwritten : (file : List ℕ) (at : ℕ) (bytes : List ℕ) → at ≤ length file → length (overwritten file at bytes) ≡ max (length file) (at + length bytes)
length-overwritten file at bytes within =
    omega (arith, length-append (take at file ++ bytes) (drop (at + length bytes) file), length-append (take at file) bytes, length-take at file, length-drop (at + length bytes) file)

-- the bytes before the range
pub overwritten_before : (file : List ℕ) (at : ℕ) (bytes : List ℕ) (i : ℕ) → at ≤ length file → i < at → get_or (overwritten file at bytes) i 0 ≡ get_or file i 0
overwritten_before file at bytes i within below =
    let first : i < length (take at file) = omega (arith, length-take at file) in
    let both : i < length (take at file ++ bytes) = omega (arith, length-append (take at file) bytes) in
    get_or_append_left (take at file ++ bytes) _ 0 i both ∙ get_or_append_left (take at file) bytes 0 i first ∙ get_or-take at file i 0 below

-- the bytes in the range
pub overwritten_in : (file : List ℕ) (at : ℕ) (bytes : List ℕ) (i : ℕ) → at ≤ length file → at ≤ i → i < at + length bytes → get_or (overwritten file at bytes) i 0 ≡ get_or bytes (i - at) 0
overwritten_in file at bytes i within above below =
    let first : length (take at file) ≡ at = omega (arith, length-take at file) in
    let both : i < length (take at file ++ bytes) = omega (arith, length-append (take at file) bytes) in
    get_or_append_left (take at file ++ bytes) _ 0 i both ∙ get_or-append_right (take at file) bytes at i 0 first above

-- the bytes after the range
pub overwritten_after : (file : List ℕ) (at : ℕ) (bytes : List ℕ) (i : ℕ) → at ≤ length file → at + length bytes ≤ i → get_or (overwritten file at bytes) i 0 ≡ get_or file i 0
overwritten_after file at bytes i within above =
    let both : length (take at file ++ bytes) ≡ at + length bytes = omega (arith, length-append (take at file) bytes, length-take at file) in
    let place : at + length bytes + (i - (at + length bytes)) ≡ i = omega arith in
    get_or-append_right (take at file ++ bytes) _ (at + length bytes) i 0 both above
    ∙ get_or-drop (at + length bytes) file (i - (at + length bytes)) 0 ∙ ap (λ k. get_or file k 0) place

pub overwritten_outside : (file : List ℕ) (at : ℕ) (bytes : List ℕ) (i : ℕ) → at ≤ length file → IsOutside i (at, length bytes) → get_or (overwritten file at bytes) i 0 ≡ get_or file i 0
overwritten_outside file at bytes i within (inl below) = overwritten_before file at bytes i within below
overwritten_outside file at bytes i within (inr above) = overwritten_after file at bytes i within above

-- a torn file is the same outside of the range
pub torn_outside : (at n : ℕ) (old new : List ℕ) (i : ℕ) → Torn at n old new → IsOutside i (at, n) → get_or new i 0 ≡ get_or old i 0
torn_outside at n old new i torn (inl below) =
    sym (get_or-take at new i 0 below) ∙ ap (λ file. get_or file i 0) torn.before ∙ get_or-take at old i 0 below
torn_outside at n old new i torn (inr above) =
    let place : at + n + (i - (at + n)) ≡ i = omega arith in
    ap (λ k. get_or new k 0) (sym place) ∙ sym (get_or-drop (at + n) new (i - (at + n)) 0)
    ∙ ap (λ file. get_or file (i - (at + n)) 0) torn.after ∙ get_or-drop (at + n) old (i - (at + n)) 0 ∙ ap (λ k. get_or old k 0) place

-- and a file that is so, of such a size, is a torn one
pub torn_by_place : (at n : ℕ) (old new : List ℕ) → length old ≤ length new → length new ≤ max (length old) (at + n) → min at (length new) ≤ length old
    → ((i : ℕ) → i < length old → IsOutside i (at, n) → get_or new i 0 ≡ get_or old i 0) → Torn at n old new
torn_by_place at n old new no_shorter no_longer reached same = record {
  before =
      let sizes : length (take at new) ≡ length (take at old) = omega (arith, length-take at new, length-take at old) in
      ext_get_or 0 (take at new) (take at old) sizes (λ i there.
      let below : i < at = omega (arith, length-take at new) in
      let within : i < length old = omega (arith, length-take at new) in
      get_or-take at new i 0 below ∙ same i within (inl below) ∙ sym (get_or-take at old i 0 below));
  after =
      let sizes : length (drop (at + n) new) ≡ length (drop (at + n) old) = omega (arith, length-drop (at + n) new, length-drop (at + n) old) in
      ext_get_or 0 (drop (at + n) new) (drop (at + n) old) sizes (λ i there.
      let within : at + n + i < length old = omega (arith, length-drop (at + n) new, length-drop (at + n) old) in
      get_or-drop (at + n) new i 0 ∙ same (at + n + i) within (inr (omega arith)) ∙ sym (get_or-drop (at + n) old i 0));
  no_shorter = no_shorter;
  no_longer = no_longer;
}

-- a write in place is a torn write of its range
pub overwritten_is_torn : (file : List ℕ) (at : ℕ) (bytes : List ℕ) → at ≤ length file → Torn at (length bytes) file (overwritten file at bytes)
overwritten_is_torn file at bytes within =
    let size = length-overwritten file at bytes within in
    torn_by_place at (length bytes) file (overwritten file at bytes) (omega (arith, size)) (omega (arith, size)) (omega arith) (λ i _ outside.
    overwritten_outside file at bytes i within outside)
