-- The indexes that are kept by replica, where one more maker or one more index is put.
use Rattle.std.proofs.Common.{◌≡◌, ℕ, suc, ◌+◌, ◌-◌, ◌<◌, ◌≤◌, true, false, ◌⊎◌, inl, inr, List, [], ◌∷◌, ◌++◌, length, get_or, Option, Some, None}
use Rattle.std.proofs.Common.{vec_len, vec_capacity, refl, sym, ◌∙◌, ap, arith}
use Rattle.std.specs.Prelude.{◌==◌, slice_set, ◌≢◌}
use Rattle.std.proofs.lemmas.Bool.{cases_Bool, eqb-true, eq-eqb, ne_eqb, both_ways}
use Rattle.replica_core.specs.declared.maker.Maker.{Maker}
use Rattle.replica_core.specs.Makers.{places_of, room_of, maker_place, raised}

raised_some : (found : Option ℕ) (i : ℕ) → raised 1 found ≡ Some i → (j : ℕ) × (found ≡ Some j) × (i ≡ suc j)
raised_some None i is_it = cc
raised_some (Some j) i is_it = (j, refl, let same : 1 + j ≡ i = cc in omega arith)

-- it is the first, or it is found behind it
found_cases : (m : Maker) (ms : List Maker) (r i : ℕ) → maker_place (m ∷ ms) r ≡ Some i
    → (((m.replica == r) ≡ true) × (i ≡ 0)) ⊎ ((j : ℕ) × (maker_place ms r ≡ Some j) × (i ≡ suc j) × ((m.replica == r) ≡ false))
found_cases m ms r i found =
    elim (cases_Bool (m.replica == r)) [
      | inl own ↦ let first : Some 0 ≡ Some i = rw own at found in inl (own, let same : 0 ≡ i = cc in sym same)
      | inr other ↦ let rest = raised_some (maker_place ms r) i (rw other at found) in inr (rest.0, rest.1, rest.2, other)
    ]

pub found_within : (ms : List Maker) (r i : ℕ) → maker_place ms r ≡ Some i → i < length ms
found_within [] r i found = cc
found_within (m ∷ ms) r i found =
    elim (found_cases m ms r i found) [
      | inl w ↦ let first = w.1 in omega arith
      | inr w ↦ let rest = found_within ms r w.0 w.1 in let behind = w.2 in omega arith
    ]

-- what is kept of a maker that is found
pub record IsFound (ms : List Maker) (r : ℕ) (m : Maker) : Type 0 where
  pub replica : m.replica ≡ r
  pub places : places_of ms r ≡ m.places.items
  pub room : room_of ms r ≡ vec_capacity m.places - vec_len m.places

pub found_there : (ms : List Maker) (r i : ℕ) (m : Maker) → maker_place ms r ≡ Some i → m ≡ get_or ms i m → IsFound ms r m
found_there [] r i m found is_it = cc
found_there (x ∷ ms) r i m found is_it =
    elim (found_cases x ms r i found) [
      | inl w ↦ let same : m ≡ x = rw w.1 at is_it in
          rw same (record {
            replica = eqb-true x.replica r w.0;
            places = rw w.0 refl;
            room = rw w.0 refl;
          })
      | inr w ↦ let rest = found_there ms r w.0 m w.1 (rw w.2 at is_it) in
          record {
            replica = rest.replica;
            places = rw w.3 rest.places;
            room = rw w.3 rest.room;
          }
    ]

-- a maker that is put in the place of one of the same replica
pub put_own : (ms : List Maker) (r i : ℕ) (new : Maker) → maker_place ms r ≡ Some i → new.replica ≡ r → IsFound (slice_set ms i new) r new
put_own [] r i new found same = cc
put_own (x ∷ ms) r i new found same =
    elim (found_cases x ms r i found) [
      | inl w ↦ rw w.1 (record {
        replica = same;
        places = rw (eq-eqb new.replica r same) refl;
        room = rw (eq-eqb new.replica r same) refl;
      })
      | inr w ↦ let rest = put_own ms r w.0 new w.1 same in
          rw w.2 (record {
            replica = same;
            places = rw w.3 rest.places;
            room = rw w.3 rest.room;
          })
    ]

pub put_other : (ms : List Maker) (r i s : ℕ) (new : Maker) → maker_place ms r ≡ Some i → new.replica ≡ r → s ≢ r
    → places_of (slice_set ms i new) s ≡ places_of ms s
put_other [] r i s new found same other = cc
put_other (x ∷ ms) r i s new found same other =
    elim (found_cases x ms r i found) [
      | inl w ↦ let first : x.replica ≡ r = eqb-true x.replica r w.0 in
          rw (w.1, ne_eqb new.replica s (λ e. other (sym e ∙ same)), ne_eqb x.replica s (λ e. other (sym e ∙ first))) refl
      | inr w ↦ rw (w.2, put_other ms r w.0 s new w.1 same other) refl
    ]

-- a room that grows, and its indexes stay
pub put_same : (ms : List Maker) (r i : ℕ) (m new : Maker) → maker_place ms r ≡ Some i → m ≡ get_or ms i m → new.replica ≡ m.replica
    → new.places.items ≡ m.places.items → (s : ℕ) → places_of (slice_set ms i new) s ≡ places_of ms s
put_same ms r i m new found is_it same_replica same_places s =
    let there = found_there ms r i m found is_it in
    let same : new.replica ≡ r = same_replica ∙ there.replica in
    elim (cases_Bool (s == r)) [
      | inl own ↦ let is_r : s ≡ r = eqb-true s r own in
          rw is_r ((put_own ms r i new found same).places ∙ (same_places ∙ sym there.places))
      | inr other ↦ put_other ms r i s new found same (λ e. apart s r other e)
    ]
  where
    apart : (a b : ℕ) → (a == b) ≡ false → a ≡ b → ⊥
    apart a b differs same = both_ways (a == b) differs (eq-eqb a b same)

none_behind : (found : Option ℕ) → raised 1 found ≡ None → found ≡ None
none_behind None none = refl
none_behind (Some j) none = cc

none_cases : (m : Maker) (ms : List Maker) (r : ℕ) → maker_place (m ∷ ms) r ≡ None → ((m.replica == r) ≡ false) × (maker_place ms r ≡ None)
none_cases m ms r none =
    elim (cases_Bool (m.replica == r)) [
      | inl own ↦ let first : Some 0 ≡ None = rw own at none in cc
      | inr other ↦ (other, none_behind (maker_place ms r) (rw other at none))
    ]

-- none is kept of a replica that isn't found
pub none_kept : (ms : List Maker) (r : ℕ) → maker_place ms r ≡ None → (places_of ms r ≡ []) × (room_of ms r ≡ 0)
none_kept [] r none = (refl, refl)
none_kept (m ∷ ms) r none =
    let both = none_cases m ms r none in
    rw (both.0) (none_kept ms r both.1)

-- a new maker behind the others
pub push_own : (ms : List Maker) (r : ℕ) (new : Maker) → maker_place ms r ≡ None → new.replica ≡ r → IsFound (ms ++ new ∷ []) r new
push_own [] r new none same = record {
  replica = same;
  places = rw (eq-eqb new.replica r same) refl;
  room = rw (eq-eqb new.replica r same) refl;
}
push_own (m ∷ ms) r new none same =
    let both = none_cases m ms r none in
    let rest = push_own ms r new both.1 same in
    record { replica = same; places = rw (both.0) rest.places; room = rw (both.0) rest.room }

pub push_other : (ms : List Maker) (r s : ℕ) (new : Maker) → new.replica ≡ r → s ≢ r → places_of (ms ++ new ∷ []) s ≡ places_of ms s
push_other [] r s new same other = rw (ne_eqb new.replica s (λ e. other (sym e ∙ same))) refl
push_other (m ∷ ms) r s new same other = rw (push_other ms r s new same other) refl

-- a new maker without indexes changes none
pub push_same : (ms : List Maker) (r : ℕ) (new : Maker) → maker_place ms r ≡ None → new.replica ≡ r → new.places.items ≡ []
    → (s : ℕ) → places_of (ms ++ new ∷ []) s ≡ places_of ms s
push_same ms r new none same empty s =
    elim (cases_Bool (s == r)) [
      | inl own ↦ let is_r : s ≡ r = eqb-true s r own in
          rw is_r ((push_own ms r new none same).places ∙ (empty ∙ sym (none_kept ms r none).0))
      | inr other ↦ push_other ms r s new same (λ e. apart s r other e)
    ]
  where
    apart : (a b : ℕ) → (a == b) ≡ false → a ≡ b → ⊥
    apart a b differs same = both_ways (a == b) differs (eq-eqb a b same)

-- one index more in a maker that has room
pub put_index : (ms : List Maker) (r i : ℕ) (m new : Maker) (index : ℕ) → maker_place ms r ≡ Some i → m ≡ get_or ms i m → new.replica ≡ m.replica
    → new.places.items ≡ m.places.items ++ index ∷ [] → places_of (slice_set ms i new) r ≡ places_of ms r ++ index ∷ []
put_index ms r i m new index found is_it same_replica pushed =
    let there = found_there ms r i m found is_it in
    (put_own ms r i new found (same_replica ∙ there.replica)).places ∙ (pushed ∙ ap (λ front. front ++ index ∷ []) (sym there.places))

pub put_index_others : (ms : List Maker) (r i : ℕ) (m new : Maker) → maker_place ms r ≡ Some i → m ≡ get_or ms i m → new.replica ≡ m.replica
    → (s : ℕ) → s ≢ r → places_of (slice_set ms i new) s ≡ places_of ms s
put_index_others ms r i m new found is_it same_replica s other =
    put_other ms r i s new found (same_replica ∙ (found_there ms r i m found is_it).replica) other

pub put_index_room : (ms : List Maker) (r i : ℕ) (m new : Maker) → maker_place ms r ≡ Some i → m ≡ get_or ms i m → new.replica ≡ m.replica
    → vec_len new.places ≡ vec_len m.places + 1 → vec_capacity m.places ≤ vec_capacity new.places
    → room_of ms r ≤ room_of (slice_set ms i new) r + 1
put_index_room ms r i m new found is_it same_replica longer roomy =
    let there = found_there ms r i m found is_it in
    let after = put_own ms r i new found (same_replica ∙ there.replica) in
    let before_room = there.room in
    let after_room = after.room in
    omega arith

-- more room in a maker
pub put_room : (ms : List Maker) (r i count : ℕ) (m new : Maker) → maker_place ms r ≡ Some i → m ≡ get_or ms i m → new.replica ≡ m.replica
    → vec_len new.places + count ≤ vec_capacity new.places → count ≤ room_of (slice_set ms i new) r
put_room ms r i count m new found is_it same_replica roomy =
    let after = (put_own ms r i new found (same_replica ∙ (found_there ms r i m found is_it).replica)).room in
    omega arith

pub push_room : (ms : List Maker) (r count : ℕ) (new : Maker) → maker_place ms r ≡ None → new.replica ≡ r → vec_len new.places ≡ 0
    → vec_capacity new.places ≡ count → count ≤ room_of (ms ++ new ∷ []) r
push_room ms r count new none same empty roomy =
    let after = (push_own ms r new none same).room in
    omega arith

-- one index of a maker that has no room
pub no_room : (ms : List Maker) (r i : ℕ) (m : Maker) → maker_place ms r ≡ Some i → m ≡ get_or ms i m
    → vec_capacity m.places ≤ vec_len m.places → 0 < room_of ms r → ⊥
no_room ms r i m found is_it full some =
    let room = (found_there ms r i m found is_it).room in
    omega arith
