-- The operations of a piece, made one after another.
use Rattle.std.proofs.Common.{◌≡◌, ℕ, zero, suc, ◌+◌, ◌<◌, ◌≤◌, true, nat_lt, List, [], ◌∷◌, ◌++◌, length, arith, refl, sym, ◌∙◌, append_assoc}
use Rattle.std.specs.Prelude.{nat_le}
use Rattle.std.proofs.lemmas.Bool.{and_parts, and_from}
use Rattle.std.proofs.lemmas.Bool.Decides.{nat_tests}
use Rattle.op_ids.specs.Clock.{advanced, advanced_by, is_clock}
use Rattle.op_ids.proofs.RoomLemmas.{first_of_more}
use Rattle.op_model.specs.Causality.{is_insert}
use Rattle.op_model.specs.declared.op.Op.{Op}
use Rattle.op_pieces.specs.Pieces.{next_typed, typed_behind, has_room_behind, fits_behind}

-- the parts of the room for some characters
pub record Room (op : Op) (n : ℕ) : Type 0 where
  pub inserts : is_insert op.body ≡ true
  pub few : n < 256
  pub counter : op.id.counter + n ≤ 281474976710655
  pub deps : is_clock (advanced_by op.deps op.id.replica n) ≡ true

pub room_parts : (op : Op) (n : ℕ) → has_room_behind op n ≡ true → Room op n
room_parts op n room =
    let a = and_parts _ _ room in
    let b = and_parts _ _ a.1 in
    let c = and_parts _ _ b.1 in
    record { inserts = a.0; few = below n b.0; counter = within op.id.counter n c.0; deps = c.1 }
  where
    below : (n : ℕ) → nat_lt n 256 ≡ true → n < 256
    below n lt = grind (arith, nat_tests)

    within : (a n : ℕ) → nat_le (a + n) 281474976710655 ≡ true → a + n ≤ 281474976710655
    within a n le = grind (arith, nat_tests)

room_from : (op : Op) (n : ℕ) → Room op n → has_room_behind op n ≡ true
room_from op n r = and_from _ _ r.inserts (and_from _ _ (below n r.few) (and_from _ _ (within op.id.counter n r.counter) r.deps))
  where
    below : (n : ℕ) → n < 256 → nat_lt n 256 ≡ true
    below n lt = grind (arith, nat_tests)

    within : (a n : ℕ) → a + n ≤ 281474976710655 → nat_le (a + n) 281474976710655 ≡ true
    within a n le = grind (arith, nat_tests)

-- a clock that has room for some more has room for the first of them
pub first_counted : (op : Op) (deps : List (ℕ × ℕ)) (replica n : ℕ) → deps ≡ op.deps → replica ≡ op.id.replica → is_clock deps ≡ true → 0 < replica → 0 < n
    → is_clock (advanced_by op.deps op.id.replica n) ≡ true → is_clock (advanced deps replica) ≡ true
first_counted op deps replica zero deps_are replica_is valid positive some after = absurd (omega arith)
first_counted op deps replica (suc n) deps_are replica_is valid positive some after = first_of_more deps replica n valid positive (rw (deps_are, replica_is) after)

-- behind the next operation the others fit
pub others_fit : (op : Op) (v : ℕ) (vs : List ℕ) → fits_behind op (v ∷ vs) ≡ true → fits_behind (next_typed op v) vs ≡ true
others_fit op v [] fits = refl
others_fit op v (w ∷ ws) fits =
    let r = room_parts op (suc (suc (length ws))) fits in
    room_from (next_typed op v) (suc (length ws)) (record { inserts = refl; few = omega (arith, r.few); counter = omega (arith, r.counter); deps = r.deps })

-- one operation more is made
pub one_made : (all ops : List Op) (last next : Op) (v : ℕ) (vs rest : List ℕ) → all ≡ ops ++ last ∷ typed_behind last vs → vs ≡ v ∷ rest
    → next ≡ next_typed last v → all ≡ (ops ++ last ∷ []) ++ next ∷ typed_behind next rest
one_made all ops last next v vs rest is item made =
    is ∙ rw (item, made) (sym (append_assoc ops (last ∷ []) (next_typed last v ∷ typed_behind (next_typed last v) rest)))
