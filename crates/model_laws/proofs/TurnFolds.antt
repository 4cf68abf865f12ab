-- Changes are tested one by one. After the first ones three things are known: how many they are, the room that they leave, and how long
-- the text is.
use Rattle.std.proofs.Common.{◌≡◌, ℕ, suc, ◌+◌, ◌-◌, ◌≤◌, nat_le, Bool, true, false, ◌&&◌}
use Rattle.std.proofs.Common.{List, [], ◌∷◌, ◌++◌, length, Option, Some, None, arith, refl, ap, ◌∙◌}
use Rattle.std.specs.Prelude.{not, if◌then◌else◌}
use Rattle.std.proofs.lemmas.Bool.{and_parts, leb-true}
use Rattle.op_model.specs.declared.edit.Change.{Change}
use Rattle.op_model.specs.Actions.{Room, all_wait_at_most, has_room_for, length_after, refused_in_turn, room_after, sizes, stream_at_most, waits_at_most}
use Rattle.op_model.specs.Made.{is_inside, is_small, size_of}
use Rattle.model_laws.specs.Acting.{all_stream_at_most, length_after_all, room_after_all}

-- the causes to refuse a change, and then those of the changes after it
abbrev causes : Bool → Bool → ℕ → Option (ℕ × ℕ) → Option (ℕ × ℕ)
causes inside fits k rest = if not inside then Some (k, 5) else if not fits then Some (k, 7) else rest

none_refused : (a b : Bool) (k : ℕ) (rest : Option (ℕ × ℕ)) → causes a b k rest ≡ None → (a ≡ true) × (b ≡ true) × (rest ≡ None)
none_refused true true k rest e = (refl, refl, e)
none_refused true false k rest e = absurd (cc)
none_refused false b k rest e = absurd (cc)

-- if changes are all passed, the first one is, and the others are in the room that it leaves
pub first_passes : (k : ℕ) (room : Room) (replicas : ℕ) (token : Option ℕ) (n : ℕ) (c : Change) (cs : List Change)
    → refused_in_turn k room replicas token n (c ∷ cs) ≡ None
    → (is_inside n c ≡ true) × ((is_small c && has_room_for room replicas token c) ≡ true)
    × (refused_in_turn (k + 1) (room_after room replicas token c) replicas token (length_after n c) cs ≡ None)
first_passes k room replicas token n c cs none =
    none_refused (is_inside n c) (is_small c && has_room_for room replicas token c) k
    (refused_in_turn (k + 1) (room_after room replicas token c) replicas token (length_after n c) cs) none

-- the length of a text after changes and more changes
pub length_after_all-append : (n : ℕ) (cs ds : List Change) → length_after_all n (cs ++ ds) ≡ length_after_all (length_after_all n cs) ds
length_after_all-append n [] ds = refl
length_after_all-append n (c ∷ cs) ds = length_after_all-append (length_after n c) cs ds

-- the room that changes and more changes leave
pub room_after_all-append : (room : Room) (replicas : ℕ) (token : Option ℕ) (cs ds : List Change)
    → room_after_all room replicas token (cs ++ ds) ≡ room_after_all (room_after_all room replicas token cs) replicas token ds
room_after_all-append room replicas token [] ds = refl
room_after_all-append room replicas token (c ∷ cs) ds = room_after_all-append (room_after room replicas token c) replicas token cs ds

-- how many operations they make
pub sizes-append : (cs ds : List Change) → sizes (cs ++ ds) ≡ sizes cs + sizes ds
sizes-append [] ds = omega arith
sizes-append (c ∷ cs) ds = let rest = sizes-append cs ds in omega (arith, rest)

-- how many bytes wait at most
pub all_wait_at_most-append : (replicas : ℕ) (token : Option ℕ) (cs ds : List Change)
    → all_wait_at_most replicas token (cs ++ ds) ≡ all_wait_at_most replicas token cs + all_wait_at_most replicas token ds
all_wait_at_most-append replicas token [] ds = omega arith
all_wait_at_most-append replicas token (c ∷ cs) ds = added (waits_at_most replicas token c) _ _ _ (all_wait_at_most-append replicas token cs ds)
  where
    added : (a b c d : ℕ) → b ≡ c + d → a + b ≡ a + c + d
    added a b c d same = omega arith

next_place : (k n : ℕ) → k + 1 + n ≡ k + suc n
next_place k n = omega arith

-- a change that lies inside and has room is passed
refused_cons : (k : ℕ) (room : Room) (replicas : ℕ) (token : Option ℕ) (n : ℕ) (c : Change) (cs : List Change) → is_inside n c ≡ true
    → (is_small c && has_room_for room replicas token c) ≡ true
    → refused_in_turn k room replicas token n (c ∷ cs) ≡ refused_in_turn (k + 1) (room_after room replicas token c) replicas token (length_after n c) cs
refused_cons k room replicas token n c cs inside fits = rw (inside, fits) refl

-- after changes that are all passed, the others are tested in the room that these leave
pub refused_in_turn-append : (cs : List Change) (k : ℕ) (room : Room) (replicas : ℕ) (token : Option ℕ) (n : ℕ) (ds : List Change)
    → refused_in_turn k room replicas token n cs ≡ None
    → refused_in_turn k room replicas token n (cs ++ ds)
    ≡ refused_in_turn (k + length cs) (room_after_all room replicas token cs) replicas token (length_after_all n cs) ds
refused_in_turn-append [] k room replicas token n ds none = ap (λ i. refused_in_turn i room replicas token n ds) (omega arith)
refused_in_turn-append (c ∷ cs) k room replicas token n ds none =
    let parts = first_passes k room replicas token n c cs none in
    refused_cons k room replicas token n c (cs ++ ds) parts.0 parts.1
    ∙ (refused_in_turn-append cs (k + 1) (room_after room replicas token c) replicas token (length_after n c) ds parts.2
    ∙ ap (λ i. refused_in_turn i (room_after_all room replicas token (c ∷ cs)) replicas token (length_after_all n (c ∷ cs)) ds) (next_place k (length cs)))

some_refused : (a b : Bool) (k : ℕ) (rest more : Option (ℕ × ℕ)) (found : ℕ × ℕ) → (rest ≡ Some found → more ≡ Some found)
    → causes a b k rest ≡ Some found → causes a b k more ≡ Some found
some_refused true true k rest more found same e = same e
some_refused true false k rest more found same e = e
some_refused false b k rest more found same e = e

-- a change that is refused stays so with more changes after it
pub refused_in_turn-front : (cs : List Change) (k : ℕ) (room : Room) (replicas : ℕ) (token : Option ℕ) (n : ℕ) (ds : List Change) (found : ℕ × ℕ)
    → refused_in_turn k room replicas token n cs ≡ Some found → refused_in_turn k room replicas token n (cs ++ ds) ≡ Some found
refused_in_turn-front [] k room replicas token n ds found some = absurd (cc)
refused_in_turn-front (c ∷ cs) k room replicas token n ds found some =
    some_refused (is_inside n c) (is_small c && has_room_for room replicas token c) k
    (refused_in_turn (k + 1) (room_after room replicas token c) replicas token (length_after n c) cs)
    (refused_in_turn (k + 1) (room_after room replicas token c) replicas token (length_after n c) (cs ++ ds)) found
    (refused_in_turn-front cs (k + 1) (room_after room replicas token c) replicas token (length_after n c) ds found) some

-- after changes that are all passed, one beyond the text is refused for its range
pub refused_in_turn-range : (cs : List Change) (k : ℕ) (room : Room) (replicas : ℕ) (token : Option ℕ) (n : ℕ) (c : Change) (ds : List Change)
    → refused_in_turn k room replicas token n cs ≡ None → is_inside (length_after_all n cs) c ≡ false
    → refused_in_turn k room replicas token n (cs ++ c ∷ ds) ≡ Some (k + length cs, 5)
refused_in_turn-range cs k room replicas token n c ds none outside =
    refused_in_turn-append cs k room replicas token n (c ∷ ds) none ∙ rw outside refl

-- and one inside the text that is too big, or has no room, for the limits
pub refused_in_turn-limit : (cs : List Change) (k : ℕ) (room : Room) (replicas : ℕ) (token : Option ℕ) (n : ℕ) (c : Change) (ds : List Change)
    → refused_in_turn k room replicas token n cs ≡ None → is_inside (length_after_all n cs) c ≡ true
    → (is_small c && has_room_for (room_after_all room replicas token cs) replicas token c) ≡ false
    → refused_in_turn k room replicas token n (cs ++ c ∷ ds) ≡ Some (k + length cs, 7)
refused_in_turn-limit cs k room replicas token n c ds none inside full =
    refused_in_turn-append cs k room replicas token n (c ∷ ds) none ∙ rw (inside, full) refl

-- one more that passes leaves all passed
pub refused_in_turn-pass : (cs : List Change) (k : ℕ) (room : Room) (replicas : ℕ) (token : Option ℕ) (n : ℕ) (c : Change)
    → refused_in_turn k room replicas token n cs ≡ None → is_inside (length_after_all n cs) c ≡ true
    → (is_small c && has_room_for (room_after_all room replicas token cs) replicas token c) ≡ true
    → refused_in_turn k room replicas token n (cs ++ c ∷ []) ≡ None
refused_in_turn-pass cs k room replicas token n c none inside fits =
    refused_in_turn-append cs k room replicas token n (c ∷ []) none
    ∙ refused_cons (k + length cs) (room_after_all room replicas token cs) replicas token (length_after_all n cs) c [] inside fits

less_twice : (a b c : ℕ) → a - b - c ≡ a - (b + c)
less_twice a b c = omega arith

-- changes leave the room without what they take in all
pub room_after_all-sums : (cs : List Change) (room : Room) (replicas : ℕ) (token : Option ℕ)
    → room_after_all room replicas token cs
    ≡ record {
      operations = room.operations - sizes cs;
      stream = room.stream - all_stream_at_most replicas token cs;
      waiting = room.waiting - all_wait_at_most replicas token cs;
    }
room_after_all-sums [] room replicas token = rw (less_none room.operations, less_none room.stream, less_none room.waiting) refl
  where
    less_none : (a : ℕ) → a - 0 ≡ a
    less_none a = omega arith
room_after_all-sums (c ∷ cs) room replicas token =
    room_after_all-sums cs (room_after room replicas token c) replicas token
    ∙ rw (
      less_twice room.operations (size_of c) (sizes cs),
      less_twice room.stream (stream_at_most replicas token c) (all_stream_at_most replicas token cs),
      less_twice room.waiting (waits_at_most replicas token c) (all_wait_at_most replicas token cs),
    ) refl

-- changes take no more than the room
pub record AreWithin (room : Room) (replicas : ℕ) (token : Option ℕ) (cs : List Change) : Type 0 where
  pub operations : sizes cs ≤ room.operations
  pub stream : all_stream_at_most replicas token cs ≤ room.stream
  pub waiting : all_wait_at_most replicas token cs ≤ room.waiting

-- one change is small, and takes no more than the room
pub record Passes (room : Room) (replicas : ℕ) (token : Option ℕ) (c : Change) : Type 0 where
  pub small : is_small c ≡ true
  pub operations : size_of c ≤ room.operations
  pub stream : stream_at_most replicas token c ≤ room.stream
  pub waiting : waits_at_most replicas token c ≤ room.waiting

-- so does one that passes its test
pub passes : (room : Room) (replicas : ℕ) (token : Option ℕ) (c : Change) → (is_small c && has_room_for room replicas token c) ≡ true
    → Passes room replicas token c
passes room replicas token c fits =
    let both = and_parts (is_small c) (has_room_for room replicas token c) fits in
    let three = and_parts (nat_le (size_of c) room.operations && nat_le (stream_at_most replicas token c) room.stream) (nat_le (waits_at_most replicas token c) room.waiting) both.1 in
    let two = and_parts (nat_le (size_of c) room.operations) (nat_le (stream_at_most replicas token c) room.stream) three.0 in
    record {
      small = both.0;
      operations = leb-true (size_of c) room.operations two.0;
      stream = leb-true (stream_at_most replicas token c) room.stream two.1;
      waiting = leb-true (waits_at_most replicas token c) room.waiting three.1;
    }

sum_within : (first rest room : ℕ) → first ≤ room → rest ≤ room - first → first + rest ≤ room
sum_within first rest room one more = omega arith

-- changes that are all passed take no more than the room
pub within_room-none : (cs : List Change) (k : ℕ) (room : Room) (replicas : ℕ) (token : Option ℕ) (n : ℕ)
    → refused_in_turn k room replicas token n cs ≡ None → AreWithin room replicas token cs
within_room-none [] k room replicas token n none = record { operations = omega arith; stream = omega arith; waiting = omega arith }
within_room-none (c ∷ cs) k room replicas token n none =
    let parts = first_passes k room replicas token n c cs none in
    let first = passes room replicas token c parts.1 in
    let rest = within_room-none cs (k + 1) (room_after room replicas token c) replicas token (length_after n c) parts.2 in
    record {
      operations = sum_within (size_of c) (sizes cs) room.operations first.operations rest.operations;
      stream = sum_within (stream_at_most replicas token c) (all_stream_at_most replicas token cs) room.stream first.stream rest.stream;
      waiting = sum_within (waits_at_most replicas token c) (all_wait_at_most replicas token cs) room.waiting first.waiting rest.waiting;
    }
