-- The operations that an edit makes may follow the list.
use Rattle.std.proofs.Common.{◌≡◌, ℕ, ◌+◌, ◌≤◌, ◌<◌, max, eqb, ltb, Bool, true, false, ◌&&◌, ◌⊎◌, inl, inr, List, [], ◌∷◌, ◌++◌, length, filter}
use Rattle.std.proofs.Common.{arith, ap, refl, ◌∙◌, sym, append_assoc, append-nil, length-append, take_all}
use Rattle.std.specs.Prelude.{◌==◌, nat_lt, nat_le}
use Rattle.std.specs.List.{list_any, list_all}
use Rattle.std.proofs.lemmas.Bool.{cases_Bool, cases_order, lt-ltb, le-ltb, eq-eqb, eqb-true, ne_eqb, le-leb, and_parts, and_from, or_cases, or_left}
use Rattle.std.proofs.lemmas.Bool.{or_right, leb-true, false≢true, both_ways}
use Rattle.std.proofs.lemmas.List.Folds.{list_all-append}
use Rattle.op_ids.specs.Id.{Id, is_same}
use Rattle.op_ids.specs.Clock.{count_of, advanced, is_within, is_ready}
use Rattle.op_model.specs.declared.op.Op.{Op}
use Rattle.op_model.specs.declared.op.Body.{Body}
use Rattle.op_model.specs.declared.op.Body.TheVariants.{Insert, Remove, AddMark, RemoveMark}
use Rattle.op_model.specs.declared.character.Character.{Character}
use Rattle.op_model.specs.Characters.{character_of, with_character, characters}
use Rattle.op_model.specs.Spans.{with_number}
use Rattle.op_model.specs.Records.{stream_length}
use Rattle.op_model.specs.Causality.{clock_of, made_by, is_insert, is_covered_insert, documents, is_in_range, has_room, is_within_limits, named_by}
use Rattle.op_model.specs.Causality.{MayFollow, names_inserts}
use Rattle.op_model.specs.Made.{greatest_counter}
use Rattle.op_model.specs.Placing.{has_id, Fits}
use Rattle.model_laws.proofs.Ids.{same_equal}
use Rattle.model_laws.proofs.Grow.{has_id-in_order}
use Rattle.model_laws.proofs.Closed.{is_insert_at, fits_by_tests}
use Rattle.model_laws.proofs.Deciding.{number_swapped}
use Rattle.model_laws.proofs.Clocks.{advanced_swapped, count_advanced_other}

-- all entries are of greater replicas
abbrev AllOver : ℕ → List (ℕ × ℕ) → Type 0
AllOver r [] = Unit {0}
AllOver r (e ∷ es) = (r < e.0) × AllOver r es

abbrev IsSortedClock : List (ℕ × ℕ) → Type 0
IsSortedClock [] = Unit {0}
IsSortedClock (e ∷ es) = AllOver e.0 es × IsSortedClock es

over_chain : (r s : ℕ) (es : List (ℕ × ℕ)) → r < s → AllOver s es → AllOver r es
over_chain r s [] l h = tt
over_chain r s (e ∷ es) l h = (omega arith, over_chain r s es l h.1)

over_advanced : (r s : ℕ) (es : List (ℕ × ℕ)) → r < s → AllOver r es → AllOver r (advanced es s)
over_advanced r s [] l h = (l, tt)
over_advanced r s (e ∷ es) l h =
    elim (cases_order s e.0) [
      | inl k ↦ simp (le-ltb s e.0 (omega arith), eq-eqb e.0 s (sym k)) (l, h.1)
      | inr o ↦ elim o [
        | inl k ↦ rw (lt-ltb s e.0 k) (l, h)
        | inr k ↦ simp (le-ltb s e.0 (omega arith), ne_eqb e.0 s (omega arith)) (h.0, over_advanced r s es l h.1)
      ]
    ]

sorted_advanced : (s : ℕ) (es : List (ℕ × ℕ)) → IsSortedClock es → IsSortedClock (advanced es s)
sorted_advanced s [] h = (tt, tt)
sorted_advanced s (e ∷ es) h =
    elim (cases_order s e.0) [
      | inl k ↦ simp (le-ltb s e.0 (omega arith), eq-eqb e.0 s (sym k)) (rw k h.0, h.1)
      | inr o ↦ elim o [
        | inl k ↦ rw (lt-ltb s e.0 k) ((k, over_chain s e.0 es k h.0), h)
        | inr k ↦ simp (le-ltb s e.0 (omega arith), ne_eqb e.0 s (omega arith)) (over_advanced e.0 s es k h.0, sorted_advanced s es h.1)
      ]
    ]

sorted_clock : (ops : List Op) → IsSortedClock (clock_of ops)
sorted_clock [] = tt
sorted_clock (op ∷ ops) = sorted_advanced op.id.replica (clock_of ops) (sorted_clock ops)

count_none : (r : ℕ) (es : List (ℕ × ℕ)) → AllOver r es → count_of es r ≡ 0
count_none r [] h = refl
count_none r (e ∷ es) h = let n : eqb e.0 r ≡ false = ne_eqb e.0 r (omega arith) in rw n (count_none r es h.1)

count_advanced_same : (es : List (ℕ × ℕ)) (r : ℕ) → IsSortedClock es → count_of (advanced es r) r ≡ count_of es r + 1
count_advanced_same [] r h = rw (eq-eqb r r refl) (omega arith)
count_advanced_same (e ∷ es) r h =
    elim (cases_order r e.0) [
      | inl k ↦ simp (le-ltb r e.0 (omega arith), eq-eqb e.0 r (sym k), eq-eqb r r refl)
      | inr o ↦ elim o [
        | inl k ↦ simp (lt-ltb r e.0 k, eq-eqb r r refl, ne_eqb e.0 r (omega arith), count_none r es (over_chain r e.0 es k h.0)) (omega arith)
        | inr k ↦ simp (le-ltb r e.0 (omega arith), ne_eqb e.0 r (omega arith)) (count_advanced_same es r h.1)
      ]
    ]

-- the clock counts the operations of each replica
pub count_made : (ops : List Op) (r : ℕ) → count_of (clock_of ops) r ≡ length (made_by r ops)
count_made [] r = refl
count_made (op ∷ ops) r =
    elim (cases_Bool (op.id.replica == r)) [
      | inl e ↦ let k : op.id.replica ≡ r = eqb-true op.id.replica r e in
          rw (e, k) (count_advanced_same (clock_of ops) r (sorted_clock ops) ∙ omega (arith, count_made ops r))
      | inr e ↦ rw e (count_advanced_other (clock_of ops) op.id.replica r (λ q. both_ways (op.id.replica == r) e (eq-eqb op.id.replica r q)) ∙ count_made ops r)
    ]

-- a clock counts nothing beyond itself
within_front : (es clock : List (ℕ × ℕ)) → IsSortedClock es → ((r : ℕ) → count_of es r ≤ count_of clock r)
    → is_within es clock ≡ true
within_front [] clock h k = refl
within_front (e ∷ es) clock h k =
    and_from (nat_le e.1 (count_of clock e.0)) (is_within es clock)
    (le-leb e.1 (count_of clock e.0) (rw (eq-eqb e.0 e.0 refl) at (k e.0)))
    (within_front es clock h.1 rest)
  where
    rest : (r : ℕ) → count_of es r ≤ count_of clock r
    rest r = elim (cases_Bool (e.0 == r)) [
      | inl f ↦ let z : count_of es r ≡ 0 = count_none r es (rw (eqb-true e.0 r f) at h.0) in omega arith
      | inr f ↦ rw f at (k r)
    ]

within_itself : (es : List (ℕ × ℕ)) → IsSortedClock es → is_within es es ≡ true
within_itself es h = within_front es es h (λ r. omega arith)

ready_by_clock : (ops : List Op) (r : ℕ) → is_ready (clock_of ops) r (clock_of ops) ≡ true
ready_by_clock ops r = and_from (count_of (clock_of ops) r == count_of (clock_of ops) r) (is_within (clock_of ops) (clock_of ops)) (eq-eqb _ _ refl) (within_itself (clock_of ops) (sorted_clock ops))

pub clock-push : (ops : List Op) (op : Op) → clock_of (ops ++ op ∷ []) ≡ advanced (clock_of ops) op.id.replica
clock-push [] op = refl
clock-push (x ∷ ops) op = rw (clock-push ops op) (advanced_swapped x.id.replica op.id.replica (clock_of ops))

pub greatest-push : (ops : List Op) (op : Op)
    → greatest_counter (ops ++ op ∷ []) ≡ max (greatest_counter ops) op.id.counter
greatest-push [] op = omega arith
greatest-push (x ∷ ops) op = rw (greatest-push ops op) (omega arith)

-- a counter above all makes the next operation of any replica
counted_up : (ops : List Op) (op : Op) (r : ℕ) → greatest_counter ops < op.id.counter
    → list_all (λ earlier. nat_lt earlier.id.counter op.id.counter) (made_by r ops) ≡ true
counted_up [] op r l = refl
counted_up (x ∷ ops) op r l =
    elim (cases_Bool (x.id.replica == r)) [
      | inl e ↦ rw e (and_from (nat_lt x.id.counter op.id.counter) (list_all (λ earlier. nat_lt earlier.id.counter op.id.counter) (made_by r ops))
          (lt-ltb x.id.counter op.id.counter (omega arith)) (counted_up ops op r (omega arith)))
      | inr e ↦ rw e (counted_up ops op r (omega arith))
    ]

found_in_body : (xid id : Id) (b : Body) (cs : List Character)
    → has_id (with_character (character_of xid b) cs) id ≡ true
    → ((is_same xid id ≡ true) × (is_insert b ≡ true)) ⊎ (has_id cs id ≡ true)
found_in_body xid id (Insert origin value) cs e =
    elim (or_cases (is_same xid id) (has_id cs id) (rw (has_id-in_order (record { id = xid; origin = origin; value = value }) cs id) at e)) [
      | inl f ↦ inl (f, refl)
      | inr f ↦ inr f
    ]
found_in_body xid id (Remove target) cs e = inr e
found_in_body xid id (AddMark mark start end) cs e = inr e
found_in_body xid id (RemoveMark key start end) cs e = inr e

-- a character of the document comes from an insert among the operations
pub found_insert : (ops : List Op) (doc : ℕ) (id : Id) → has_id (characters ops doc) id ≡ true
    → list_any (is_insert_at doc id) ops ≡ true
found_insert [] doc id e = e
found_insert (x ∷ ops) doc id e =
    elim (cases_Bool (x.doc == doc)) [
      | inl d ↦ elim (found_in_body x.id id x.body (characters ops doc) (rw d at e)) [
        | inl f ↦ or_left (is_insert_at doc id x) (list_any (is_insert_at doc id) ops) (and_from (is_same x.id id && x.doc == doc) (is_insert x.body) (and_from (is_same x.id id) (x.doc == doc) f.0 d) f.1)
        | inr f ↦ or_right (is_insert_at doc id x) (list_any (is_insert_at doc id) ops) (found_insert ops doc id f)
      ]
      | inr d ↦ or_right (is_insert_at doc id x) (list_any (is_insert_at doc id) ops) (found_insert ops doc id (rw d at e))
    ]

any_filtered : {X : Type 0} (p q : X → Bool) → ((x : X) → p x ≡ true → q x ≡ true) → (xs : List X)
    → list_any p xs ≡ true → list_any p (filter q xs) ≡ true
any_filtered p q says [] e = e
any_filtered p q says (x ∷ xs) e =
    elim (or_cases (p x) (list_any p xs) e) [
      | inl f ↦ rw (says x f) (or_left (p x) (list_any p (filter q xs)) f)
      | inr f ↦ elim (cases_Bool (q x)) [
        | inl g ↦ rw g (or_right (p x) (list_any p (filter q xs)) (any_filtered p q says xs f))
        | inr g ↦ rw g (any_filtered p q says xs f)
      ]
    ]

insert_parts : (doc : ℕ) (id : Id) (op : Op) → is_insert_at doc id op ≡ true → is_same op.id id ≡ true
insert_parts doc id op e = (and_parts (is_same op.id id) (op.doc == doc) (and_parts (is_same op.id id && op.doc == doc) (is_insert op.body) e).0).0

same_replica : (a b : Id) → is_same a b ≡ true → (a.replica == b.replica) ≡ true
same_replica a b e = eq-eqb a.replica b.replica (ap (λ x. x.replica) (same_equal a b e))

-- the clock of the list covers each of its inserts
covered_by_clock : (ops : List Op) (doc : ℕ) (id : Id) → has_id (characters ops doc) id ≡ true
    → is_covered_insert ops (clock_of ops) doc id ≡ true
covered_by_clock ops doc id e =
    rw (count_made ops id.replica, take_all (length (made_by id.replica ops)) (made_by id.replica ops) (omega arith))
    (any_filtered (is_insert_at doc id) (λ op. op.id.replica == id.replica) (λ op f. same_replica op.id id (insert_parts doc id op f)) ops (found_insert ops doc id e))

pub counter_within : (ops : List Op) (doc : ℕ) (id : Id) → list_any (is_insert_at doc id) ops ≡ true
    → id.counter ≤ greatest_counter ops
counter_within [] doc id e = absurd (false≢true e)
counter_within (x ∷ ops) doc id e =
    elim (or_cases (is_insert_at doc id x) (list_any (is_insert_at doc id) ops) e) [
      | inl f ↦ let k : x.id.counter ≡ id.counter = ap (λ i. i.counter) (same_equal x.id id (insert_parts doc id x f)) in omega arith
      | inr f ↦ omega (arith, counter_within ops doc id f)
    ]

-- what a body names is among the characters of the document
abbrev pub AreNamesKnown : List Op → ℕ → Body → Type 0
AreNamesKnown ops doc b = list_all (λ id. has_id (characters ops doc) id) (named_by b) ≡ true

all_weaker : {X : Type 0} (p q : X → Bool) → ((x : X) → p x ≡ true → q x ≡ true) → (xs : List X)
    → list_all p xs ≡ true → list_all q xs ≡ true
all_weaker p q says [] e = e
all_weaker p q says (x ∷ xs) e =
    let k = and_parts (p x) (list_all p xs) e in
    and_from (q x) (list_all q xs) (says x k.0) (all_weaker p q says xs k.1)

range_document : (op : Op) → is_in_range op ≡ true → nat_lt 0 op.doc ≡ true
range_document op e =
    (and_parts (nat_lt 0 op.id.counter && nat_lt op.id.counter 281474976710656) (nat_lt 0 op.doc)
    (and_parts (nat_lt 0 op.id.counter && nat_lt op.id.counter 281474976710656 && nat_lt 0 op.doc) (nat_lt op.doc 4294967296) e).0).1

last_in_range : (ops : List Op) (op : Op) → is_within_limits (ops ++ op ∷ []) ≡ true → is_in_range op ≡ true
last_in_range ops op e =
    let k = and_parts (list_all is_in_range (ops ++ op ∷ [])) (has_room (ops ++ op ∷ [])) e in
    let l = and_parts (list_all is_in_range ops) (list_all is_in_range (op ∷ [])) (rw (list_all-append is_in_range ops (op ∷ [])) at k.0) in
    (and_parts (is_in_range op) true l.1).0

-- names that are known are covered by the clock of the list, with smaller counters than one above all
names_by_clock : (ops : List Op) (op : Op) → op.deps ≡ clock_of ops → greatest_counter ops < op.id.counter
    → AreNamesKnown ops op.doc op.body → names_inserts ops op ≡ true
names_by_clock ops op d g n =
    rw d (all_weaker (λ id. has_id (characters ops op.doc) id) (λ id. is_covered_insert ops (clock_of ops) op.doc id && nat_lt id.counter op.id.counter)
    (λ id e. and_from (is_covered_insert ops (clock_of ops) op.doc id) (nat_lt id.counter op.id.counter) (covered_by_clock ops op.doc id e)
    (lt-ltb id.counter op.id.counter (omega (arith, counter_within ops op.doc id (found_insert ops op.doc id e))))) (named_by op.body) n)

-- an operation with the clock of the list, a greater counter and known names may follow
pub follows_by_clock : (ops : List Op) (op : Op) → op.deps ≡ clock_of ops → greatest_counter ops < op.id.counter
    → AreNamesKnown ops op.doc op.body → is_within_limits (ops ++ op ∷ []) ≡ true → MayFollow ops op
follows_by_clock ops op d g n l = record {
  ready = rw d (ready_by_clock ops op.id.replica);
  counter = counted_up ops op op.id.replica g;
  names = names_by_clock ops op d g n;
  document = range_document op (last_in_range ops op l);
  limits = l;
}

-- it fits its document, whatever the limits say
pub fits_by_clock : (ops : List Op) (op : Op) → op.deps ≡ clock_of ops → greatest_counter ops < op.id.counter
    → AreNamesKnown ops op.doc op.body → Fits ops op.doc op
fits_by_clock ops op d g n =
    fits_by_tests ops op.doc op (counted_up ops op op.id.replica g) (names_by_clock ops op d g n) refl

-- a front of a list keeps the limits that the list keeps
length_advanced : (es : List (ℕ × ℕ)) (r : ℕ) → length es ≤ length (advanced es r)
length_advanced [] r = omega arith
length_advanced (e ∷ es) r =
    elim (cases_Bool (ltb r e.0)) [
      | inl k ↦ rw k (omega arith)
      | inr k ↦ elim (cases_Bool (e.0 == r)) [
        | inl f ↦ simp (k, f) (omega arith)
        | inr f ↦ simp (k, f) (omega (arith, length_advanced es r))
      ]
    ]

length_with_number : (n : ℕ) (ns : List ℕ) → length ns ≤ length (with_number n ns)
length_with_number n [] = omega arith
length_with_number n (x ∷ ns) =
    elim (cases_Bool (ltb n x)) [
      | inl k ↦ rw k (omega arith)
      | inr k ↦ elim (cases_Bool (n == x)) [
        | inl f ↦ simp (k, f) (omega arith)
        | inr f ↦ simp (k, f) (omega (arith, length_with_number n ns))
      ]
    ]

-- the documents with one operation more
pub documents-push : (ops : List Op) (op : Op) → documents (ops ++ op ∷ []) ≡ with_number op.doc (documents ops)
documents-push [] op = refl
documents-push (x ∷ ops) op = rw (documents-push ops op) (number_swapped x.doc op.doc (documents ops))

stream-push : (ops : List Op) (op : Op) → stream_length ops ≤ stream_length (ops ++ op ∷ [])
stream-push [] op = omega arith
stream-push (x ∷ ops) op = omega (arith, stream-push ops op)

at_most : (a b n : ℕ) → a ≤ b → nat_le b n ≡ true → nat_le a n ≡ true
at_most a b n l e = le-leb a n (omega (arith, leb-true b n e))

room_front : (ops : List Op) (op : Op) → has_room (ops ++ op ∷ []) ≡ true → has_room ops ≡ true
room_front ops op e =
    let k = and_parts (nat_le (length (clock_of (ops ++ op ∷ []))) 16 && nat_le (length (documents (ops ++ op ∷ []))) 1024 && nat_le (length (ops ++ op ∷ [])) 16777216) (nat_le (stream_length (ops ++ op ∷ [])) 1073741824) e in
    let l = and_parts (nat_le (length (clock_of (ops ++ op ∷ []))) 16 && nat_le (length (documents (ops ++ op ∷ []))) 1024) (nat_le (length (ops ++ op ∷ [])) 16777216) k.0 in
    let m = and_parts (nat_le (length (clock_of (ops ++ op ∷ []))) 16) (nat_le (length (documents (ops ++ op ∷ []))) 1024) l.0 in
    and_from _ (nat_le (stream_length ops) 1073741824)
    (and_from _ (nat_le (length ops) 16777216)
    (and_from (nat_le (length (clock_of ops)) 16) (nat_le (length (documents ops)) 1024)
    (at_most (length (clock_of ops)) (length (clock_of (ops ++ op ∷ []))) 16 (rw (clock-push ops op) (length_advanced (clock_of ops) op.id.replica)) m.0)
    (at_most (length (documents ops)) (length (documents (ops ++ op ∷ []))) 1024 (rw (documents-push ops op) (length_with_number op.doc (documents ops))) m.1))
    (at_most (length ops) (length (ops ++ op ∷ [])) 16777216 (omega (arith, length-append ops (op ∷ []))) l.1))
    (at_most (stream_length ops) (stream_length (ops ++ op ∷ [])) 1073741824 (stream-push ops op) k.1)

limits_push : (ops : List Op) (op : Op) → is_within_limits (ops ++ op ∷ []) ≡ true → is_within_limits ops ≡ true
limits_push ops op e =
    let k = and_parts (list_all is_in_range (ops ++ op ∷ [])) (has_room (ops ++ op ∷ [])) e in
    let l = and_parts (list_all is_in_range ops) (list_all is_in_range (op ∷ [])) (rw (list_all-append is_in_range ops (op ∷ [])) at k.0) in
    and_from (list_all is_in_range ops) (has_room ops) l.0 (room_front ops op k.1)

pub limits_front : (ops more : List Op) → is_within_limits (ops ++ more) ≡ true → is_within_limits ops ≡ true
limits_front ops [] e = rw append-nil at e
limits_front ops (op ∷ more) e = limits_push ops op (limits_front (ops ++ op ∷ []) more (rw append_assoc e))
