-- The limits of a store behind an edit.
use Rattle.std.proofs.Common.{◌≡◌, ℕ, ◌+◌, ◌≤◌, ◌<◌, Bool, true, false, ◌&&◌, nat_le, nat_lt, Option, List, [], ◌∷◌, ◌++◌, length, refl, sym, ◌∙◌, ap}
use Rattle.std.proofs.Common.{append_assoc, append-nil, arith}
use Rattle.std.specs.List.{list_all}
use Rattle.std.proofs.lemmas.Bool.{false≢true, lt-ltb, le-leb}
use Rattle.std.proofs.lemmas.Bool.Decides.{nat_tests}
use Rattle.std.proofs.lemmas.List.Folds.{list_all-append}
use Rattle.op_ids.specs.Clock.{advanced, advanced_by, is_clock, IsOverfull}
use Rattle.op_ids.proofs.ClockLemmas.{is_clock_parts}
use Rattle.op_model.specs.declared.op.Op.{Op}
use Rattle.op_model.specs.declared.op.Body.{Body}
use Rattle.op_model.specs.declared.edit.Edit.{Edit}
use Rattle.op_model.specs.Causality.{clock_of, documents, is_in_range, has_room, is_within_limits, FollowInTurn, IsCausallyClosed, MayFollow}
use Rattle.op_model.specs.Made.{greatest_counter, numbered, bodies_of, made, size_of}
use Rattle.op_model.specs.Records.{stream_length, record_length}
use Rattle.model_laws.proofs.Ready.{clock-push, documents-push}
use Rattle.op_model.specs.Spans.{with_number}
use Rattle.model_laws.specs.Asking.{IsAskedRight}
use Rattle.model_laws.proofs.EditLimits.{clock_of-numbered, length-bodies_of, length-numbered, is_within_limits-uncounted, is_within_limits-full}
use Rattle.model_laws.proofs.Overfull.{IsOverfull-advanced_by}
use Rattle.model_laws.proofs.Limits.{within-append}
use Rattle.replica_core.proofs.LengthLemmas.{length-advanced_twice}

within_in_turn : (before ops : List Op) → is_within_limits before ≡ true → FollowInTurn before ops → is_within_limits (before ++ ops) ≡ true
within_in_turn before [] kept follow = rw append-nil kept
within_in_turn before (op ∷ ops) kept follow =
    rw append_assoc at (within_in_turn (before ++ op ∷ []) ops follow.0.limits follow.1)

-- a causally closed list keeps the limits
pub closed_within : (ops : List Op) → IsCausallyClosed ops → is_within_limits ops ≡ true
closed_within ops closed = within_in_turn [] ops refl closed

third_false : (a b c d rest : Bool) → c ≡ false → ((a && b && c && d) && rest) ≡ false
third_false a b c d rest none = grind (arith, nat_tests)

second_false : (first second room : Bool) → second ≡ false → ((first && second) && room) ≡ false
second_false first second room none = grind (arith, nat_tests)

-- an operation of document 0 is out of range
in_range-no_document : (replica doc : ℕ) (token : Option ℕ) (counter : ℕ) (clock : List (ℕ × ℕ)) (bs : List Body) → doc ≡ 0 → 0 < length bs
    → list_all is_in_range (numbered replica doc token counter clock bs) ≡ false
in_range-no_document replica doc token counter clock [] none some = absurd (omega arith)
in_range-no_document replica doc token counter clock (b ∷ bs) none some =
    third_false (nat_lt 0 counter) (nat_lt counter 281474976710656) (nat_lt 0 doc) (nat_lt doc 4294967296) _ (rw none refl)

-- an edit that asks right makes some operation
some_body : (ops : List Op) (replica : ℕ) (e : Edit) → IsAskedRight ops e → 0 < size_of e.change → 0 < length (bodies_of ops replica e.doc e.change)
some_body ops replica e right some = let many = length-bodies_of ops replica e.doc e.change right.inside in omega arith

-- so an edit of document 0 is beyond the limits
pub is_within_limits-no_document : (ops : List Op) (replica : ℕ) (e : Edit) → IsAskedRight ops e → 0 < size_of e.change → e.doc ≡ 0
    → is_within_limits (ops ++ made ops replica e) ≡ false
is_within_limits-no_document ops replica e right some none =
    let out = in_range-no_document replica e.doc e.token (greatest_counter ops + 1) (clock_of ops) (bodies_of ops replica e.doc e.change) none (some_body ops replica e right some) in
    rw (list_all-append is_in_range ops (made ops replica e))
    (second_false (list_all is_in_range ops) (list_all is_in_range (made ops replica e)) (has_room (ops ++ made ops replica e)) out)

overfull_by : (clock : List (ℕ × ℕ)) (replica : ℕ) (bs : List Body) → 0 < length bs → IsOverfull (advanced clock replica) → IsOverfull (advanced_by clock replica (length bs))
overfull_by clock replica [] some full = absurd (omega arith)
overfull_by clock replica (b ∷ bs) some full = IsOverfull-advanced_by (advanced clock replica) replica (length bs) full

-- an edit of which the clock can't count the first operation is beyond the limits
pub is_within_limits-overfull : (ops : List Op) (replica : ℕ) (e : Edit) → IsAskedRight ops e → 0 < size_of e.change
    → IsOverfull (advanced (clock_of ops) replica) → is_within_limits (ops ++ made ops replica e) ≡ false
is_within_limits-overfull ops replica e right some full =
    is_within_limits-uncounted ops replica e
    (overfull_by (clock_of ops) replica (bodies_of ops replica e.doc e.change) (some_body ops replica e right some) full)

-- counters that keep below the last one are in range
four_true : (a b c d rest : Bool) → a ≡ true → b ≡ true → c ≡ true → d ≡ true → rest ≡ true → ((a && b && c && d) && rest) ≡ true
four_true a b c d rest e f g h k = grind (arith, nat_tests)

in_range-numbered : (replica doc : ℕ) (token : Option ℕ) (counter last : ℕ) (clock : List (ℕ × ℕ)) (bs : List Body) → 0 < counter → counter + length bs ≤ last → last ≡ 281474976710656
    → nat_lt 0 doc ≡ true → nat_lt doc 4294967296 ≡ true → list_all is_in_range (numbered replica doc token counter clock bs) ≡ true
in_range-numbered replica doc token counter last clock [] above below is_last some small = refl
in_range-numbered replica doc token counter last clock (b ∷ bs) above below is_last some small =
    four_true (nat_lt 0 counter) (nat_lt counter 281474976710656) (nat_lt 0 doc) (nat_lt doc 4294967296) _
    (lt-ltb 0 counter above) (rw is_last at (lt-ltb counter last (omega arith))) some small
    (in_range-numbered replica doc token (counter + 1) last (advanced clock replica) bs (omega arith) (omega arith) is_last some small)

-- how long the clock is behind operations of one replica
length-advanced_by : (clock : List (ℕ × ℕ)) (replica : ℕ) (bs : List Body) → length (advanced clock replica) ≡ length clock
    → length (advanced_by clock replica (length bs)) ≡ length clock
length-advanced_by clock replica [] same = refl
length-advanced_by clock replica (b ∷ bs) same =
    length-advanced_by (advanced clock replica) replica bs (length-advanced_twice clock replica) ∙ same

length-advanced_by_some : (clock : List (ℕ × ℕ)) (replica : ℕ) (bs : List Body) → 0 < length bs
    → length (advanced_by clock replica (length bs)) ≡ length (advanced clock replica)
length-advanced_by_some clock replica [] some = absurd (omega arith)
length-advanced_by_some clock replica (b ∷ bs) some =
    length-advanced_by (advanced clock replica) replica bs (length-advanced_twice clock replica)

number_twice : (n : ℕ) (ns : List ℕ) → with_number n (with_number n ns) ≡ with_number n ns
number_twice n [] = grind (arith, nat_tests)
number_twice n (x ∷ ns) = let rest = number_twice n ns in grind (arith, nat_tests)

-- the documents with that of operations that are numbered
pub documents-numbered : (ops : List Op) (replica doc : ℕ) (token : Option ℕ) (counter : ℕ) (clock : List (ℕ × ℕ)) (bs : List Body) → 0 < length bs
    → documents (ops ++ numbered replica doc token counter clock bs) ≡ with_number doc (documents ops)
documents-numbered ops replica doc token counter clock [] some = absurd (omega arith)
documents-numbered ops replica doc token counter clock (b ∷ []) some = documents-push ops _
documents-numbered ops replica doc token counter clock (b ∷ d ∷ bs) some =
    let op : Op = record { id = record { counter = counter; replica = replica }; doc = doc; token = token; deps = clock; body = b } in
    let rest = numbered replica doc token (counter + 1) (advanced clock replica) (d ∷ bs) in
    ap documents (sym (append_assoc ops (op ∷ []) rest))
    ∙ (documents-numbered (ops ++ op ∷ []) replica doc token (counter + 1) (advanced clock replica) (d ∷ bs) (omega arith)
    ∙ (ap (with_number doc) (documents-push ops op) ∙ number_twice doc (documents ops)))

-- the documents with those of an edit
pub documents-made : (ops : List Op) (replica : ℕ) (e : Edit) → IsAskedRight ops e → 0 < size_of e.change
    → documents (ops ++ made ops replica e) ≡ with_number e.doc (documents ops)
documents-made ops replica e right some =
    documents-numbered ops replica e.doc e.token (greatest_counter ops + 1) (clock_of ops) (bodies_of ops replica e.doc e.change) (some_body ops replica e right some)

-- as many operations as the change makes
pub length-made : (ops : List Op) (replica : ℕ) (e : Edit) → IsAskedRight ops e → length (made ops replica e) ≡ size_of e.change
length-made ops replica e right =
    length-numbered replica e.doc e.token (greatest_counter ops + 1) (clock_of ops) (bodies_of ops replica e.doc e.change)
    ∙ length-bodies_of ops replica e.doc e.change right.inside

and_first : (a b : Bool) → (a && b) ≡ true → a ≡ true
and_first a b both = grind (arith, nat_tests)

three_left : (a b c d e f : Bool) → a ≡ true → b ≡ true → c ≡ true → ((a && b) && (c && d && e && f)) ≡ (d && e && f)
three_left a b c d e f g h k = grind (arith, nat_tests)

-- where counters and clock fit, the other limits decide
pub is_within_limits-made : (ops : List Op) (replica : ℕ) (e : Edit) (last : ℕ) → IsCausallyClosed ops → IsAskedRight ops e → 0 < size_of e.change
    → greatest_counter ops + 1 + size_of e.change ≤ last → last ≡ 281474976710656 → nat_lt 0 e.doc ≡ true → nat_lt e.doc 4294967296 ≡ true
    → is_clock (advanced (clock_of ops) replica) ≡ true
    → is_within_limits (ops ++ made ops replica e)
    ≡ (nat_le (length (with_number e.doc (documents ops))) 1024 && nat_le (length ops + size_of e.change) 16777216 && nat_le (stream_length ops + stream_length (made ops replica e)) 1073741824)
is_within_limits-made ops replica e last closed right some below is_last there small fits =
    let bodies = bodies_of ops replica e.doc e.change in
    let many = length-bodies_of ops replica e.doc e.change right.inside in
    let counters = in_range-numbered replica e.doc e.token (greatest_counter ops + 1) last (clock_of ops) bodies (omega arith) (omega arith) is_last there small in
    let all : (list_all is_in_range ops && has_room ops) ≡ true = closed_within ops closed in
    let first : list_all is_in_range ops ≡ true = and_first (list_all is_in_range ops) (has_room ops) all in
    let long : length (clock_of (ops ++ made ops replica e)) ≡ length (advanced (clock_of ops) replica) =
    ap length (clock_of-numbered ops replica e.doc e.token (greatest_counter ops + 1) (clock_of ops) bodies) ∙ length-advanced_by_some (clock_of ops) replica bodies (some_body ops replica e right some) in
    let clocks : nat_le (length (clock_of (ops ++ made ops replica e))) 16 ≡ true = rw long (le-leb (length (advanced (clock_of ops) replica)) 16 (is_clock_parts (advanced (clock_of ops) replica) fits).1) in
    within-append ops (made ops replica e)
    ∙ (three_left (list_all is_in_range ops) (list_all is_in_range (made ops replica e)) (nat_le (length (clock_of (ops ++ made ops replica e))) 16) _ _ _ first counters clocks
    ∙ (rw (documents-made ops replica e right some, length-made ops replica e right) refl))

-- where counters and clock fit, the other limits decide on one operation more
pub is_within_limits-push : (ops : List Op) (op : Op) → IsCausallyClosed ops → is_in_range op ≡ true → is_clock (advanced (clock_of ops) op.id.replica) ≡ true
    → is_within_limits (ops ++ op ∷ [])
    ≡ (nat_le (length (with_number op.doc (documents ops))) 1024 && nat_le (length ops + 1) 16777216 && nat_le (stream_length ops + record_length op) 1073741824)
is_within_limits-push ops op closed in_range fits =
    let all : (list_all is_in_range ops && has_room ops) ≡ true = closed_within ops closed in
    let first : list_all is_in_range ops ≡ true = and_first (list_all is_in_range ops) (has_room ops) all in
    let one : list_all is_in_range (op ∷ []) ≡ true = rw in_range refl in
    let clocks : nat_le (length (clock_of (ops ++ op ∷ []))) 16 ≡ true = rw (clock-push ops op) (le-leb (length (advanced (clock_of ops) op.id.replica)) 16 (is_clock_parts (advanced (clock_of ops) op.id.replica) fits).1) in
    let bytes : stream_length (op ∷ []) ≡ record_length op = omega arith in
    within-append ops (op ∷ [])
    ∙ (three_left (list_all is_in_range ops) (list_all is_in_range (op ∷ [])) (nat_le (length (clock_of (ops ++ op ∷ []))) 16) _ _ _ first one clocks
    ∙ (rw (documents-push ops op, bytes) refl))

-- an operation that the clock can't count is beyond the limits
pub is_within_limits-push_overfull : (ops : List Op) (op : Op) → IsOverfull (advanced (clock_of ops) op.id.replica) → is_within_limits (ops ++ op ∷ []) ≡ false
is_within_limits-push_overfull ops op full = is_within_limits-full (ops ++ op ∷ []) (rw (clock-push ops op) full)

-- so the clock can count an operation that may follow
pub never_overfull : (ops : List Op) (op : Op) (clock : List (ℕ × ℕ)) → MayFollow ops op → clock ≡ clock_of ops
    → IsOverfull (advanced clock op.id.replica) → ⊥
never_overfull ops op clock follows is_it full =
    let over : IsOverfull (advanced (clock_of ops) op.id.replica) = rw is_it at full in
    false≢true (sym (is_within_limits-push_overfull ops op over) ∙ follows.limits)

-- a counter and a document in range
pub is_in_range-parts : (op : Op) (last most : ℕ) → 0 < op.id.counter → op.id.counter < last → last ≡ 281474976710656 → 0 < op.doc → op.doc < most → most ≡ 4294967296
    → is_in_range op ≡ true
is_in_range-parts op last most a b is_last c d is_most =
    all_four (nat_lt 0 op.id.counter) (nat_lt op.id.counter 281474976710656) (nat_lt 0 op.doc) (nat_lt op.doc 4294967296)
    (lt-ltb 0 op.id.counter a) (rw is_last at (lt-ltb op.id.counter last b)) (lt-ltb 0 op.doc c) (rw is_most at (lt-ltb op.doc most d))
  where
    all_four : (a b c d : Bool) → a ≡ true → b ≡ true → c ≡ true → d ≡ true → (a && b && c && d) ≡ true
    all_four a b c d e f g h = grind (arith, nat_tests)
