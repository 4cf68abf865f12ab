-- The limits of a store after an edit that they allow.
use Rattle.std.proofs.Common.{◌≡◌, ℕ, zero, suc, ◌+◌, ◌≤◌, ◌<◌, Bool, true, false, ◌&&◌, nat_le, nat_lt, Option, None, Some, List, [], ◌∷◌, ◌++◌, length}
use Rattle.std.proofs.Common.{refl, sym, ◌∙◌, ap, append_assoc, append-nil, arith}
use Rattle.std.specs.Prelude.{not, if◌then◌else◌}
use Rattle.std.specs.List.{list_all}
use Rattle.std.proofs.lemmas.Bool.{lt-ltb, le-leb}
use Rattle.std.proofs.lemmas.Bool.Decides.{nat_tests}
use Rattle.op_ids.specs.Clock.{advanced, advanced_by}
use Rattle.op_ids.proofs.FullLemmas.{length-le-advanced}
use Rattle.op_model.specs.declared.op.Op.{Op}
use Rattle.op_model.specs.declared.op.Body.{Body}
use Rattle.op_model.specs.declared.edit.Edit.{Edit}
use Rattle.op_model.specs.Causality.{clock_of, documents, is_in_range, has_room, is_within_limits, FollowInTurn, IsCausallyClosed}
use Rattle.op_model.specs.Made.{greatest_counter, numbered, bodies_of, made, size_of, edit_refusal, is_at_rev, is_inside, is_small}
use Rattle.op_model.specs.Text.{rev, visible}
use Rattle.op_model.specs.Records.{stream_length}
use Rattle.op_model.specs.Spans.{with_number}
use Rattle.model_laws.specs.Asking.{IsAskedRight}
use Rattle.model_laws.proofs.EditLimits.{clock_of-numbered, length-bodies_of, length-numbered}
use Rattle.model_laws.proofs.Limits.{within-append}
use Rattle.model_laws.proofs.Ready.{documents-push, greatest-push}

within_in_turn : (before ops : List Op) → is_within_limits before ≡ true → FollowInTurn before ops → is_within_limits (before ++ ops) ≡ true
within_in_turn before [] kept follow = rw append-nil kept
within_in_turn before (op ∷ ops) kept follow =
    rw append_assoc at (within_in_turn (before ++ op ∷ []) ops follow.0.limits follow.1)

-- a causally closed list keeps the limits
pub closed_within : (ops : List Op) → IsCausallyClosed ops → is_within_limits ops ≡ true
closed_within ops closed = within_in_turn [] ops refl closed

-- counters that keep below the last one are in range
four_true : (a b c d rest : Bool) → a ≡ true → b ≡ true → c ≡ true → d ≡ true → rest ≡ true → ((a && b && c && d) && rest) ≡ true
four_true a b c d rest e f g h k = grind (arith, nat_tests)

pub in_range-numbered_below : (replica doc : ℕ) (token : Option ℕ) (counter last : ℕ) (clock : List (ℕ × ℕ)) (bs : List Body) → 0 < counter → counter + length bs ≤ last → last ≡ 281474976710656
    → nat_lt 0 doc ≡ true → nat_lt doc 4294967296 ≡ true → list_all is_in_range (numbered replica doc token counter clock bs) ≡ true
in_range-numbered_below replica doc token counter last clock [] above below is_last some small = refl
in_range-numbered_below replica doc token counter last clock (b ∷ bs) above below is_last some small =
    four_true (nat_lt 0 counter) (nat_lt counter 281474976710656) (nat_lt 0 doc) (nat_lt doc 4294967296) _
    (lt-ltb 0 counter above) (rw is_last at (lt-ltb counter last (omega arith))) some small
    (in_range-numbered_below replica doc token (counter + 1) last (advanced clock replica) bs (omega arith) (omega arith) is_last some small)

-- a replica that is counted once more leaves the clock as long as it is
pub length-advanced_twice : (es : List (ℕ × ℕ)) (r : ℕ) → length (advanced (advanced es r) r) ≡ length (advanced es r)
length-advanced_twice [] r = grind (arith, nat_tests)
length-advanced_twice (e ∷ es) r = let rest = length-advanced_twice es r in grind (arith, nat_tests)

-- so do operations of that replica
pub length-advanced_after : (es : List (ℕ × ℕ)) (r n : ℕ) → length (advanced (advanced_by es r n) r) ≡ length (advanced es r)
length-advanced_after es r zero = refl
length-advanced_after es r (suc n) = length-advanced_after (advanced es r) r n ∙ length-advanced_twice es r

-- a number twice is there once
pub number_twice : (n : ℕ) (ns : List ℕ) → with_number n (with_number n ns) ≡ with_number n ns
number_twice n [] = grind (arith, nat_tests)
number_twice n (x ∷ ns) = let rest = number_twice n ns in grind (arith, nat_tests)

-- the documents with this one are the same after operations of it
pub with_document-numbered : (ops : List Op) (replica doc : ℕ) (token : Option ℕ) (counter : ℕ) (clock : List (ℕ × ℕ)) (bs : List Body)
    → with_number doc (documents (ops ++ numbered replica doc token counter clock bs)) ≡ with_number doc (documents ops)
with_document-numbered ops replica doc token counter clock [] = ap (λ all. with_number doc (documents all)) (append-nil ops)
with_document-numbered ops replica doc token counter clock (b ∷ bs) =
    let op : Op = record { id = record { counter = counter; replica = replica }; doc = doc; token = token; deps = clock; body = b } in
    let rest = numbered replica doc token (counter + 1) (advanced clock replica) bs in
    ap (λ all. with_number doc (documents all)) (sym (append_assoc ops (op ∷ []) rest))
    ∙ (with_document-numbered (ops ++ op ∷ []) replica doc token (counter + 1) (advanced clock replica) bs
    ∙ (ap (with_number doc) (documents-push ops op) ∙ number_twice doc (documents ops)))

-- a list with a number has at least those without it
pub length-with_number : (n : ℕ) (ns : List ℕ) → length ns ≤ length (with_number n ns)
length-with_number n [] = omega arith
length-with_number n (x ∷ ns) = let rest = length-with_number n ns in grind (arith, nat_tests)

-- the greatest counter after operations that count on from it
pub greatest-numbered : (ops : List Op) (replica doc : ℕ) (token : Option ℕ) (counter : ℕ) (clock : List (ℕ × ℕ)) (bs : List Body)
    → counter ≡ greatest_counter ops + 1
    → greatest_counter (ops ++ numbered replica doc token counter clock bs) ≡ greatest_counter ops + length bs
greatest-numbered ops replica doc token counter clock [] next = ap greatest_counter (append-nil ops) ∙ omega arith
greatest-numbered ops replica doc token counter clock (b ∷ bs) next =
    let op : Op = record { id = record { counter = counter; replica = replica }; doc = doc; token = token; deps = clock; body = b } in
    let rest = numbered replica doc token (counter + 1) (advanced clock replica) bs in
    let push = greatest-push ops op in
    ap greatest_counter (sym (append_assoc ops (op ∷ []) rest))
    ∙ (greatest-numbered (ops ++ op ∷ []) replica doc token (counter + 1) (advanced clock replica) bs (omega arith) ∙ omega arith)

-- a list of no length is empty
none_of : (ops : List Op) → length ops ≡ 0 → ops ≡ []
none_of [] none = refl
none_of (op ∷ ops) none = absurd (omega arith)

-- the causes to refuse an edit, in the order of test
abbrev causes : Bool → Bool → Bool → Option ℕ
causes current inside kept = if not current then Some 6 else if not inside then Some 5 else if not kept then Some 7 else None

none_refused : (a b c d : Bool) → causes a b (c && d) ≡ None → (a ≡ true) × (b ≡ true) × (c ≡ true) × (d ≡ true)
none_refused true true true true e = (refl, refl, refl, refl)
none_refused true true true false e = absurd (cc)
none_refused true true false d e = absurd (cc)
none_refused true false c d e = absurd (cc)
none_refused false b c d e = absurd (cc)

-- an edit that nothing refuses asks right
pub due_asks_right : (ops : List Op) (replica : ℕ) (e : Edit) → edit_refusal ops replica e ≡ None → IsAskedRight ops e
due_asks_right ops replica e due =
    let all = none_refused (is_at_rev (rev ops e.doc) e.rev) (is_inside (length (visible ops e.doc)) e.change) (is_small e.change) (is_within_limits (ops ++ made ops replica e)) due in
    record { current = all.0; inside = all.1; small = all.2 }

-- and keeps the limits
pub due_within : (ops : List Op) (replica : ℕ) (e : Edit) → edit_refusal ops replica e ≡ None → is_within_limits (ops ++ made ops replica e) ≡ true
due_within ops replica e due =
    (none_refused (is_at_rev (rev ops e.doc) e.rev) (is_inside (length (visible ops e.doc)) e.change) (is_small e.change) (is_within_limits (ops ++ made ops replica e)) due).3

-- nothing refuses an edit that asks right and keeps the limits
pub due_from : (ops : List Op) (replica : ℕ) (e : Edit) → IsAskedRight ops e → is_within_limits (ops ++ made ops replica e) ≡ true
    → edit_refusal ops replica e ≡ None
due_from ops replica e right within = rw (right.current, right.inside, right.small, within) refl

-- as many operations as the change makes
pub length-made_inside : (ops : List Op) (replica : ℕ) (e : Edit) → is_inside (length (visible ops e.doc)) e.change ≡ true → length (made ops replica e) ≡ size_of e.change
length-made_inside ops replica e inside =
    length-numbered replica e.doc e.token (greatest_counter ops + 1) (clock_of ops) (bodies_of ops replica e.doc e.change)
    ∙ length-bodies_of ops replica e.doc e.change inside

pub length-made : (ops : List Op) (replica : ℕ) (e : Edit) → IsAskedRight ops e → length (made ops replica e) ≡ size_of e.change
length-made ops replica e right = length-made_inside ops replica e right.inside

-- a change of size 0 makes none
pub made-none : (ops : List Op) (replica : ℕ) (e : Edit) → is_inside (length (visible ops e.doc)) e.change ≡ true → size_of e.change ≡ 0 → made ops replica e ≡ []
made-none ops replica e inside none = none_of (made ops replica e) (length-made_inside ops replica e inside ∙ none)

and_first : (a b : Bool) → (a && b) ≡ true → a ≡ true
and_first a b both = grind (arith, nat_tests)

all_parts : (a b c d e f : Bool) → a ≡ true → b ≡ true → c ≡ true → d ≡ true → e ≡ true → f ≡ true → ((a && b) && (c && d && e && f)) ≡ true
all_parts a b c d e f g h i j k l = rw (g, h, i, j, k, l) refl

module _ (ops : List Op) (replica : ℕ) (e : Edit) (inside : is_inside (length (visible ops e.doc)) e.change ≡ true) where
  abbrev bodies : List Body
  bodies = bodies_of ops replica e.doc e.change

  many : length bodies ≡ size_of e.change
  many = length-bodies_of ops replica e.doc e.change inside

  -- the greatest counter after an edit
  pub greatest-made : greatest_counter (ops ++ made ops replica e) ≡ greatest_counter ops + size_of e.change
  greatest-made =
      greatest-numbered ops replica e.doc e.token (greatest_counter ops + 1) (clock_of ops) bodies refl ∙ ap (λ n. greatest_counter ops + n) many

  -- the clock after an edit
  pub clock-made : clock_of (ops ++ made ops replica e) ≡ advanced_by (clock_of ops) replica (size_of e.change)
  clock-made =
      clock_of-numbered ops replica e.doc e.token (greatest_counter ops + 1) (clock_of ops) bodies ∙ ap (λ n. advanced_by (clock_of ops) replica n) many

  -- with one more operation of the replica it counts as many replicas as before
  pub replicas-made : length (advanced (clock_of (ops ++ made ops replica e)) replica) ≡ length (advanced (clock_of ops) replica)
  replicas-made = rw clock-made (length-advanced_after (clock_of ops) replica (size_of e.change))

-- the documents with that of an edit are the same after it
pub with_document-made : (ops : List Op) (replica : ℕ) (e : Edit)
    → with_number e.doc (documents (ops ++ made ops replica e)) ≡ with_number e.doc (documents ops)
with_document-made ops replica e =
    with_document-numbered ops replica e.doc e.token (greatest_counter ops + 1) (clock_of ops) (bodies_of ops replica e.doc e.change)

-- The counters, operations and bytes of an edit keep below these numbers, and its document and replica may be added.
pub record KeepsLimits (ops : List Op) (replica : ℕ) (e : Edit) (last most bytes : ℕ) : Type 0 where
  pub counters : greatest_counter ops + size_of e.change < last
  pub operations : length ops + size_of e.change ≤ most
  pub stream : stream_length ops + stream_length (made ops replica e) ≤ bytes
  pub doc : nat_lt 0 e.doc ≡ true
  pub small : nat_lt e.doc 4294967296 ≡ true
  pub documents : nat_le (length (with_number e.doc (documents ops))) 1024 ≡ true
  pub replicas : nat_le (length (advanced (clock_of ops) replica)) 16 ≡ true

-- no more replicas are counted than with one more operation
replicas_at_most : (ops : List Op) (replica : ℕ) (e : Edit) → is_inside (length (visible ops e.doc)) e.change ≡ true
    → length (clock_of (ops ++ made ops replica e)) ≤ length (advanced (clock_of ops) replica)
replicas_at_most ops replica e inside =
    let all = ops ++ made ops replica e in
    let one = length-le-advanced (clock_of all) replica in
    let same = replicas-made ops replica e inside in
    omega (arith, one, same)

documents_at_most : (ops : List Op) (replica : ℕ) (e : Edit)
    → length (documents (ops ++ made ops replica e)) ≤ length (with_number e.doc (documents ops))
documents_at_most ops replica e =
    let one = length-with_number e.doc (documents (ops ++ made ops replica e)) in
    let same = ap length (with_document-made ops replica e) in
    omega (arith, one, same)

tested : (a b n : ℕ) → a ≤ b → nat_le b n ≡ true → nat_le a n ≡ true
tested a b n less test = grind (arith, nat_tests)

-- then the list with the edit's operations keeps the limits
pub within_made : (ops : List Op) (replica : ℕ) (e : Edit) (last most bytes : ℕ) → IsCausallyClosed ops
    → is_inside (length (visible ops e.doc)) e.change ≡ true → KeepsLimits ops replica e last most bytes
    → last ≡ 281474976710656 → most ≡ 16777216 → bytes ≡ 1073741824
    → is_within_limits (ops ++ made ops replica e) ≡ true
within_made ops replica e last most bytes closed inside fits is_last is_most is_bytes =
    let bodies = bodies_of ops replica e.doc e.change in
    let many = length-bodies_of ops replica e.doc e.change inside in
    let counters = fits.counters in
    let in_range = in_range-numbered_below replica e.doc e.token (greatest_counter ops + 1) last (clock_of ops) bodies (omega arith) (omega (arith, many, counters)) is_last fits.doc fits.small in
    let first : list_all is_in_range ops ≡ true = and_first (list_all is_in_range ops) (has_room ops) (closed_within ops closed) in
    let long = length-made_inside ops replica e inside in
    let operations = fits.operations in
    within-append ops (made ops replica e)
    ∙ all_parts (list_all is_in_range ops) (list_all is_in_range (made ops replica e)) _ _ _ _ first in_range
    (tested (length (clock_of (ops ++ made ops replica e))) (length (advanced (clock_of ops) replica)) 16 (replicas_at_most ops replica e inside) fits.replicas)
    (tested (length (documents (ops ++ made ops replica e))) (length (with_number e.doc (documents ops))) 1024 (documents_at_most ops replica e) fits.documents)
    (rw is_most at (le-leb (length ops + length (made ops replica e)) most (omega (arith, long, operations))))
    (rw is_bytes at (le-leb (stream_length ops + stream_length (made ops replica e)) bytes fits.stream))

last_of_four : (a b c d e : Bool) → (a && (b && c && d && e)) ≡ true → e ≡ true
last_of_four a b c d e all = grind (arith, nat_tests)

-- a number that passes the test is at most the last one
pub at_most : (n last : ℕ) → nat_le n last ≡ true → n ≤ last
at_most n last small = grind (arith, nat_tests)

-- the stream of a list within the limits
pub stream_within : (ops : List Op) → is_within_limits ops ≡ true → stream_length ops ≤ 1073741824
stream_within ops limits =
    at_most (stream_length ops) 1073741824
    (last_of_four (list_all is_in_range ops) (nat_le (length (clock_of ops)) 16) (nat_le (length (documents ops)) 1024)
    (nat_le (length ops) 16777216) (nat_le (stream_length ops) 1073741824) limits)
