-- What is known of a list, with one operation more.
use Rattle.std.proofs.Common.{◌≡◌, ℕ, ◌+◌, ◌≤◌, ◌<◌, ◌^◌, Bool, true, ◌&&◌, nat_le, List, [], ◌∷◌, ◌++◌, length, take, drop, get_or, refl, sym, ◌∙◌}
use Rattle.std.proofs.Common.{ap, append_assoc, nat_lt, arith}
use Rattle.std.specs.List.{list_all}
use Rattle.std.proofs.lemmas.Bool.Decides.{nat_tests}
use Rattle.op_model.specs.declared.op.Op.{Op}
use Rattle.op_model.specs.Causality.{MayFollow, FollowInTurn, IsCausallyClosed, clock_of, documents, has_room, is_in_range, is_within_limits}
use Rattle.std.proofs.lemmas.Bool.{and_parts}
use Rattle.op_model.specs.Made.{greatest_counter}
use Rattle.op_model.specs.Records.{stream_length, record_length}
use Rattle.op_ids.specs.Clock.{advanced}
use Rattle.std.proofs.lemmas.List.{drop_more, take_more, take-append-drop}
use Rattle.model_laws.proofs.Growth.{closed_push, closed_front, closed_rest}
use Rattle.model_laws.proofs.Ready.{clock-push}
use Rattle.model_laws.proofs.Limits.{stream_length-append}
use Rattle.replica_core.specs.declared.index.Index.{Index}
use Rattle.replica_core.specs.Deciding.{AreCounted}
use Rattle.replica_core.specs.Indexes.{IsIndexOf}
use Rattle.replica_core.proofs.LimitLemmas.{closed_within}

-- what is counted of a list with an operation that may follow
pub AreCounted-push : (ops : List Op) (counts : List (ℕ × ℕ)) (before after : Index) (op : Op)
    → AreCounted ops counts before → MayFollow ops op → (IsIndexOf before ops → IsIndexOf after (ops ++ op ∷ []))
    → AreCounted (ops ++ op ∷ []) (advanced counts op.id.replica) after
AreCounted-push ops counts before after op counted follows indexed = record {
  closed = closed_push ops op counted.closed follows;
  clock = ap (λ es. advanced es op.id.replica) counted.clock ∙ sym (clock-push ops op);
  index = indexed counted.index;
}

-- an operation of a closed list may follow those before it
pub follows_front : (ops : List Op) (i : ℕ) (op : Op) → IsCausallyClosed ops → i < length ops → op ≡ get_or ops i op
    → IsCausallyClosed (take i ops) × MayFollow (take i ops) op
follows_front ops i op closed here is_it =
    let whole : take i ops ++ drop i ops ≡ ops = take-append-drop i ops in
    let cut = rw (← whole) at closed in
    let rest : FollowInTurn (take i ops) (drop i ops) = closed_rest (take i ops) (drop i ops) cut in
    (closed_front (take i ops) (drop i ops) cut, (rw (drop_more ops i op here, ← is_it) at rest).0)

two_last : (a b c d e : Bool) → (a && (b && c && d && e)) ≡ true → e ≡ true
two_last a b c d e all = grind (arith, nat_tests)

-- a number that passes the test is at most the last one
pub at_most : (n last : ℕ) → nat_le n last ≡ true → n ≤ last
at_most n last small = grind (arith, nat_tests)

-- the stream of a list within the limits
pub stream_within : (ops : List Op) → is_within_limits ops ≡ true → stream_length ops ≤ 1073741824
stream_within ops limits =
    at_most (stream_length ops) 1073741824
    (two_last (list_all is_in_range ops) (nat_le (length (clock_of ops)) 16) (nat_le (length (documents ops)) 1024)
    (nat_le (length ops) 16777216) (nat_le (stream_length ops) 1073741824) limits)

below_last : (n last : ℕ) → n ≤ last → last ≡ 1073741824 → n < 2 ^ 32
below_last n last small is_it = omega arith

-- so a number of 32 bits counts it with what comes behind it
pub stream_fits : (ops more : List Op) → is_within_limits (ops ++ more) ≡ true → stream_length ops + stream_length more < 2 ^ 32
stream_fits ops more limits =
    let all = stream_within (ops ++ more) limits in
    let both = stream_length-append ops more in
    below_last (stream_length ops + stream_length more) 1073741824 (rw both at all) refl

-- the records of the first operations of a closed list take fewer bytes than that
pub front_fits : (ops : List Op) (n : ℕ) → IsCausallyClosed ops → stream_length (take n ops) < 2 ^ 32
front_fits ops n closed =
    let all = stream_within ops (closed_within ops closed) in
    let both = stream_length-append (take n ops) (drop n ops) in
    let whole = ap stream_length (take-append-drop n ops) in
    below_last (stream_length (take n ops)) 1073741824 (omega arith) refl

-- and so do those of the others
pub rest_fits : (ops : List Op) (n : ℕ) → IsCausallyClosed ops → stream_length (drop n ops) < 2 ^ 32
rest_fits ops n closed =
    let all = stream_within ops (closed_within ops closed) in
    let both = stream_length-append (take n ops) (drop n ops) in
    let whole = ap stream_length (take-append-drop n ops) in
    below_last (stream_length (drop n ops)) 1073741824 (omega arith) refl

below_64 : (n : ℕ) → n < 2 ^ 32 → n < 2 ^ 64
below_64 n small = omega arith

-- the same for one operation
pub record_fits : (ops : List Op) (op : Op) (stream : ℕ) → MayFollow ops op → stream ≡ stream_length ops
    → stream + record_length op < 2 ^ 64
record_fits ops op stream follows is_it =
    let all = stream_fits ops (op ∷ []) follows.limits in
    let one : stream_length (op ∷ []) ≡ record_length op = omega arith in
    rw is_it (below_64 (stream_length ops + record_length op) (rw one at all))

-- one more operation is counted
pub count_more : (earlier ops : List Op) (i : ℕ) (op : Op) (before after : List (ℕ × ℕ)) → i < length ops → op ≡ get_or ops i op
    → before ≡ clock_of (earlier ++ take i ops) → after ≡ advanced before op.id.replica → after ≡ clock_of (earlier ++ take (i + 1) ops)
count_more earlier ops i op before after here is_it counted more =
    let grown : earlier ++ take (i + 1) ops ≡ (earlier ++ take i ops) ++ op ∷ [] =
    rw (take_more ops i op here, ← is_it) (sym (append_assoc earlier (take i ops) (op ∷ []))) in
    more ∙ (ap (λ es. advanced es op.id.replica) counted ∙ (sym (clock-push (earlier ++ take i ops) op) ∙ ap clock_of (sym grown)))

both_first : (a b : Bool) → (a && b) ≡ true → a ≡ true
both_first a b both = grind (arith, nat_tests)

in_range_counter : (a b c d : Bool) → (a && b && c && d) ≡ true → b ≡ true
in_range_counter a b c d all = grind (arith, nat_tests)

below : (n last : ℕ) → nat_lt n last ≡ true → n < last
below n last small = grind (arith, nat_tests)

-- counters in range are below the last one
pub greatest_within : (ops : List Op) (last : ℕ) → last ≡ 281474976710656 → 0 < last → list_all is_in_range ops ≡ true → greatest_counter ops < last
greatest_within [] last is_last some all = some
greatest_within (op ∷ ops) last is_last some all =
    let both = and_parts (is_in_range op) (list_all is_in_range ops) all in
    let first : op.id.counter < last = below op.id.counter last
    (rw is_last (in_range_counter (nat_lt 0 op.id.counter) (nat_lt op.id.counter 281474976710656) (nat_lt 0 op.doc) (nat_lt op.doc 4294967296) both.0)) in
    let rest = greatest_within ops last is_last some both.1 in
    omega arith

small_last : (n last : ℕ) → n < last → last ≡ 281474976710656 → n + 1 < 2 ^ 64
small_last n last less is_last = omega arith

-- there is a number behind the greatest counter
pub next_fits : (ops : List Op) (greatest : ℕ) → IsCausallyClosed ops → greatest ≡ greatest_counter ops → greatest + 1 < 2 ^ 64
next_fits ops greatest closed is_it =
    let all = both_first (list_all is_in_range ops) (has_room ops) (closed_within ops closed) in
    rw is_it (small_last (greatest_counter ops) 281474976710656 (greatest_within ops 281474976710656 refl (omega arith) all) refl)
