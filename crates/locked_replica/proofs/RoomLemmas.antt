-- A causally closed list has room in a store, so that a commit is refused for want of a version alone.
use Rattle.std.proofs.Common.{◌≡◌, ℕ, suc, zero, ◌+◌, ◌≤◌, Bool, true, false, ◌&&◌, nat_lt, nat_le}
use Rattle.std.proofs.Common.{List, [], ◌∷◌, ◌++◌, length, take, drop, refl, sym, ap, ◌∙◌, arith}
use Rattle.std.proofs.Common.{append_assoc, length-append}
use Rattle.std.specs.List.{list_all}
use Rattle.std.proofs.lemmas.Bool.Decides.{nat_tests}
use Rattle.std.proofs.lemmas.Bool.{leb-true, le-leb}
use Rattle.std.proofs.lemmas.List.{take-append-drop, length-take-le, append-nil}
use Rattle.model_laws.proofs.Limits.{stream_length-append}
use Rattle.op_model.specs.declared.op.Op.{Op}
use Rattle.op_model.specs.Causality.{FollowInTurn, IsCausallyClosed, is_within_limits, is_in_range, clock_of, documents}
use Rattle.op_model.specs.Records.{stream_length}
use Rattle.piece_codec.proofs.StreamLaws.{no_longer}
use Rattle.root_slots.specs.Root.{format_of, version_of, count_of}
use Rattle.group_commit.specs.Begin.{is_none, has_room}
use Rattle.group_commit.specs.Saved.{Saved}
use Rattle.op_model.specs.Held.{ReplicaHeld}
use Rattle.locked_replica.proofs.Fits.{IsFront}

within_in_turn : (before ops : List Op) → is_within_limits before ≡ true → FollowInTurn before ops → is_within_limits (before ++ ops) ≡ true
within_in_turn before [] within follow = rw (append-nil before) within
within_in_turn before (op ∷ ops) within follow =
    rw append_assoc at (within_in_turn (before ++ op ∷ []) ops follow.0.limits follow.1)

-- a causally closed list keeps the limits of a store
pub closed_within : (ops : List Op) → IsCausallyClosed ops → is_within_limits ops ≡ true
closed_within ops closed = within_in_turn [] ops refl closed

and_last : (a b c d e : Bool) → (a && (b && c && d && e)) ≡ true → (d ≡ true) × (e ≡ true)
and_last a b c d e all = grind (arith, nat_tests)

-- at most 2^24 operations, and 2^30 bytes of records
pub few_of : (ops : List Op) → IsCausallyClosed ops → (length ops ≤ 16777216) × (stream_length ops ≤ 1073741824)
few_of ops closed =
    let both = and_last (list_all is_in_range ops) (nat_le (length (clock_of ops)) 16) (nat_le (length (documents ops)) 1024) (nat_le (length ops) 16777216) (nat_le (stream_length ops) 1073741824) (closed_within ops closed) in (
      leb-true (length ops) 16777216 both.0,
      leb-true (stream_length ops) 1073741824 both.1,
    )

-- the operations behind a front
pub behind_front : (n : ℕ) (ops : List Op) → n ≤ length ops → n + length (drop n ops) ≡ length ops
behind_front n ops within =
    let all = ap length (take-append-drop n ops) in
    omega (arith, all, length-append (take n ops) (drop n ops), length-take-le n ops within)

stream_behind : (n : ℕ) (ops : List Op) → stream_length (take n ops) + stream_length (drop n ops) ≡ stream_length ops
stream_behind n ops = sym (stream_length-append (take n ops) (drop n ops)) ∙ ap stream_length (take-append-drop n ops)

-- so there is room for all of them behind the live root, if there is a further version
pub room_is_version : (h : ReplicaHeld) (root : Saved) → IsCausallyClosed h.list → IsFront h root
    → has_room root (drop (count_of root.body) h.list) ≡ nat_lt (version_of root.body) 18446744073709551615
room_is_version h root closed front =
    let n = count_of root.body in
    let few = few_of h.list closed in
    let count = behind_front n h.list front.within in
    let bytes = stream_behind n h.list in
    let long = no_longer (format_of root.body) (take n h.list) root.stream front.stream in
    let counted : nat_le (n + length (drop n h.list)) 16777216 ≡ true = le-leb _ _ (omega (arith, count, few.0)) in
    let stored : nat_le (length root.stream + stream_length (drop n h.list)) 1073741824 ≡ true = le-leb _ _ (omega (arith, bytes, long, few.1)) in
    rw (counted, stored) (and_true (nat_lt (version_of root.body) 18446744073709551615))
  where
    and_true : (b : Bool) → (b && true && true) ≡ b
    and_true true = refl
    and_true false = refl

-- nothing lies behind a front that is all
pub none_behind : (n : ℕ) (ops : List Op) → nat_le (length ops) n ≡ is_none (drop n ops)
none_behind zero [] = refl
none_behind zero (op ∷ ops) = past (length ops)
  where
    past : (n : ℕ) → nat_le (suc n) 0 ≡ false
    past n = grind (arith, nat_tests)
none_behind (suc n) [] = nothing n
  where
    nothing : (n : ℕ) → nat_le 0 (suc n) ≡ true
    nothing n = grind (arith, nat_tests)
none_behind (suc n) (op ∷ ops) = one_less (length ops) n ∙ none_behind n ops
  where
    one_less : (a b : ℕ) → nat_le (suc a) (suc b) ≡ nat_le a b
    one_less a b = grind (arith, nat_tests)
