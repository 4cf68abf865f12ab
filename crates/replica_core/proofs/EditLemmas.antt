-- An edit that nothing refuses doesn't make too many operations.
use Rattle.std.proofs.Common.{◌≡◌, Bool, ℕ, ◌+◌, ◌≤◌, ◌<◌, true, List, length, refl, sym, ◌∙◌, inl, inr, None, arith}
use Rattle.std.specs.Prelude.{◌&&◌, nat_le, nat_lt}
use Rattle.std.proofs.lemmas.Bool.{false≢true, and_parts, cases_Bool, le-leb, lt-ltb}
use Rattle.std.proofs.lemmas.Bool.Decides.{nat_tests}
use Rattle.std.specs.List.{list_all}
use Rattle.op_ids.specs.Clock.{advanced_by, is_clock, IsOverfull}
use Rattle.op_model.specs.declared.author.Author.{Author}
use Rattle.op_model.specs.declared.op.Op.{Op}
use Rattle.op_model.specs.declared.edit.Edit.{Edit}
use Rattle.op_model.specs.declared.edit.Change.{Change}
use Rattle.op_model.specs.declared.edit.Change.TheVariants as change
use Rattle.op_model.specs.Causality.{clock_of, has_room, is_in_range, IsCausallyClosed}
use Rattle.op_model.specs.Made.{bodies_of, edit_refusal, greatest_counter, is_small, size_of}
use Rattle.op_ids.proofs.RoomLemmas.{overfull_from}
use Rattle.doc_core.specs.Limits.{keep_limits}
use Rattle.model_laws.proofs.EditLimits.{is_within_limits-over, is_within_limits-uncounted, length-bodies_of}
use Rattle.replica_core.proofs.FollowLemmas.{at_most, greatest_within}
use Rattle.replica_core.proofs.LimitLemmas.{closed_within}
use Rattle.replica_core.proofs.SoundLemmas.{due_asks_right, due_within}

-- a small change makes at most 256 operations
small_size : (it : Change) → is_small it ≡ true → size_of it ≤ 256
small_size (change.Insert at text) small = at_most (length text) 256 small
small_size (change.Delete at count) small = at_most count.value 256 small
small_size (change.Mark from to mark) small = omega arith
small_size (change.Unmark from to key) small = omega arith

-- the next counter of a closed list is at most the last one and one
next_counter : (ops : List Op) → IsCausallyClosed ops → greatest_counter ops + 1 ≤ 281474976710656
next_counter ops closed =
    let all = and_parts (list_all is_in_range ops) (has_room ops) (closed_within ops closed) in
    let below = greatest_within ops 281474976710656 refl (omega arith) all.0 in
    omega arith

-- counters that pass the last one belong to some operation
some_of : (next n last : ℕ) → next ≤ last → last < next + n → 0 < n
some_of next n last within over = omega arith

-- no counter passes the last one
never_over : (ops : List Op) (replica : ℕ) (e : Edit) → IsCausallyClosed ops → edit_refusal ops replica e ≡ None
    → 281474976710656 < greatest_counter ops + 1 + size_of e.change → ⊥
never_over ops replica e closed due over =
    let some = some_of (greatest_counter ops + 1) (size_of e.change) 281474976710656 (next_counter ops closed) over in
    let beyond = is_within_limits-over ops replica e (due_asks_right ops replica e due) some over in
    false≢true (sym beyond ∙ due_within ops replica e due)

-- and the clock can count them
never_uncounted : (ops : List Op) (replica : ℕ) (e : Edit) → edit_refusal ops replica e ≡ None
    → IsOverfull (advanced_by (clock_of ops) replica (size_of e.change)) → ⊥
never_uncounted ops replica e due full =
    let bodies = bodies_of ops replica e.doc e.change in
    let right = due_asks_right ops replica e due in
    let many : length bodies ≡ size_of e.change = length-bodies_of ops replica e.doc e.change right.inside in
    false≢true (sym (is_within_limits-uncounted ops replica e (rw many full)) ∙ due_within ops replica e due)

all_four : (a b c d : Bool) → a ≡ true → b ≡ true → c ≡ true → d ≡ true → (a && b && c && d) ≡ true
all_four a b c d one two three four = rw (one, two, three, four) refl

-- so the next ones keep the limits, whoever makes them
pub keeps_all : (ops : List Op) (replica counter : ℕ) (clock : List (ℕ × ℕ)) (e : Edit) → IsCausallyClosed ops → edit_refusal ops replica e ≡ None
    → counter ≡ greatest_counter ops + 1 → clock ≡ clock_of ops → is_clock clock ≡ true → 0 < replica
    → (nat_le (size_of e.change) 256 && nat_lt 0 counter && nat_le (counter + size_of e.change) 281474976710656 && is_clock (advanced_by clock replica (size_of e.change))) ≡ true
keeps_all ops replica counter clock e closed due is_counter same valid positive =
    let right = due_asks_right ops replica e due in
    let n = size_of e.change in
    all_four (nat_le n 256) (nat_lt 0 counter) (nat_le (counter + n) 281474976710656) (is_clock (advanced_by clock replica n))
    (le-leb n 256 (small_size e.change right.small)) (lt-ltb 0 counter (omega arith)) in_range counted
  where
    in_range : nat_le (counter + size_of e.change) 281474976710656 ≡ true
    in_range = elim (cases_Bool (nat_le (counter + size_of e.change) 281474976710656)) [
      | inl few ↦ few
      | inr many ↦ let over : 281474976710656 < counter + size_of e.change = grind (arith, nat_tests) in
          absurd (never_over ops replica e closed due (rw is_counter at over))
    ]

    counted : is_clock (advanced_by clock replica (size_of e.change)) ≡ true
    counted = elim (cases_Bool (is_clock (advanced_by clock replica (size_of e.change)))) [
      | inl fits ↦ fits
      | inr full ↦ absurd (never_uncounted ops replica e due
          (rw same at (overfull_from clock replica (size_of e.change) valid positive full)))
    ]

-- an author's operations
pub keeps : (ops : List Op) (author : Author) (e : Edit) → IsCausallyClosed ops → edit_refusal ops author.replica e ≡ None
    → author.counter ≡ greatest_counter ops + 1 → author.clock.now ≡ clock_of ops → is_clock author.clock.now ≡ true → 0 < author.replica
    → keep_limits author (size_of e.change) ≡ true
keeps ops author e closed due is_counter same valid positive =
    keeps_all ops author.replica author.counter author.clock.now e closed due is_counter same valid positive
