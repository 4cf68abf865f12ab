-- What a file stands for, from what was read of it.
use Rattle.std.proofs.Common.{◌≡◌, ◌≢◌, ℕ, zero, suc, ◌-◌, ◌<◌, Bool, true, false, not, ◌&&◌, ◌==◌}
use Rattle.std.proofs.Common.{nat_lt, List, [], ◌++◌, length, take, drop, refl, sym, ap, ◌∙◌, arith, subst, inl, inr}
use Rattle.std.proofs.Common.{Result, Ok, Err, if◌then◌else◌}
use Rattle.std.proofs.lemmas.Bool.Decides.{nat_tests}
use Rattle.std.proofs.lemmas.List.{drop_at}
use Rattle.page_file.specs.Pages.{pages, are_whole, is_zero, joined}
use Rattle.root_slots.specs.Root.{is_root, tables_of, stream_length_of, data_count, version_of}
use Rattle.root_slots.specs.Body.{Root, Spells}
use Rattle.root_slots.specs.Slots.{gate, body, live}
use Rattle.root_slots.specs.Live.{IsLive}
use Rattle.group_commit.specs.Saved.{Saved}
use Rattle.group_commit.specs.Image.{data_pages_in, are_tables, tables_in, stream, pages_reached, Stores, in_slot, root_and_stream, stored}
use Rattle.group_commit.specs.Standing.{Stands}
use Rattle.group_commit.specs.declared.phase.Phase.TheVariants.{Idle}
use Rattle.group_commit.specs.Loading.{reached_in, stream_of, stream_behind, reached_of, stream_at, IsReadFault, IsStreamFault}
use Rattle.group_commit.specs.Parts.{NamesReadFault}
use Rattle.group_commit.specs.declared.open_fault.OpenError.{OpenError}
use Rattle.group_commit.proofs.Faults.{names_on, fault_of_ops}

-- the stream of a root body, step by step
stream_steps : (file root : List ℕ) → is_root root ≡ true
    → stream file root ≡ stream_behind (length (tables_of root)) (stream_length_of root) file (reached_in (tables_of root) (data_count root) file)
stream_steps file root is =
    by_tests (is_root root) (are_whole ts) (are_tables root ts) is
    (ap (λ ns. stream_of (stream_length_of root) (pages ns file)) (drop_at (tables_of root) (data_pages_in root ts) (length (tables_of root)) refl))
  where
    ts : List (List ℕ)
    ts = tables_in file root

    ds : List (List ℕ)
    ds = pages (data_pages_in root ts) file

    zeros : Bool
    zeros = is_zero (drop (stream_length_of root) (joined ds))

    bytes : List ℕ
    bytes = take (stream_length_of root) (joined ds)

    by_tests : (r w t : Bool) → r ≡ true
        → stream_of (stream_length_of root) (pages (drop (length (tables_of root)) (tables_of root ++ data_pages_in root ts)) file) ≡ stream_of (stream_length_of root) ds
        → (if not (r && w) then Err 43 else if not (t && are_whole ds) then Err 45 else if not zeros then Err 46 else Ok bytes)
        ≡ stream_behind (length (tables_of root)) (stream_length_of root) file (if not w then Err 43 else if not t then Err 45 else Ok (tables_of root ++ data_pages_in root ts))
    by_tests false w t sure same = absurd cc
    by_tests true false t sure same = refl
    by_tests true true false sure same = refl
    by_tests true true true sure same = sym same

stream_is : (file root : List ℕ) (head : Root) → Spells root head → stream file root ≡ stream_at head file
stream_is file root head spells = rw (sym spells.says) (stream_steps file root spells.valid)

-- the pages that were reached
reached_is : (file root ns : List ℕ) (head : Root) → Spells root head → reached_of head file ≡ Ok ns → pages_reached file root ≡ ns
reached_is file root ns head spells found =
    by_tests (are_whole (tables_in file root)) (are_tables root (tables_in file root)) (pages_reached file root) (rw (sym spells.says) at found)
  where
    tested : Bool → Bool → List ℕ → Result (List ℕ) ℕ
    tested w t all = if not w then Err 43 else if not t then Err 45 else Ok all

    or_none : Result (List ℕ) ℕ → List ℕ
    or_none (Ok x) = x
    or_none (Err n) = []

    by_tests : (w t : Bool) (all : List ℕ) → tested w t all ≡ Ok ns → all ≡ ns
    by_tests true true all is = ap or_none is
    by_tests true false all is = absurd cc
    by_tests false t all is = absurd cc

pub stores_of : (file root bytes ns : List ℕ) (head : Root) → Spells root head → stream_at head file ≡ Ok bytes → reached_of head file ≡ Ok ns → Stores root bytes ns file
stores_of file root bytes ns head spells read found = record {
  spells = stream_is file root head spells ∙ read;
  reaches = reached_is file root ns head spells found;
}

-- a fault of the stream is the file's
stream_fault : (file : List ℕ) (slot : ℕ) (stale_open : Bool) (head : Root) (n : ℕ) → IsLive file slot stale_open head → stream_at head file ≡ Err n → stored file ≡ Err n
stream_fault file slot stale_open head n it is =
    ap (in_slot file) it.picked ∙ ap (root_and_stream (body slot file)) (stream_is file (body slot file) head it.spells ∙ is)

stored_stream : (file : List ℕ) (slot : ℕ) (stale_open : Bool) (head : Root) (bytes : List ℕ) → IsLive file slot stale_open head → stream_at head file ≡ Ok bytes
    → stored file ≡ Ok (body slot file, bytes)
stored_stream file slot stale_open head bytes it is =
    ap (in_slot file) it.picked ∙ ap (root_and_stream (body slot file)) (stream_is file (body slot file) head it.spells ∙ is)

-- so is what names why it isn't read as so many operations
pub root_fault : (file : List ℕ) (slot : ℕ) (stale_open : Bool) (head : Root) (e : OpenError) → IsLive file slot stale_open head
    → NamesReadFault e head.format head.operations (stream_at head file) → IsReadFault e file
root_fault file slot stale_open head e it (inl named) =
    inl (names_on e (stream_at head file) (stored file) (λ n is. stream_fault file slot stale_open head n it is) named)
root_fault file slot stale_open head e it (inr found) =
    fault_of_ops file (body slot file) found.0 e (stored_stream file slot stale_open head found.0 it found.1)
    (subst (λ (r : Root). IsStreamFault e r.format found.0 r.operations) (sym it.spells.says) found.2)

-- the live slot is open, and the other one closed or older
record Opened (file : List ℕ) (slot : ℕ) : Type 0 where
  pub is_open : gate slot file ≡ 1
  pub older : gate (1 - slot) file ≡ 1 → version_of (body (1 - slot) file) < version_of (body slot file)

tested : Bool → Bool → Bool → Bool → Bool → Result ℕ ℕ
tested s a b v w = if s then Err 42 else (if a then (if b then (if v then Ok 0 else if w then Ok 1 else Err 43) else Ok 0) else (if b then Ok 1 else Err 42))

slot_in : Result ℕ ℕ → ℕ
slot_in (Ok k) = k
slot_in (Err k) = 7

first_live : (s a b v w : Bool) → tested s a b v w ≡ Ok 0 → (a ≡ true) × (b ≡ true → v ≡ true)
unfolding tested
first_live false true true true w is = (refl, λ y. refl)
first_live false true false v w is = (refl, λ y. absurd cc)
first_live true a b v w is = absurd cc
first_live false true true false true is = absurd cc
first_live false true true false false is = absurd cc
first_live false false true v w is = absurd cc
first_live false false false v w is = absurd cc

second_live : (s a b v w : Bool) → tested s a b v w ≡ Ok 1 → (b ≡ true) × (a ≡ true → w ≡ true)
unfolding tested
second_live false true true false true is = (refl, λ y. refl)
second_live false false true v w is = (refl, λ y. absurd cc)
second_live true a b v w is = absurd cc
second_live false true true true w is = absurd cc
second_live false true true false false is = absurd cc
second_live false true false v w is = absurd cc
second_live false false false v w is = absurd cc

-- what the tests of a gate and of two versions say
same : (k : ℕ) → (k == 1) ≡ true → k ≡ 1
same k is = grind (arith, nat_tests)

sure : (k : ℕ) → k ≡ 1 → (k == 1) ≡ true
sure k is = grind (arith, nat_tests)

less : (k m : ℕ) → nat_lt k m ≡ true → k < m
less k m is = grind (arith, nat_tests)

opened : (file : List ℕ) (slot : ℕ) → slot < 2 → live file ≡ Ok slot → Opened file slot
unfolding tested
opened file zero below is =
    let it = first_live (nat_lt (length file) 8192) (gate 0 file == 1) (gate 1 file == 1)
    (nat_lt (version_of (body 1 file)) (version_of (body 0 file))) (nat_lt (version_of (body 0 file)) (version_of (body 1 file))) is in
    record { is_open = same (gate 0 file) it.0; older = λ one. less _ _ (it.1 (sure (gate 1 file) one)) }
opened file (suc zero) below is =
    let it = second_live (nat_lt (length file) 8192) (gate 0 file == 1) (gate 1 file == 1)
    (nat_lt (version_of (body 1 file)) (version_of (body 0 file))) (nat_lt (version_of (body 0 file)) (version_of (body 1 file))) is in
    record { is_open = same (gate 1 file) it.0; older = λ one. less _ _ (it.1 (sure (gate 0 file) one)) }
opened file (suc (suc k)) below is = absurd (omega (arith, below))

as_before : (g : ℕ) (stale_open : Bool) → stale_open ≡ (g == 1) → (stale_open ≡ true → g ≡ 1) × (stale_open ≡ false → g ≢ 1)
as_before g stale_open is = (λ sure. grind (arith, nat_tests), λ no one. grind (arith, nat_tests))

-- a file of which the live root was read stands so
pub stands_read : (file : List ℕ) (slot : ℕ) (stale_open : Bool) (head : Root) (current next : Saved) → IsLive file slot stale_open head
    → current.body ≡ body slot file → stream_at head file ≡ Ok current.stream → reached_of head file ≡ Ok current.pages
    → Stands Idle slot stale_open current next file
stands_read file slot stale_open head current next it same read found =
    let o = opened file slot it.below it.picked in
    record {
      whole = it.whole;
      is_open = o.is_open;
      holds = sym same;
      keeps = rw same (stores_of file (body slot file) current.stream current.pages head it.spells read found);
      stale_slot = (
        λ one. rw same (o.older one),
        record {
          opened = (as_before (gate (1 - slot) file) stale_open it.other).0;
          closed = (as_before (gate (1 - slot) file) stale_open it.other).1;
        },
      );
    }
