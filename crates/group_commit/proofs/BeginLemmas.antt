-- A commit that is due to begin.
use Rattle.std.proofs.Common.{◌≡◌, ℕ, ◌+◌, ◌<◌, ◌≤◌, Bool, true, false, not, ◌&&◌, ◌==◌, nat_lt, nat_le}
use Rattle.std.proofs.Common.{List, length, refl, sym, ◌∙◌, inr, arith, Result, Ok}
use Rattle.std.proofs.Common.{Err, Some, None, if◌then◌else◌}
use Rattle.std.proofs.lemmas.Bool.{leb-true, ltb-true}
use Rattle.std.proofs.lemmas.Bool.Decides.{nat_tests}
use Rattle.op_model.specs.declared.op.Op.{Op}
use Rattle.page_file.specs.Pages.{is_zero}
use Rattle.root_slots.specs.Root.{version_of, count_of}
use Rattle.group_commit.specs.Held.{StoreHeld}
use Rattle.group_commit.specs.Begin.{is_idle, has_room_for, due_on, IsAnswer}
use Rattle.group_commit.specs.Plan.{newest}
use Rattle.group_commit.specs.Saved.{Saved, base_of}
use Rattle.piece_codec.specs.Stream.{SpellsList}
use Rattle.group_commit.proofs.RecordLemmas.{some_spelled}
use Rattle.std.specs.Prelude.{Option}
use Rattle.group_commit.specs.declared.error.StoreError.{StoreError}
use Rattle.group_commit.specs.declared.error.StoreError.TheVariants.{Memory, Limit, Busy, Failed}
use Rattle.group_commit.specs.declared.phase.Phase.{Phase}
use Rattle.group_commit.specs.declared.phase.Phase.TheVariants.{Idle, Pages, Close, Sync1, Body, Sync2, Gate, Sync3}

pub idle_is : (p : Phase) → is_idle p ≡ true → p ≡ Idle
idle_is Idle is = refl
idle_is (Pages k) is = absurd cc
idle_is Close is = absurd cc
idle_is Sync1 is = absurd cc
idle_is Body is = absurd cc
idle_is Sync2 is = absurd cc
idle_is Gate is = absurd cc
idle_is Sync3 is = absurd cc

-- what is known of a store where a commit over a base is due
pub record IsDue {D : Type 0} (base : Saved) (held : StoreHeld D) (count bytes : ℕ) : Type 0 where
  pub works : held.failed ≡ false
  pub idle : held.phase ≡ Idle
  pub some : 0 < count
  pub version : version_of base.body < 18446744073709551615
  pub room : count_of base.body + count ≤ 16777216
  pub stream : length base.stream + bytes ≤ 1073741824

-- what the test of room says
pub record HasRoom (base : Saved) (count bytes : ℕ) : Type 0 where
  pub version : version_of base.body < 18446744073709551615
  pub room : count_of base.body + count ≤ 16777216
  pub stream : length base.stream + bytes ≤ 1073741824

pub room_says : (base : Saved) (count bytes : ℕ) → has_room_for base count bytes ≡ true → HasRoom base count bytes
room_says base count bytes is =
    let both = and_parts _ (nat_le (length base.stream + bytes) 1073741824) is in
    let first = and_parts (nat_lt (version_of base.body) 18446744073709551615) (nat_le (count_of base.body + count) 16777216) both.0 in
    record { version = ltb-true _ _ first.0; room = leb-true _ _ first.1; stream = leb-true _ _ both.1 }
  where
    and_parts : (a b : Bool) → (a && b) ≡ true → (a ≡ true) × (b ≡ true)
    and_parts true true is = (refl, refl)
    and_parts true false is = absurd cc
    and_parts false b is = absurd cc

pub due_says : {D : Type 0} (base : Saved) (held : StoreHeld D) (count bytes n : ℕ) → due_on base held count bytes ≡ Ok (Some n) → IsDue base held count bytes
due_says base held count bytes n due =
    let tests = tested held.failed (is_idle held.phase) (count == 0) (has_room_for base count bytes) _ n due in
    let roomy = room_says base count bytes tests.3 in
    record {
      works = tests.0;
      idle = idle_is held.phase tests.1;
      some = some_of count tests.2;
      version = roomy.version;
      room = roomy.room;
      stream = roomy.stream;
    }
  where
    by_tests : Bool → Bool → Bool → Bool → ℕ → Result (Option ℕ) StoreError
    by_tests a b c d r = if a then Err Failed else if not b then Err Busy else if c then Ok None else if not d then Err Limit else Ok (Some r)

    tested : (a b c d : Bool) (r n : ℕ) → by_tests a b c d r ≡ Ok (Some n) → (a ≡ false) × (b ≡ true) × (c ≡ false) × (d ≡ true)
    tested true b c d r n is = absurd cc
    tested false false c d r n is = absurd cc
    tested false true true d r n is = absurd cc
    tested false true false false r n is = absurd cc
    tested false true false true r n is = (refl, refl, refl, refl)

    some_of : (count : ℕ) → (count == 0) ≡ false → 0 < count
    some_of count some = grind (arith, nat_tests)

-- a base has the live root's body
pub base_body : (whole : Bool) (root : Saved) → (base_of whole root).body ≡ root.body
base_body true root = refl
base_body false root = refl

-- a commit is due
pub is_due : {D : Type 0} (base : Saved) (held : StoreHeld D) (count bytes : ℕ) (answer : Result (Option ℕ) StoreError) (n : ℕ)
    → answer ≡ due_on base held count bytes → answer ≡ Ok (Some n) → IsDue base held count bytes
is_due base held count bytes answer n due is = due_says base held count bytes n (sym due ∙ is)

-- memory is wanting where a commit is due
pub is_wanting : (due answer wanting : Result (Option ℕ) StoreError) (n : ℕ) → answer ≡ due → answer ≡ Ok (Some n) → wanting ≡ Err Memory → IsAnswer due wanting
is_wanting due answer wanting n is_due is memory = rw (sym is_due ∙ is) (inr (memory, tt))

-- records of some operations aren't all zero
pub some_written : (ops : List Op) (count : ℕ) (records : List ℕ) → SpellsList newest ops records → count ≤ length ops → 0 < count → is_zero records ≡ false
some_written ops count records spells enough some = some_spelled newest ops records spells (omega (arith, enough, some))
