-- Which slot is live in a file, and in the file that a torn write makes of it.
use Rattle.std.proofs.Common.{◌≡◌, ℕ, zero, suc, ◌+◌, ◌-◌, ◌*◌, ◌<◌, ◌≤◌, Bool, true, false, nat_lt}
use Rattle.std.proofs.Common.{List, [], ◌∷◌, length, refl, sym, ap, ◌∙◌, inl, inr, arith, Result}
use Rattle.std.proofs.Common.{Ok, Err, if◌then◌else◌}
use Rattle.std.proofs.lemmas.Bool.Decides.{nat_tests}
use Rattle.std.proofs.lemmas.Bool.{le-ltb, cases_eq}
use Rattle.disk_trait.specs.Calls.{Tears}
use Rattle.disk_trait.specs.File.{Torn, overwritten}
use Rattle.disk_trait.specs.declared.facts.DiskFacts.{Ghosts}
use Rattle.page_file.proofs.Parts.{part_written}
use Rattle.root_slots.specs.Root.{version_of}
use Rattle.root_slots.specs.Slots.{gate, body, picked}
use Rattle.root_slots.specs.Survivors.{EachSurvivorIs, IsNewer, Lives, LivesOverOpen, LivesAlone, LivesBeforeNewer, LivesOrOther}
use Rattle.root_slots.proofs.SlotReads.{live_below}
use Rattle.root_slots.proofs.SlotWrites.{slot_beside, body_behind_gate, gate_before_body, gate_written}

-- the slots of which one is live: that one is open, and the other one closed or of a smaller version
pub record Stand (slot : ℕ) (file : List ℕ) : Type 0 where
  pub below : slot < 2
  pub whole : 8192 ≤ length file
  pub is_open : gate slot file ≡ 1
  pub older : gate (1 - slot) file ≡ 1 → version_of (body (1 - slot) file) < version_of (body slot file)

picked_0 : (g0 g1 v0 v1 : ℕ) → g0 ≡ 1 → (g1 ≡ 1 → v1 < v0) → picked g0 g1 v0 v1 ≡ Ok 0
picked_0 g0 g1 v0 v1 is older = grind (arith, nat_tests)

picked_1 : (g0 g1 v0 v1 : ℕ) → g1 ≡ 1 → (g0 ≡ 1 → v0 < v1) → picked g0 g1 v0 v1 ≡ Ok 1
picked_1 g0 g1 v0 v1 is older = grind (arith, nat_tests)

open_0 : (g0 g1 v0 v1 : ℕ) → picked g0 g1 v0 v1 ≡ Ok 0 → g0 ≡ 1
open_0 g0 g1 v0 v1 is = grind (arith, nat_tests)

open_1 : (g0 g1 v0 v1 : ℕ) → picked g0 g1 v0 v1 ≡ Ok 1 → g1 ≡ 1
open_1 g0 g1 v0 v1 is = grind (arith, nat_tests)

older_0 : (g0 g1 v0 v1 : ℕ) → picked g0 g1 v0 v1 ≡ Ok 0 → g1 ≡ 1 → v1 < v0
older_0 g0 g1 v0 v1 is too = grind (arith, nat_tests)

older_1 : (g0 g1 v0 v1 : ℕ) → picked g0 g1 v0 v1 ≡ Ok 1 → g0 ≡ 1 → v0 < v1
older_1 g0 g1 v0 v1 is too = grind (arith, nat_tests)

in_size : (n : ℕ) (r : Result ℕ ℕ) → 8192 ≤ n → (if nat_lt n 8192 then Err 42 else r) ≡ r
in_size n r whole = by_test (nat_lt n 8192) r (le-ltb n 8192 whole)
  where
    by_test : (t : Bool) (r : Result ℕ ℕ) → t ≡ false → (if t then Err 42 else r) ≡ r
    by_test false r is = refl
    by_test true r is = absurd cc

size_of : (n slot : ℕ) (r : Result ℕ ℕ) → (if nat_lt n 8192 then Err 42 else r) ≡ Ok slot → 8192 ≤ n
size_of n slot r is = grind (arith, nat_tests)

-- a slot is live: then they stand so
stand : (file : List ℕ) (slot : ℕ) → Lives slot file → Stand slot file
stand file slot lives = by_slot slot (live_below file slot lives) lives
  where
    g0 : ℕ
    g0 = gate 0 file

    g1 : ℕ
    g1 = gate 1 file

    v0 : ℕ
    v0 = version_of (body 0 file)

    v1 : ℕ
    v1 = version_of (body 1 file)

    by_slot : (slot : ℕ) → slot < 2 → Lives slot file → Stand slot file
    by_slot zero below lives =
        let whole = size_of (length file) 0 (picked g0 g1 v0 v1) lives in
        let is = sym (in_size (length file) (picked g0 g1 v0 v1) whole) ∙ lives in
        record { below = below; whole = whole; is_open = open_0 g0 g1 v0 v1 is; older = older_0 g0 g1 v0 v1 is }
    by_slot (suc zero) below lives =
        let whole = size_of (length file) 1 (picked g0 g1 v0 v1) lives in
        let is = sym (in_size (length file) (picked g0 g1 v0 v1) whole) ∙ lives in
        record { below = below; whole = whole; is_open = open_1 g0 g1 v0 v1 is; older = older_1 g0 g1 v0 v1 is }
    by_slot (suc (suc n)) below lives = absurd (omega (arith, below))

-- and back
pub lives_by : (file : List ℕ) (slot : ℕ) → Stand slot file → Lives slot file
lives_by file zero s =
    in_size (length file) _ s.whole
    ∙ picked_0 (gate 0 file) (gate 1 file) (version_of (body 0 file)) (version_of (body 1 file)) s.is_open s.older
lives_by file (suc zero) s =
    in_size (length file) _ s.whole
    ∙ picked_1 (gate 0 file) (gate 1 file) (version_of (body 0 file)) (version_of (body 1 file)) s.is_open s.older
lives_by file (suc (suc n)) s = absurd (omega (arith, s.below))

-- the other one's gate is torn or closed
pub closed_lives : (slot : ℕ) (d c : List ℕ) → Torn (4096 * (1 - slot)) 1 d c → LivesOverOpen slot d → Lives slot c
closed_lives slot d c torn it =
    let s = stand d slot it.lives in
    let here = slot_beside d c (4096 * (1 - slot)) 1 slot torn s.below (omega arith) (omega arith) in
    lives_by c slot (record {
      below = s.below;
      whole = omega (arith, torn.no_shorter, s.whole);
      is_open = here.gates ∙ s.is_open;
      older = λ too. rw (here.bodies, body_behind_gate d c (1 - slot) torn) (s.older it.other);
    })

-- the body behind the other one's closed gate is torn or written
pub put_lives : (slot : ℕ) (d c : List ℕ) → Torn (4096 * (1 - slot) + 8) 4088 d c → LivesAlone slot d → LivesAlone slot c
put_lives slot d c torn it =
    let s = stand d slot it.lives in
    let here = slot_beside d c (4096 * (1 - slot) + 8) 4088 slot torn s.below (omega arith) (omega arith) in
    let there = gate_before_body d c (1 - slot) torn in
    record {
      lives = lives_by c slot (record {
        below = s.below;
        whole = omega (arith, torn.no_shorter, s.whole);
        is_open = here.gates ∙ s.is_open;
        older = λ too. absurd (it.other (sym there ∙ too));
      });
      other = λ too. it.other (sym there ∙ too);
    }

-- the other one's gate was closed before, and is open
newer_lives : (slot : ℕ) (d c : List ℕ) → Torn (4096 * (1 - slot)) 1 d c → LivesBeforeNewer slot d → gate (1 - slot) c ≡ 1
    → Lives (1 - slot) c
newer_lives slot d c torn it is =
    let s = stand d slot it.alone.lives in
    let here = slot_beside d c (4096 * (1 - slot)) 1 slot torn s.below (omega arith) (omega arith) in
    let back : 1 - (1 - slot) ≡ slot = omega (arith, s.below) in
    lives_by c (1 - slot) (record {
      below = omega arith;
      whole = omega (arith, torn.no_shorter, s.whole);
      is_open = is;
      older = λ too. rw (back, here.bodies, body_behind_gate d c (1 - slot) torn) it.newer;
    })

-- it was closed before, and is torn or opened
pub opened_lives : (slot : ℕ) (d c : List ℕ) → Torn (4096 * (1 - slot)) 1 d c → LivesBeforeNewer slot d → LivesOrOther slot c
opened_lives slot d c torn it =
    let s = stand d slot it.alone.lives in
    let here = slot_beside d c (4096 * (1 - slot)) 1 slot torn s.below (omega arith) (omega arith) in
    elim (cases_eq (gate (1 - slot) c) 1) [
      | inl is ↦ inr (newer_lives slot d c torn it is)
      | inr shut ↦ inl (lives_by c slot (record {
        below = s.below;
        whole = omega (arith, torn.no_shorter, s.whole);
        is_open = here.gates ∙ s.is_open;
        older = λ too. absurd (shut too);
      }))
    ]

-- the other one's gate is closed
pub closed_alone : (slot : ℕ) (d c : List ℕ) → Torn (4096 * (1 - slot)) 1 d c
    → c ≡ overwritten d (4096 * (1 - slot)) (0 ∷ []) → LivesOverOpen slot d
    → LivesAlone slot c
closed_alone slot d c torn is it =
    let s = stand d slot it.lives in
    let shut : gate (1 - slot) c ≡ 0 = ap (gate (1 - slot)) is ∙ gate_written d (1 - slot) 0 (omega (arith, s.whole)) in
    record {
      lives = closed_lives slot d c torn it;
      other = λ too. omega (arith, shut, too);
    }

-- a body of a greater version is put behind the other one's closed gate
pub put_newer : (slot : ℕ) (d c bytes : List ℕ) → Torn (4096 * (1 - slot) + 8) 4088 d c → c ≡ overwritten d (4096 * (1 - slot) + 8) bytes
    → length bytes ≡ 4088 → IsNewer slot d bytes → LivesAlone slot d → LivesBeforeNewer slot c
put_newer slot d c bytes torn is long newer it =
    let s = stand d slot it.lives in
    let here = slot_beside d c (4096 * (1 - slot) + 8) 4088 slot torn s.below (omega arith) (omega arith) in
    let put : body (1 - slot) c ≡ bytes =
    ap (body (1 - slot)) is ∙ part_written d (4096 * (1 - slot) + 8) 4088 bytes (omega (arith, s.whole)) long in
    record {
      alone = put_lives slot d c torn it;
      newer = rw (here.bodies, put) newer;
    }

-- the other one's gate is opened
pub opened_other : (slot : ℕ) (d c : List ℕ) → Torn (4096 * (1 - slot)) 1 d c
    → c ≡ overwritten d (4096 * (1 - slot)) (1 ∷ []) → LivesBeforeNewer slot d
    → Lives (1 - slot) c
opened_other slot d c torn is it =
    let s = stand d slot it.alone.lives in
    newer_lives slot d c torn it (ap (gate (1 - slot)) is ∙ gate_written d (1 - slot) 1 (omega (arith, s.whole)))

-- what a torn write makes of each file that a crash could leave, a crash may leave behind it
pub leaves_torn : {D : Type 0} (facts : Ghosts D) (at n : ℕ) (old new : D) (Before Behind : List ℕ → Type 0) → Tears facts at n old new
    → ((d c : List ℕ) → Torn at n d c → Before d → Behind c) → EachSurvivorIs facts old Before → EachSurvivorIs facts new Behind
leaves_torn facts at n old new Before Behind tears step before = λ c left.
    let from = tears.no_more c left in
    step from.0 c from.2 (before from.0 from.1)
