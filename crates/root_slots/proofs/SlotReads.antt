-- The two slots, read at once.
use Rattle.std.proofs.Common.{◌≡◌, ℕ, zero, suc, ◌+◌, ◌-◌, ◌*◌, ◌<◌, ◌≤◌, Bool, true, false, ◌==◌}
use Rattle.std.proofs.Common.{nat_lt, List, [], ◌∷◌, length, get_or, take, drop, refl, sym, ap, ◌∙◌}
use Rattle.std.proofs.Common.{arith, Result, Ok, Err, if◌then◌else◌}
use Rattle.std.proofs.lemmas.Bool.{le-ltb}
use Rattle.std.proofs.lemmas.List.{take-take, drop-take, get_or-drop, length-take-le}
use Rattle.disk_trait.specs.File.{part}
use Rattle.root_slots.specs.Root.{version_of}
use Rattle.root_slots.specs.Body.{Root}
use Rattle.root_slots.specs.Slots.{first_byte, gate, body, picked, live}
use Rattle.root_slots.specs.Live.{IsLive, rooted, root_at, live_root}

-- a part of the beginning of a file
part_first : (file : List ℕ) (at n more all : ℕ) → all ≡ at + more → n ≤ more → part (part file 0 all) at n ≡ part file at n
part_first file at n more all same fits =
    ap (λ k. take n (drop at (take k file))) same ∙ ap (take n) (drop-take at more file) ∙ take-take n more (drop at file) fits

pub gate_first : (file : List ℕ) (slot : ℕ) → slot < 2 → gate slot (part file 0 8192) ≡ gate slot file
gate_first file slot below = ap first_byte (part_first file (4096 * slot) 1 (8192 - 4096 * slot) 8192 (omega (arith, below)) (omega (arith, below)))

pub body_first : (file : List ℕ) (slot : ℕ) → slot < 2 → body slot (part file 0 8192) ≡ body slot file
body_first file slot below = part_first file (4096 * slot + 8) 4088 (8192 - (4096 * slot + 8)) 8192 (omega (arith, below)) (omega (arith, below))

-- with both slots there, which one is live depends on them alone
live_is : (file : List ℕ) → 8192 ≤ length file → live file ≡ picked (gate 0 file) (gate 1 file) (version_of (body 0 file)) (version_of (body 1 file))
live_is file whole = rw (le-ltb _ _ whole) refl

-- of their gates and of the versions that their bodies say
pub live_of : (file b0 b1 : List ℕ) (g0 g1 v0 v1 : ℕ) → 8192 ≤ length file → g0 ≡ gate 0 file → g1 ≡ gate 1 file → b0 ≡ body 0 file → b1 ≡ body 1 file
    → v0 ≡ version_of b0 → v1 ≡ version_of b1 → live file ≡ picked g0 g1 v0 v1
live_of file b0 b1 g0 g1 v0 v1 whole gate0 gate1 body0 body1 version0 version1 =
    rw (live_is file whole, sym gate0, sym gate1, sym body0, sym body1, sym version0, sym version1) refl

size_first : (file : List ℕ) (n : ℕ) → n ≤ length file → length (part file 0 n) ≡ n
size_first file n whole = length-take-le n file whole

pub live_first : (file : List ℕ) → 8192 ≤ length file → live (part file 0 8192) ≡ live file
live_first file whole =
    live_is (part file 0 8192) (omega (arith, size_first file 8192 whole))
    ∙ ap (λ a. picked a (gate 1 (part file 0 8192)) (version_of (body 0 (part file 0 8192))) (version_of (body 1 (part file 0 8192)))) (gate_first file 0 (omega arith))
    ∙ ap (λ a. picked (gate 0 file) a (version_of (body 0 (part file 0 8192))) (version_of (body 1 (part file 0 8192)))) (gate_first file 1 (omega arith))
    ∙ ap (λ b. picked (gate 0 file) (gate 1 file) (version_of b) (version_of (body 1 (part file 0 8192)))) (body_first file 0 (omega arith))
    ∙ ap (λ b. picked (gate 0 file) (gate 1 file) (version_of (body 0 file)) (version_of b)) (body_first file 1 (omega arith))
    ∙ sym (live_is file whole)

-- so what is live in the slots is live in the file
pub live_on : (file : List ℕ) (slot : ℕ) (stale_open : Bool) (head : Root) → 8192 ≤ length file → IsLive (part file 0 8192) slot stale_open head → IsLive file slot stale_open head
live_on file slot stale_open head whole it =
    record {
      whole = whole;
      below = it.below;
      picked = sym (live_first file whole) ∙ it.picked;
      other = it.other ∙ ap (λ b. b == 1) (gate_first file (1 - slot) (omega arith));
      spells = rw (sym (body_first file slot it.below)) it.spells;
      written = rw (sym (body_first file slot it.below)) it.written;
    }

-- a slot is 0 or 1
pub live_below : (file : List ℕ) (slot : ℕ) → live file ≡ Ok slot → slot < 2
live_below file slot is =
    by_tests (nat_lt (length file) 8192) (gate 0 file == 1) (gate 1 file == 1)
    (nat_lt (version_of (body 1 file)) (version_of (body 0 file))) (nat_lt (version_of (body 0 file)) (version_of (body 1 file))) is
  where
    tested : Bool → Bool → Bool → Bool → Bool → Result ℕ ℕ
    tested s a b v w = if s then Err 42 else (if a then (if b then (if v then Ok 0 else if w then Ok 1 else Err 43) else Ok 0) else (if b then Ok 1 else Err 42))

    slot_in : Result ℕ ℕ → ℕ
    slot_in (Ok k) = k
    slot_in (Err k) = 0

    by_tests : (s a b v w : Bool) → tested s a b v w ≡ Ok slot → slot < 2
    by_tests true a b v w is = absurd cc
    by_tests false true true true w is = rw (sym (ap slot_in is)) (omega arith)
    by_tests false true true false true is = rw (sym (ap slot_in is)) (omega arith)
    by_tests false true true false false is = absurd cc
    by_tests false true false v w is = rw (sym (ap slot_in is)) (omega arith)
    by_tests false false true v w is = rw (sym (ap slot_in is)) (omega arith)
    by_tests false false false v w is = absurd cc

-- what the live slot says, in the slots and in the file
root_at_first : (file : List ℕ) (found : Result ℕ ℕ) → ((slot : ℕ) → found ≡ Ok slot → slot < 2) → root_at (part file 0 8192) found ≡ root_at file found
root_at_first file (Err n) below = refl
root_at_first file (Ok slot) below = ap rooted (body_first file slot (below slot refl))

pub live_root_first : (file : List ℕ) → 8192 ≤ length file → live_root (part file 0 8192) ≡ live_root file
live_root_first file whole =
    ap (root_at (part file 0 8192)) (live_first file whole) ∙ root_at_first file (live file) (live_below file)

-- bytes of bytes
pub small_take : (n : ℕ) (bytes : List ℕ) → ((i : ℕ) → get_or bytes i 0 < 256) → (i : ℕ) → get_or (take n bytes) i 0 < 256
small_take zero bytes small i = omega arith
small_take (suc n) [] small i = omega arith
small_take (suc n) (x ∷ bytes) small zero = small 0
small_take (suc n) (x ∷ bytes) small (suc i) = small_take n bytes (λ k. small (suc k)) i

pub small_part : (bytes : List ℕ) (at n : ℕ) → ((i : ℕ) → get_or bytes i 0 < 256) → (i : ℕ) → get_or (part bytes at n) i 0 < 256
small_part bytes at n small = small_take n (drop at bytes) (λ i. rw (get_or-drop at bytes i 0) (small (at + i)))
