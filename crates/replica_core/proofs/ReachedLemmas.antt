-- The lengths that a list had.
use Rattle.std.proofs.Common.{◌≡◌, ℕ, suc, ◌+◌, List, [], ◌∷◌, length, take, sym, ap, arith}
use Rattle.std.specs.Prelude.{Contains}
use Rattle.std.proofs.lemmas.List.{length-take-le}
use Rattle.op_model.specs.declared.op.Op.{Op}
use Rattle.op_model.specs.Replay.{Kept, edited, merged, settlement, reached, Replays}
use Rattle.op_model.specs.Held.{ReplicaHeld}
use Rattle.replica_core.specs.Held.{IsSound}

contains_head : (y x : ℕ) (xs : List ℕ) → y ≡ x → Contains (y ∷ xs) x
contains_head y x xs same = (0, omega arith, same)

-- what was reached before one length more still is
pub contains_tail : (y x : ℕ) (xs : List ℕ) → Contains xs x → Contains (y ∷ xs) x
contains_tail y x xs there = let k = there.0 in let within = there.1 in (suc k, omega arith, there.2)

reached_now : (replica : ℕ) (opened list : List Op) (steps : List Kept) → Replays replica opened steps list
    → Contains (reached (length opened) steps) (length list)
reached_now replica opened list [] fits = contains_head (length opened) (length list) [] (sym (ap length fits))
reached_now replica opened list (edited session e first count ∷ steps) fits =
    contains_head (first + count) (length list) (reached (length opened) steps) (sym fits.1)
reached_now replica opened list (merged peer index ∷ steps) fits =
    contains_head (index + 1) (length list) (reached (length opened) steps) (sym fits.2)
reached_now replica opened list (settlement n ∷ steps) fits = reached_now replica opened list steps fits.2

-- the length of the list now is one of them
pub length_is_reached : (h : ReplicaHeld) → IsSound h → Contains (reached h.opened h.steps) (length h.list)
length_is_reached h sound =
    let long : length (take h.opened h.list) ≡ h.opened = length-take-le h.opened h.list sound.opened in
    rw long at (reached_now h.replica (take h.opened h.list) h.list h.steps sound.replays)
