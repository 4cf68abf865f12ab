-- A file without a live root has no stream either.
use Rattle.std.proofs.Common.{◌≡◌, ℕ, Bool, true, false, List, refl, sym, ap, Result, Ok, Err, if◌then◌else◌}
use Rattle.root_slots.specs.Root.{is_root}
use Rattle.root_slots.specs.Slots.{body, live}
use Rattle.root_slots.specs.Live.{root_at, live_root}
use Rattle.group_commit.specs.Image.{in_slot, stored}

-- the fault of a slot's body, or none
at_root : (file : List ℕ) (n : ℕ) (found : Result ℕ ℕ) → root_at file found ≡ Err n → in_slot file found ≡ Err n
at_root file n (Err m) is = ap (λ k. Err k) (ap number_in is)
  where
    number_in : Result (List ℕ) ℕ → ℕ
    number_in (Ok x) = 0
    number_in (Err k) = k
at_root file n (Ok slot) is = by_body (is_root (body slot file)) refl
  where
    number_in : Result (List ℕ) ℕ → ℕ
    number_in (Ok x) = 0
    number_in (Err k) = k

    fault : (b : Bool) → (if b then Ok (body slot file) else Err 43) ≡ Err n → (b ≡ false) × (43 ≡ n)
    fault true eq = absurd cc
    fault false eq = (refl, ap number_in eq)

    no : (true ≡ false) × (43 ≡ n) → ⊥
    no p = absurd cc

    by_body : (b : Bool) → is_root (body slot file) ≡ b → in_slot file (Ok slot) ≡ Err n
    by_body true eq = absurd (no (fault true (rw eq at is)))
    by_body false eq = rw (sym (fault false (rw eq at is)).1) (rw eq refl)

pub no_root_stored : (file : List ℕ) (n : ℕ) → live_root file ≡ Err n → stored file ≡ Err n
no_root_stored file n is = at_root file n (live file) is
