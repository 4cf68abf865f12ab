-- Which refusal names which fault.
use Rattle.std.proofs.Common.{◌≡◌, ◌⊎◌, ℕ, refl, inl, inr, Result, Ok, Err, IsOk}
use Rattle.root_slots.specs.Faults.{NamesRootFault, failures_of}
use Rattle.root_slots.specs.declared.error.RootsError.{RootsError}
use Rattle.root_slots.specs.declared.error.RootsError.TheVariants.{Memory, NoRoot, BadRoot, ReadFailed}

-- what the search behind another one meets first
pub names_on : {A B : Type 0} (e : RootsError) (r : Result A ℕ) (s : Result B ℕ) → ((n : ℕ) → r ≡ Err n → s ≡ Err n) → NamesRootFault e r → NamesRootFault e s
names_on Memory r s on named = tt
names_on NoRoot r s on named = on 42 named
names_on BadRoot r s on named = on 43 named
names_on ReadFailed r s on named = tt

-- what names a fault of a slot hasn't met a failure of the device
pub quiet_slot : (e : RootsError) → (e ≡ Memory) ⊎ (e ≡ NoRoot) ⊎ (e ≡ BadRoot) → failures_of e ≡ 0
quiet_slot e (inl is) = rw is refl
quiet_slot e (inr (inl is)) = rw is refl
quiet_slot e (inr (inr is)) = rw is refl

-- a refusal of the slots alone isn't one of memory
pub not_memory : {P : Type 0} (e : RootsError) → (e ≡ NoRoot) ⊎ (e ≡ BadRoot) → e ≡ Memory → P
not_memory e (inl is) memory = absurd cc
not_memory e (inr is) memory = absurd cc

-- a value was found
pub found_ok : {T E : Type 0} (r : Result T E) (x : T) → r ≡ Ok x → IsOk r
found_ok r x is = rw is refl
