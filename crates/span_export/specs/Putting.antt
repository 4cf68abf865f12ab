-- Bytes that are put at the end of a buffer.
use Rattle.std.specs.Prelude.{◌≡◌, ℕ, List, [], ◌++◌, Bool, Result, OnOk, if◌then◌else◌}
use Rattle.std.specs.Global.{Vec}

-- these bytes are put after what was there, unless memory is refused
abbrev pub Puts : {T E : Type 0} → Result T E → Vec ℕ → Vec ℕ → List ℕ → Type 0
Puts r old new bytes = OnOk r (new.items ≡ old.items ++ bytes)

-- these bytes where they are wanted, and else none
abbrev pub if_wanted : Bool → List ℕ → List ℕ
if_wanted wanted bytes = if wanted then bytes else []
