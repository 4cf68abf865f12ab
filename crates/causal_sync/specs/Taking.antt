-- Used by private functions and proofs alone.
--
-- What is taken from bytes, compared with what is read and heard of them.
use Rattle.std.specs.Prelude.{◌≡◌, ◌⊎◌, ◌≤◌, ℕ, Bool, ◌&&◌, List, length, drop, Some, Result, Ok, Err}
use Rattle.causal_sync.specs.declared.link_error.LinkError.{LinkError}
use Rattle.causal_sync.specs.declared.link_error.LinkError.TheVariants.{Memory}
use Rattle.causal_sync.specs.declared.take_frame.Found.{Found}
use Rattle.causal_sync.specs.Frames.{is_over}
use Rattle.causal_sync.specs.Hearing.{HearsFrom, is_none}

-- what a function returned is what is read
abbrev pub Reads : {X Y : Type 0} → (X → Y) → Result X LinkError → Result Y LinkError → Type 0
Reads view (Ok x) read = read ≡ Ok (view x)
Reads view (Err e) read = read ≡ Err e

-- what a function returned is what is read; out of memory may stand in place of anything
abbrev pub Gives : {X Y : Type 0} → (X → Y) → Result X LinkError → Result Y LinkError → Type 0
Gives view (Ok x) read = read ≡ Ok (view x)
Gives view (Err e) read = (read ≡ Err e) ⊎ (e ≡ Memory)

-- what was found at the front of bytes is what is heard of them
pub record Ends (own : ℕ) (first : Bool) (bytes : List ℕ) (found : Found) : Type 0 where
  pub hears : HearsFrom own first bytes found.frames.items (drop found.used bytes) found.fault
  pub over : found.is_over ≡ is_over found.frames.items
  pub next : found.is_first ≡ (is_none found.frames.items && first)
  pub within : found.used ≤ length bytes
  pub clean : found.fault ≡ Some Memory → ⊥
