-- Used by private functions and proofs alone.
--
-- How what was heard is held.
use Rattle.std.specs.Prelude.{◌≡◌, ℕ, Bool, true, false, List, [], ◌++◌, Option, Some, None}
use Rattle.causal_sync.specs.declared.heard.Heard.{Heard}
use Rattle.causal_sync.specs.declared.heard.Heard.TheVariants.{Hello, Have, Ops, Bye}
use Rattle.causal_sync.specs.Hearing.{HearsFrom, is_none}
use Rattle.causal_sync.specs.State.{Incoming, has_ended}

-- The frames are those that are heard of the stream; the buffer has what is behind them, and nothing once the stream has
-- ended; whether none was heard so far, and whether it has ended.
pub record IsHeard (s : Incoming) (rest buffer : List ℕ) (first ended : Bool) : Type 0 where
  pub hears : HearsFrom s.own true s.stream (s.given ++ s.waiting) rest s.fault
  pub going : ended ≡ false → buffer ≡ rest
  pub closed : ended ≡ true → buffer ≡ []
  pub none : first ≡ is_none (s.given ++ s.waiting)
  pub over : ended ≡ has_ended s

-- the clock of a frame, if it has one
abbrev pub clock_in : Heard → Option (List (ℕ × ℕ))
clock_in (Hello replica) = None
clock_in (Have clock) = Some clock
clock_in (Ops pieces) = None
clock_in Bye = None
