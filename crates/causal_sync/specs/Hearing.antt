-- What a link hears of a stream of bytes.
use Rattle.std.specs.Prelude.{◌≡◌, ℕ, Bool, true, false, ◌&&◌, List, [], ◌∷◌, ◌++◌, Option, Some, None, Result, Ok, Err}
use Rattle.causal_sync.specs.declared.heard.Heard.{Heard}
use Rattle.causal_sync.specs.declared.link_error.LinkError.{LinkError}
use Rattle.causal_sync.specs.Frames.{frames_bytes, is_over, AreFrames}
use Rattle.causal_sync.specs.Reading.{frame_at}

-- there are no frames
abbrev pub is_none : List Heard → Bool
is_none [] = true
is_none (frame ∷ frames) = false

-- no frame is read: for this fault, or as there is none yet
abbrev pub unread : Option LinkError → Result (Option (Heard × ℕ)) LinkError
unread None = Ok None
unread (Some fault) = Err fault

-- The frames at the front of a stream, one after another, and the bytes behind them, which begin with no whole frame or
-- with this fault. What is behind a BYE isn't read.
pub record HearsFrom (own : ℕ) (first : Bool) (stream : List ℕ) (frames : List Heard) (rest : List ℕ) (fault : Option LinkError) : Type 0 where
  pub spelled_so : frames_bytes frames ++ rest ≡ stream
  pub are : AreFrames own first frames
  pub unread : is_over frames ≡ false → frame_at own (is_none frames && first) rest ≡ unread fault
  pub over : is_over frames ≡ true → fault ≡ None

-- a replica hears these frames of the whole stream, up to a BYE, the first fault or what is no whole frame yet
abbrev pub Hears : ℕ → List ℕ → List Heard → Option LinkError → Type 0
Hears own stream frames fault = (rest : List ℕ) × HearsFrom own true stream frames rest fault
