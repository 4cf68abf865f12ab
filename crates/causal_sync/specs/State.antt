-- A link, as contracts see it.
use Rattle.std.specs.Prelude.{◌≡◌, ℕ, Bool, true, false, ◌||◌, List, [], ◌∷◌, ◌++◌, Option, Some, None, Result, Ok, Err}
use Rattle.op_model.specs.declared.op.Op.{Op}
use Rattle.op_pieces.specs.Cutting.{cut}
use Rattle.causal_sync.specs.declared.heard.Heard.{Heard}
use Rattle.causal_sync.specs.declared.heard.Heard.TheVariants.{Hello, Have, Ops, Bye}
use Rattle.causal_sync.specs.declared.link_error.LinkError.{LinkError}
use Rattle.causal_sync.specs.Frames.{frame_bytes, is_bye, is_over}
use Rattle.causal_sync.specs.Sent.{sent}

-- What a link has heard: the whole stream that it was fed, the frames of it that were given and those that still wait,
-- and the fault that ended it, if there was one.
pub record Incoming : Type 0 where
  pub own : ℕ
  pub stream : List ℕ
  pub given : List Heard
  pub waiting : List Heard
  pub fault : Option LinkError

-- A link: what it has heard; the clock of the peer's last HAVE that was given, joined with what was sent since, and
-- whether there was a HAVE; the bytes that were said and not yet taken, and whether a BYE was said.
pub record LinkState : Type 0 where
  pub heard : Incoming
  pub base : List (ℕ × ℕ)
  pub has_heard_have : Bool
  pub out : List ℕ
  pub has_said_bye : Bool

-- there is a fault
abbrev pub is_fault : Option LinkError → Bool
is_fault None = false
is_fault (Some fault) = true

-- the stream has ended, by a fault or a BYE
abbrev pub has_ended : Incoming → Bool
has_ended s = is_fault s.fault || is_over (s.given ++ s.waiting)

-- nothing more may be said: there was a fault, or a BYE was said
abbrev pub is_silent : LinkState → Bool
is_silent s = is_fault s.heard.fault || s.has_said_bye

-- nothing was heard so far
pub record Starts (own : ℕ) (s : Incoming) : Type 0 where
  pub named : s.own ≡ own
  pub stream : s.stream ≡ []
  pub given : s.given ≡ []
  pub waiting : s.waiting ≡ []
  pub fault : s.fault ≡ None

-- the answer to bytes that were taken: the fault, if there is one
abbrev pub answer_of : Option LinkError → Result (Unit {0}) LinkError
answer_of None = Ok tt
answer_of (Some fault) = Err fault

-- this frame was the first that waited, and was given; nothing else has changed
pub record Gave (old new : Incoming) (frame : Heard) : Type 0 where
  pub own : new.own ≡ old.own
  pub stream : new.stream ≡ old.stream
  pub given : new.given ≡ old.given ++ frame ∷ []
  pub waiting : old.waiting ≡ frame ∷ new.waiting
  pub fault : new.fault ≡ old.fault

-- these bytes were taken: the stream has them at its end, further frames wait, and there may be a fault; nothing else
-- has changed
pub record TakesBytes (old new : Incoming) (bytes : List ℕ) : Type 0 where
  pub own : new.own ≡ old.own
  pub stream : new.stream ≡ old.stream ++ bytes
  pub given : new.given ≡ old.given
  pub waiting : (frames : List Heard) × (new.waiting ≡ old.waiting ++ frames)

-- the clock of the last HAVE, where this is one
abbrev pub base_after : List (ℕ × ℕ) → Heard → List (ℕ × ℕ)
base_after base (Hello replica) = base
base_after base (Have clock) = clock
base_after base (Ops pieces) = base
base_after base Bye = base

-- it is a HAVE
abbrev pub is_have : Heard → Bool
is_have (Hello replica) = false
is_have (Have clock) = true
is_have (Ops pieces) = false
is_have Bye = false

-- a link that has heard nothing, and said HELLO
pub record IsStart (own : ℕ) (s : LinkState) : Type 0 where
  pub heard : Starts own s.heard
  pub base : s.base ≡ []
  pub has_heard_have : s.has_heard_have ≡ false
  pub out : s.out ≡ frame_bytes (Hello own)
  pub has_said_bye : s.has_said_bye ≡ false

-- what was said stays, and so does the base
pub record Keeps (old new : LinkState) : Type 0 where
  pub base : new.base ≡ old.base
  pub has_heard_have : new.has_heard_have ≡ old.has_heard_have
  pub out : new.out ≡ old.out
  pub has_said_bye : new.has_said_bye ≡ old.has_said_bye

-- the first frame that waited was given, and is the base if it is a HAVE
pub record Gives (old new : LinkState) (frame : Heard) : Type 0 where
  pub gave : Gave old.heard new.heard frame
  pub base : new.base ≡ base_after old.base frame
  pub has_heard_have : new.has_heard_have ≡ (old.has_heard_have || is_have frame)
  pub out : new.out ≡ old.out
  pub has_said_bye : new.has_said_bye ≡ old.has_said_bye

-- the link behind a frame that it said
abbrev pub said : LinkState → Heard → LinkState
said s frame =
    record {
      heard = s.heard;
      base = s.base;
      has_heard_have = s.has_heard_have;
      out = s.out ++ frame_bytes frame;
      has_said_bye = s.has_said_bye || is_bye frame;
    }

-- the operations were said, cut into pieces, and the base is joined with them
pub record Sends (old new : LinkState) (ops : List Op) : Type 0 where
  pub heard : new.heard ≡ old.heard
  pub base : sent old.base ops ≡ Some new.base
  pub has_heard_have : new.has_heard_have ≡ old.has_heard_have
  pub out : new.out ≡ old.out ++ frame_bytes (Ops (cut ops))
  pub has_said_bye : new.has_said_bye ≡ old.has_said_bye

-- the link with nothing said that isn't taken
abbrev pub without_out : LinkState → LinkState
without_out s =
    record {
      heard = s.heard;
      base = s.base;
      has_heard_have = s.has_heard_have;
      out = [];
      has_said_bye = s.has_said_bye;
    }
