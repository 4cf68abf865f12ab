-- What is said over a line, and what a peer gave for it.
use Rattle.std.specs.Prelude.{◌≡◌, ◌⊎◌, ℕ, Bool, true, false, ◌||◌, not, List, [], ◌∷◌, Option, Some, None}
use Rattle.op_ids.specs.Clock.{is_same_clock}
use Rattle.op_model.specs.declared.op.Op.{Op}
use Rattle.op_pieces.specs.Cutting.{cut}
use Rattle.causal_sync.specs.declared.heard.Heard.{Heard}
use Rattle.causal_sync.specs.declared.heard.Heard.TheVariants.{Have, Ops}
use Rattle.causal_sync.specs.declared.link_error.LinkError.{LinkError}
use Rattle.link_speaker.specs.declared.speak_error.SpeakError.{SpeakError}
use Rattle.link_speaker.specs.declared.speak_error.SpeakError.TheVariants.{Memory, Link, Stream}
use Rattle.link_speaker.specs.declared.peer.Peer.{Ghosts as PeerFacts}
use Rattle.link_speaker.specs.declared.line.Line.{Ghosts as LineFacts}

-- a HAVE is due: one is asked for, or this isn't the clock that was said last
abbrev pub is_due : Bool → Option (List (ℕ × ℕ)) → List (ℕ × ℕ) → Bool
is_due is_asked None clock = true
is_due is_asked (Some last) clock = is_asked || not (is_same_clock last clock)

-- what is said of a clock: a HAVE, where it is due
abbrev pub have_frames : Bool → List (ℕ × ℕ) → List Heard
have_frames true clock = Have clock ∷ []
have_frames false clock = []

-- there are operations
abbrev pub has_some : List Op → Bool
has_some [] = false
has_some (op ∷ ops) = true

-- what is said of operations: one OPS of the pieces that all of them are cut into, where there are any
abbrev pub ops_frames : List Op → List Heard
ops_frames [] = []
ops_frames (op ∷ ops) = Ops (cut (op ∷ ops)) ∷ []

module _ {P L : Type 0} (peers : PeerFacts P) (lines : LineFacts L) where
  -- these frames were said, one after the other
  abbrev pub Says : L → List Heard → L → Type 0
  Says old [] new = new ≡ old
  Says old (frame ∷ frames) new = (between : L) × lines.says old frame between × Says between frames new

  -- of these frames the first was refused so
  abbrev pub Refuses : L → List Heard → LinkError → Type 0
  Refuses line [] refusal = ⊥
  Refuses line (frame ∷ frames) refusal = lines.refuses line frame refusal

  -- the peer tells these operations for a base; where there is none it isn't asked, and there are none
  abbrev pub TellsFor : P → Option (List (ℕ × ℕ)) → List Op → P → Type 0
  TellsFor old None ops new = (ops ≡ []) × (new ≡ old)
  TellsFor old (Some base) ops new = peers.tells old base ops new

  -- the peer gave a clock, a HAVE of it was said where that is due, and it is the clock said last then
  pub record SpeaksHave (is_asked : Bool) (last next : Option (List (ℕ × ℕ))) (peer_old peer_new : P) (line_old line_new : L) : Type 0 where
    pub clock : List (ℕ × ℕ)
    pub given : peers.has peer_old clock peer_new
    pub said : Says line_old (have_frames (is_due is_asked last clock) clock) line_new
    pub next_is : next ≡ Some clock

  -- why what is due of the peer's clock wasn't said: out of memory, after which the peer may have been asked; or the line
  -- refused the HAVE so
  abbrev pub IsHaveUnsaid : Bool → Option (List (ℕ × ℕ)) → P → P → L → SpeakError → Type 0
  IsHaveUnsaid is_asked last peer_old peer_new line Memory =
      (peer_new ≡ peer_old) ⊎ ((clock : List (ℕ × ℕ)) × peers.has peer_old clock peer_new)
  IsHaveUnsaid is_asked last peer_old peer_new line (Link refusal) =
      (clock : List (ℕ × ℕ)) × peers.has peer_old clock peer_new
      × Refuses line (have_frames (is_due is_asked last clock) clock) refusal
  IsHaveUnsaid is_asked last peer_old peer_new line (Stream error) = ⊥

  -- the peer told operations for the line's base, and just these were said
  pub record SpeaksOps (peer_old peer_new : P) (line_old line_new : L) (has_told : Bool) : Type 0 where
    pub base : Option (List (ℕ × ℕ))
    pub ops : List Op
    pub line : L
    pub based : lines.has_base line_old base line
    pub told : TellsFor peer_old base ops peer_new
    pub said : Says line (ops_frames ops) line_new
    pub told_some : has_told ≡ has_some ops

  -- why operations for this base weren't said: out of memory, after which they may have been told; or the line refused
  -- them so
  abbrev pub AreOpsUnsaid : Option (List (ℕ × ℕ)) → P → P → L → SpeakError → Type 0
  AreOpsUnsaid base peer_old peer_new line Memory = (peer_new ≡ peer_old) ⊎ ((ops : List Op) × TellsFor peer_old base ops peer_new)
  AreOpsUnsaid base peer_old peer_new line (Link refusal) =
      (ops : List Op) × TellsFor peer_old base ops peer_new × Refuses line (ops_frames ops) refusal
  AreOpsUnsaid base peer_old peer_new line (Stream error) = ⊥

  -- no OPS was said: out of memory kept the line from giving its base; or it gave one, and the operations for it weren't said
  abbrev pub StopsBeforeOps : P → P → L → L → SpeakError → Type 0
  StopsBeforeOps peer_old peer_new line_old line_new error =
      ((error ≡ Memory) × (peer_new ≡ peer_old) × (line_new ≡ line_old))
      ⊎ ((base : Option (List (ℕ × ℕ))) × lines.has_base line_old base line_new
      × AreOpsUnsaid base peer_old peer_new line_new error)
