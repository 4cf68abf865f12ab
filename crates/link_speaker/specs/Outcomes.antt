-- How one turn of saying what is due ends.
use Rattle.std.specs.Prelude.{◌≡◌, ◌⊎◌, ℕ, Bool, List, Option}
use Rattle.std.specs.Io.KnownBytes.{Appends}
use Rattle.link_speaker.specs.declared.peer.Peer.{Ghosts as PeerFacts}
use Rattle.link_speaker.specs.declared.line.Line.{Ghosts as LineFacts}
use Rattle.link_speaker.specs.declared.speak_error.SpeakError.{SpeakError}
use Rattle.link_speaker.specs.declared.speak_error.SpeakError.TheVariants.{Stream}
use Rattle.link_speaker.specs.Speaking.{SpeaksHave, SpeaksOps, IsHaveUnsaid, StopsBeforeOps}
use Rattle.byte_streams.specs.Fronts.{AppendsFront}

module _ {P L : Type 0} (peers : PeerFacts P) (lines : LineFacts L) where
  module _ (is_asked : Bool) (last next : Option (List (ℕ × ℕ))) (peer_old peer_new : P) (line_old line_new : L) where
    -- all that is due was said: the HAVE, and then the operations
    pub record SaysDue (has_told : Bool) : Type 0 where
      pub peer : P
      pub line : L
      pub have : SpeaksHave peers lines is_asked last next peer_old peer line_old line
      pub ops : SpeaksOps peers lines peer peer_new line line_new has_told

    -- not all that is due was said: nothing; or the HAVE, and no operations
    abbrev pub SaysPart : SpeakError → Type 0
    SaysPart error =
        ((next ≡ last) × (line_new ≡ line_old) × IsHaveUnsaid peers lines is_asked last peer_old peer_new line_old error)
        ⊎ ((peer : P) × (line : L) × SpeaksHave peers lines is_asked last next peer_old peer line_old line
        × StopsBeforeOps peers lines peer peer_new line line_new error)

  module _ (is_asked : Bool) (last next : Option (List (ℕ × ℕ))) (peer_old peer_new : P) (line_old line_new : L)
      (output_old output_new : Option (List ℕ)) where
    -- all that is due was said, and what was taken out of the line then was written
    pub record Spoke (has_told : Bool) : Type 0 where
      pub line : L
      pub text : List ℕ
      pub said : SaysDue is_asked last next peer_old peer_new line_old line has_told
      pub taken : lines.gives line text line_new
      pub written : Appends output_old output_new text

    -- all that is due was said, but of what was taken out only a beginning may have been written
    pub record SpokeInPart : Type 0 where
      pub has_told : Bool
      pub line : L
      pub text : List ℕ
      pub said : SaysDue is_asked last next peer_old peer_new line_old line has_told
      pub taken : lines.gives line text line_new
      pub written : AppendsFront output_old output_new text

    -- Where the writer failed, all that is due was said. Else not all was, and nothing was taken out or written.
    abbrev pub Stopped : SpeakError → Type 0
    Stopped (Stream error) = SpokeInPart
    Stopped error = SaysPart is_asked last next peer_old peer_new line_old line_new error × (output_new ≡ output_old)
