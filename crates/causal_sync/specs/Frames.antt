-- The one spelling of each frame in bytes. Numbers have their highest byte first.
use Rattle.std.specs.Prelude.{◌≡◌, ◌≢◌, ℕ, ◌<◌, ◌≤◌, ◌^◌, Bool, true, false, ◌||◌, List, [], ◌∷◌, ◌++◌, length}
use Rattle.std.specs.Int.{w16, w32, w128}
use Rattle.fixed_numbers.specs.declared.limits.TheConstants.{MAX_TOLD}
use Rattle.op_ids.specs.Clock.{is_clock}
use Rattle.change_codec.specs.declared.format.Format.TheVariants.{Third}
use Rattle.change_codec.specs.Fits.{HaveSixteen}
use Rattle.change_codec.specs.Spelling.{number_bytes, deps_bytes}
use Rattle.piece_codec.specs.Stream.{spelled_pieces, ArePiecesOf}
use Rattle.causal_sync.specs.declared.heard.Heard.{Heard}
use Rattle.causal_sync.specs.declared.heard.Heard.TheVariants.{Hello, Have, Ops, Bye}

-- What a frame says behind its length: 1 HELLO with format 3 and the replica, 2 HAVE with a clock, 3 OPS with how many
-- pieces there are and their records, 4 BYE.
unfoldable pub content_bytes : Heard → List ℕ
content_bytes (Hello replica) = 1 ∷ (number_bytes w16 3 ++ number_bytes w128 replica)
content_bytes (Have clock) = 2 ∷ deps_bytes clock
content_bytes (Ops pieces) = 3 ∷ (number_bytes w16 (length pieces) ++ spelled_pieces pieces)
content_bytes Bye = 4 ∷ []

-- four bytes for the length of the content, and the content
unfoldable pub frame_bytes : Heard → List ℕ
frame_bytes frame = number_bytes w32 (length (content_bytes frame)) ++ content_bytes frame

-- the spellings of frames, one after another
abbrev pub frames_bytes : List Heard → List ℕ
frames_bytes [] = []
frames_bytes (frame ∷ frames) = frame_bytes frame ++ frames_bytes frames

-- it is a BYE
abbrev pub is_bye : Heard → Bool
is_bye (Hello replica) = false
is_bye (Have clock) = false
is_bye (Ops pieces) = false
is_bye Bye = true

-- one of them is a BYE
abbrev pub is_over : List Heard → Bool
is_over [] = false
is_over (frame ∷ frames) = is_bye frame || is_over frames

-- the first frame that a replica may hear is a HELLO of another one, and no later one is a HELLO; operations are pieces of the third format
abbrev pub IsFrame : ℕ → Bool → Heard → Type 0
IsFrame own true (Hello replica) = (0 < replica) × (replica < 2 ^ 128) × (replica ≢ own)
IsFrame own true (Have clock) = ⊥
IsFrame own true (Ops pieces) = ⊥
IsFrame own true Bye = ⊥
IsFrame own false (Hello replica) = ⊥
IsFrame own false (Have clock) = (is_clock clock ≡ true) × HaveSixteen clock
IsFrame own false (Ops pieces) = (1 ≤ length pieces) × (length pieces ≤ MAX_TOLD) × ArePiecesOf Third pieces
IsFrame own false Bye = Unit {0}

-- each is a frame that may be heard at its place, and nothing is behind a BYE
abbrev pub AreFrames : ℕ → Bool → List Heard → Type 0
AreFrames own first [] = Unit {0}
AreFrames own first (frame ∷ frames) = IsFrame own first frame × (is_bye frame ≡ true → frames ≡ []) × AreFrames own false frames
