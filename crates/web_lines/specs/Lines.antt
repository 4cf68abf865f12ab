-- The lines of messages.
use Rattle.std.specs.Prelude.{ℕ, List, [], ◌∷◌, ◌++◌, Bool, cond, ◌==◌}
use Rattle.std.specs.List.{ends_with}
use Rattle.websocket.specs.Content.{Content, text, binary, ping, pong, close}

-- the last byte is a line feed
abbrev pub ends_with_feed : List ℕ → Bool
ends_with_feed bytes = ends_with (λ x y. x == y) bytes (10 ∷ [])

-- what a session reads of a text message: its bytes, and a line feed unless they end with one
abbrev pub line_bytes : List ℕ → List ℕ
line_bytes bytes = bytes ++ cond (ends_with_feed bytes) [] (10 ∷ [])

-- what it reads of a message: nothing of one that is no text
abbrev pub lines_of : Content → List ℕ
lines_of (text bytes) = line_bytes bytes
lines_of (binary _) = []
lines_of (ping _) = []
lines_of (pong _) = []
lines_of (close _) = []
