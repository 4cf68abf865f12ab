-- Why a guest is sent away.
use Rattle.std.specs.Prelude.{Bool, true, false}
use Rattle.websocket.specs.declared.handshake.failure.HandshakeError.{HandshakeError}
use Rattle.websocket.specs.declared.handshake.failure.HandshakeError.TheVariants.{MissingSecWebSocketVersionHeader}
use Rattle.web_guests.specs.declared.refusal.Refusal.{Refusal}
use Rattle.web_guests.specs.declared.refusal.Refusal.TheVariants.{NotWebSocket, WrongVersion, ForbiddenHost, ForbiddenOrigin}

-- a head that asks for no WebSocket is refused for its version, or as no request for a WebSocket
abbrev pub cause_of : HandshakeError → Refusal
cause_of MissingSecWebSocketVersionHeader = WrongVersion
cause_of _ = NotWebSocket

-- a guest is sent away for its host or its origin
abbrev pub is_forbidden : Refusal → Bool
is_forbidden ForbiddenHost = true
is_forbidden ForbiddenOrigin = true
is_forbidden _ = false
