-- How messages and errors end a connection.
use Rattle.std.specs.Prelude.{ℕ, List, Option, None, Some}
use Rattle.websocket.specs.Content.{Content, text, binary, ping, pong, close}
use Rattle.websocket.specs.declared.protocol.frame.coding.CloseCode.{CloseCode}
use Rattle.websocket.specs.declared.protocol.frame.coding.CloseCode.TheVariants as Code
use Rattle.websocket.specs.declared.error.ProtocolError.{ProtocolError}
use Rattle.websocket.specs.declared.error.ProtocolError.TheVariants as Broken
use Rattle.tungstenite.specs.declared.error.Error.{Error}
use Rattle.web_lines.specs.declared.ending.Ending.{Ending}
use Rattle.web_lines.specs.declared.ending.Ending.TheVariants.{NotYet, Closed, Refused, StreamEnded}

-- the code of a close, if it has one
abbrev pub code_of : Option (CloseCode × List ℕ) → Option CloseCode
code_of None = None
code_of (Some given) = Some given.0

-- a close ends the connection, and a binary message is refused
abbrev pub ending_after : Content → Ending
ending_after (text _) = NotYet
ending_after (binary _) = Refused Code.Unsupported
ending_after (ping _) = NotYet
ending_after (pong _) = NotYet
ending_after (close given) = Closed (code_of given)

-- the stream ended, or a rule was broken
abbrev pub ending_by_rule : ProtocolError → Ending
ending_by_rule Broken.ResetWithoutClosingHandshake = StreamEnded
ending_by_rule _ = Refused Code.Protocol

-- what is too long, no UTF-8 or against a rule is refused, and no other error ends the connection
abbrev pub ending_by : Error → Ending
ending_by Error.ConnectionClosed = Closed None
ending_by (Error.Capacity _) = Refused Code.Size
ending_by Error.Utf8 = Refused Code.Invalid
ending_by (Error.Protocol rule) = ending_by_rule rule
ending_by _ = NotYet
