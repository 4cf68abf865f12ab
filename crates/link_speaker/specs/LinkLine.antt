-- A link as a line.
use Rattle.std.specs.Prelude.{◌≡◌, ℕ, true, ⊤, List, Option, Some, None, if◌then◌else◌}
use Rattle.op_pieces.specs.Pieces.{joined}
use Rattle.causal_sync.specs.declared.heard.Heard.{Heard}
use Rattle.causal_sync.specs.declared.heard.Heard.TheVariants.{Hello, Have, Ops, Bye}
use Rattle.causal_sync.specs.declared.link_error.LinkError.{LinkError}
use Rattle.causal_sync.specs.declared.link_error.LinkError.TheVariants.{Memory, Limit, BadFrame, BadHello, Closed, Record}
use Rattle.causal_sync.specs.Sent.{sent}
use Rattle.causal_sync.specs.State.{LinkState, Sends, is_silent, said, without_out}

-- this frame was said; a HELLO is said only as the link starts
abbrev pub LinkSays : LinkState → Heard → LinkState → Type 0
LinkSays old (Hello replica) new = ⊥
LinkSays old (Have clock) new = new ≡ said old (Have clock)
LinkSays old (Ops pieces) new = Sends old new (joined pieces)
LinkSays old Bye new = new ≡ said old Bye

-- the base has no room for the operations
abbrev pub HasNoRoom : LinkState → Heard → Type 0
HasNoRoom s (Ops pieces) = sent s.base (joined pieces) ≡ None
HasNoRoom s (Hello replica) = ⊥
HasNoRoom s (Have clock) = ⊥
HasNoRoom s Bye = ⊥

-- closed where nothing more may be said, and limit where the base has no room for operations; out of memory may come
-- for any frame
abbrev pub LinkRefuses : LinkState → Heard → LinkError → Type 0
LinkRefuses s frame Closed = is_silent s ≡ true
LinkRefuses s frame Limit = HasNoRoom s frame
LinkRefuses s frame Memory = ⊤
LinkRefuses s frame BadFrame = ⊥
LinkRefuses s frame BadHello = ⊥
LinkRefuses s frame (Record fault) = ⊥

-- this is the link's base, or none where no HAVE was heard; nothing has changed
abbrev pub LinkHasBase : LinkState → Option (List (ℕ × ℕ)) → LinkState → Type 0
LinkHasBase old base new = (base ≡ (if old.has_heard_have then Some old.base else None)) × (new ≡ old)

-- these are the bytes that were said and not yet taken, and now they are taken
abbrev pub LinkGives : LinkState → List ℕ → LinkState → Type 0
LinkGives old bytes new = (bytes ≡ old.out) × (new ≡ without_out old)
