-- What it takes to come in.
use Rattle.std.specs.Prelude.{◌≡◌, ◌⊎◌, ℕ, List, [], map, codes, Option, Result, Ok, Err}
use Rattle.std.specs.Io.KnownBytes.{Consumes, Appends}
use Rattle.httparse.specs.Grammar.{RequestHead, ReadsRequest}
use Rattle.httparse.specs.Spans.{name_and_value}
use Rattle.websocket.specs.declared.handshake.failure.HandshakeError.{HandshakeError}
use Rattle.websocket.specs.Handshake.{requested_key, IsValidKey, accept_key_of, response_bytes}
use Rattle.websocket.specs.Headers.{Fields}
use Rattle.web_guests.specs.Causes.{cause_of}
use Rattle.web_guests.specs.Guests.{guest_check, origin_in}
use Rattle.web_guests.specs.Stating.{values_of}
use Rattle.web_guests.specs.declared.refusal.Refusal.{Refusal}
use Rattle.web_guests.specs.declared.refusal.Refusal.TheVariants.{NotWebSocket}

-- whether a guest with these fields may come in, by its hosts and its origins
abbrev pub field_check : ℕ → List (List ℕ) → Fields → Result (Unit {0}) Refusal
field_check port named fields =
    guest_check port named (values_of fields (codes "Host")) (values_of fields (codes "Origin"))

-- what was asked for gives no valid key, for this cause
abbrev pub AsksNothing : Result (List ℕ) HandshakeError → Refusal → Type 0
AsksNothing (Ok key) cause = ¬ (IsValidKey key) × (cause ≡ NotWebSocket)
AsksNothing (Err error) cause = cause ≡ cause_of error

-- a guest that may come in and asks for a WebSocket gets the accept key of its key; else it is refused for what it lacks first
abbrev pub Judged : ℕ → List (List ℕ) → List ℕ → ℕ → Fields → Result (List ℕ) Refusal → Type 0
Judged port named method version fields (Ok accept) =
    (field_check port named fields ≡ Ok tt)
    × ((key : List ℕ) × (requested_key method version fields ≡ Ok key) × IsValidKey key × (accept ≡ accept_key_of key))
Judged port named method version fields (Err cause) =
    (field_check port named fields ≡ Err cause)
    ⊎ ((field_check port named fields ≡ Ok tt) × AsksNothing (requested_key method version fields) cause)

-- these bytes are one whole head, of a guest that may come in and asks for a WebSocket by this key
pub record Asks (port : ℕ) (named : List (List ℕ)) (bytes key : List ℕ) : Type 0 where
  pub head : RequestHead
  pub reads : ReadsRequest bytes head []
  pub may_come : field_check port named (map name_and_value head.fields) ≡ Ok tt
  pub asked : requested_key head.method head.minor (map name_and_value head.fields) ≡ Ok key
  pub valid : IsValidKey key

-- the stream gave such a head and nothing more, and then took the answer that lets it in and nothing more
pub record CameIn {S : Type 0} (remaining contents : S → Option (List ℕ)) (port : ℕ) (named : List (List ℕ)) (old new : S) : Type 0 where
  pub bytes : List ℕ
  pub key : List ℕ
  pub between : S
  pub asks : Asks port named bytes key
  pub read : Consumes (remaining old) (remaining between) bytes
  pub answered : Appends (contents between) (contents new) (response_bytes (accept_key_of key) [])

-- a guest came in so, whose head states this named origin, or none
pub record CameFrom {S : Type 0} (remaining contents : S → Option (List ℕ)) (port : ℕ) (named : List (List ℕ)) (old new : S)
    (origin : Option (List ℕ)) : Type 0 where
  pub came : CameIn remaining contents port named old new
  pub stated : origin ≡ origin_in named (values_of (map name_and_value came.asks.head.fields) (codes "Origin"))

-- the stream gave one whole head, of a guest that may not come in for this cause
pub record MayNotCome {S : Type 0} (remaining : S → Option (List ℕ)) (port : ℕ) (named : List (List ℕ)) (old : S) (cause : Refusal) : Type 0 where
  pub bytes : List ℕ
  pub between : S
  pub head : RequestHead
  pub reads : ReadsRequest bytes head []
  pub refused : field_check port named (map name_and_value head.fields) ≡ Err cause
  pub read : Consumes (remaining old) (remaining between) bytes
