-- What is sent of the bytes that a session writes.
use Rattle.std.specs.Prelude.{◌≡◌, ◌≢◌, ◌⊎◌, ℕ, List, [], ◌∷◌, ◌++◌, Option, refl}
use Rattle.std.specs.Coded.{Coded, code_by, coded×, coded_ℕ, coded_list}
use Rattle.tungstenite.specs.Socket.{Socket, socket_code, Writes}
use Rattle.websocket.specs.Connection.{write_step}
use Rattle.websocket.specs.Content.{text}

-- a socket, and what was written of a line so far
pub record Answering (S : Type 0) : Type 0 where
  pub socket : Socket S
  pub gathered : List ℕ

module _ {S : Type 0} where
  abbrev pub answering_code : Coded S → Coded (Answering S)
  answering_code stream =
      code_by (Socket S × List ℕ) (coded× (socket_code stream) (coded_list coded_ℕ))
      (λ a. (a.socket, a.gathered)) (λ p. record { socket = p.0; gathered = p.1 }) (λ _. refl)

  -- a line feed makes one text message of the line
  abbrev pub SendsLine : (S → Option (List ℕ)) → Answering S → Answering S → Type 0
  SendsLine contents old new =
      Writes contents old.socket new.socket (write_step old.socket.conn (text old.gathered)) × (new.gathered ≡ [])

  -- a byte is a line feed, or it joins what is gathered and nothing is sent
  abbrev pub TakesByte : (S → Option (List ℕ)) → Answering S → ℕ → Answering S → Type 0
  TakesByte contents old byte new =
      ((byte ≡ 10) × SendsLine contents old new)
      ⊎ ((byte ≢ 10) × (new ≡ record old { gathered = old.gathered ++ byte ∷ [] }))

  -- bytes are taken one after another
  abbrev pub Takes : (S → Option (List ℕ)) → Answering S → List ℕ → Answering S → Type 0
  Takes contents old [] new = new ≡ old
  Takes contents old (byte ∷ rest) new = (mid : Answering S) × TakesByte contents old byte mid × Takes contents mid rest new
