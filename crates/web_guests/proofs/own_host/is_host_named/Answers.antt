use Rattle.std.proofs.Common.{◌≡◌, ℕ, ◌<◌, Bool, true, false, List, length, take, map, ap, refl, arith}
use Rattle.std.proofs.lemmas.List.{length-map, length-take}
use Rattle.std.proofs.lemmas.Slice.Eq.{bytes_eq-Decides}
use Rattle.std.specs.Char.{to_ascii_lowercase}
use Rattle.websocket.specs.Headers.{eq_ignore_case}
use Rattle.web_guests.proofs.own_host.is_host_named.Goals as goal

never : (b : Bool) → (b ≡ true → ⊥) → false ≡ b
never true h = absurd (h refl)
never false h = refl

-- a text that is shorter than a name doesn't begin with it
too_short : (host name : List ℕ) → length host < length name → false ≡ eq_ignore_case (take (length name) host) name
unfolding eq_ignore_case
too_short host name short =
    let front = take (length name) host in
    never _ (λ same.
    omega (
      arith,
      ap length ((bytes_eq-Decides (map to_ascii_lowercase front) (map to_ascii_lowercase name)).0 same),
      length-map front to_ascii_lowercase,
      length-map name to_ascii_lowercase,
      length-take (length name) host,
    ))

pub returns-in-None : goal.returns-in-None
returns-in-None c = rw (← too_short c.args.host.now c.args.name.now c.in-None.ensures.cases) refl
