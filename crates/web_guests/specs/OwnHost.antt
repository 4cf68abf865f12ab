-- The hosts by which a request names this machine: its address or localhost, and a port. A browser names the host of the page's own address here,
-- so a name that someone else made point to this machine shows.
use Rattle.std.specs.Prelude.{ℕ, Bool, ◌&&◌, ◌||◌, ◌==◌, List, [], ◌∷◌, length, take, drop, codes, bytes_eq, decimal}
use Rattle.websocket.specs.Headers.{eq_ignore_case}

-- after a host stands a colon and the port, or for port 80 nothing
abbrev pub is_port_of : ℕ → List ℕ → Bool
is_port_of port [] = port == 80
is_port_of port (b ∷ digits) = b == 58 && bytes_eq digits (decimal port)

-- the host begins with this name, in any case, and then stands the port
abbrev pub is_host_named : List ℕ → ℕ → List ℕ → Bool
is_host_named name port host =
    eq_ignore_case (take (length name) host) name && is_port_of port (drop (length name) host)

-- 127.0.0.1 or localhost, with the port
abbrev pub is_own_host : ℕ → List ℕ → Bool
is_own_host port host =
    is_host_named (codes "127.0.0.1") port host || is_host_named (codes "localhost") port host
