-- Ids of operations. A replica is seen as its number, an id as its counter and its replica.
use Rattle.std.specs.Prelude.{ℕ, Bool, ◌&&◌, ◌||◌, ◌==◌, nat_lt}

pub record Id : Type 0 where
  pub counter : ℕ
  pub replica : ℕ

-- a comes below b: by counter, and then by replica
unfoldable pub is_below : Id → Id → Bool
is_below a b = nat_lt a.counter b.counter || (a.counter == b.counter && nat_lt a.replica b.replica)

-- a and b are one id
unfoldable pub is_same : Id → Id → Bool
is_same a b = a.counter == b.counter && a.replica == b.replica
