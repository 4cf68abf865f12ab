-- What is answered where records have room, and where they have none.
use Rattle.std.proofs.Common.{◌≡◌, ℕ, Bool, true, false, refl}
use Rattle.op_model.specs.Machine.{Answer, applied, known, early, refused, with_room, IsRefusal}

-- a refusal of the replica alone, whether there is room or not
pub refused_alone : (room : Bool) (n : ℕ) (answer : Answer) → answer ≡ refused n → IsRefusal n (with_room room answer)
refused_alone true n answer is = rw is refl
refused_alone false n answer is = rw is refl

-- and so are the other answers that append nothing
pub known_alone : (room : Bool) (answer : Answer) → answer ≡ known → with_room room answer ≡ known
known_alone true answer is = is
known_alone false answer is = rw is refl

pub early_alone : (room : Bool) (answer : Answer) → answer ≡ early → with_room room answer ≡ early
early_alone true answer is = is
early_alone false answer is = rw is refl

-- no room for a merged operation's record
pub full_merge : (room : Bool) (answer : Answer) → room ≡ false → answer ≡ applied → IsRefusal 8 (with_room room answer)
full_merge room answer none is = rw (none, is) refl

-- room for a merge, and no memory
pub wanting_merge : (room : Bool) (n : ℕ) (answer : Answer) → room ≡ true → answer ≡ applied → n ≡ 1 → IsRefusal n (with_room room answer)
wanting_merge room n answer some is one = rw (some, is) one
