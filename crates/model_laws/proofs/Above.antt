-- The ids that an edit makes are above all before.
use Rattle.std.proofs.Common.{◌≡◌, ℕ, ◌+◌, ◌<◌, true, Option, List, [], ◌∷◌, refl, arith}
use Rattle.std.specs.List.{list_all}
use Rattle.std.proofs.lemmas.Bool.Decides.{nat_tests}
use Rattle.op_ids.specs.Id.{Id, is_below}
use Rattle.op_ids.specs.Clock.{advanced}
use Rattle.op_model.specs.declared.op.Op.{Op}
use Rattle.op_model.specs.declared.op.Body.{Body}
use Rattle.op_model.specs.Made.{numbered, greatest_counter}

-- an id of a greater counter is above
above_one : (a b : Id) → a.counter < b.counter → is_below a b ≡ true
unfolding is_below
above_one a b under = grind (arith, nat_tests)

all_under : (ops : List Op) (id : Id) → greatest_counter ops < id.counter → list_all (λ earlier. is_below earlier.id id) ops ≡ true
all_under [] id above = refl
all_under (op ∷ ops) id above =
    let rest = all_under ops id (omega arith) in
    let first = above_one op.id id (omega arith) in
    grind (arith, nat_tests)

pub numbered_above : (ops : List Op) (replica doc : ℕ) (token : Option ℕ) (counter : ℕ) (clock : List (ℕ × ℕ)) (bodies : List Body) → greatest_counter ops < counter
    → list_all (λ op. list_all (λ earlier. is_below earlier.id op.id) ops) (numbered replica doc token counter clock bodies) ≡ true
numbered_above ops replica doc token counter clock [] above = refl
numbered_above ops replica doc token counter clock (b ∷ bs) above =
    let first = all_under ops (record { counter = counter; replica = replica }) above in
    let rest = numbered_above ops replica doc token (counter + 1) (advanced clock replica) bs (omega arith) in
    grind (arith, nat_tests)
