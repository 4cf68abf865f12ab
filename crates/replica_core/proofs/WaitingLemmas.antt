-- How many bytes an edit adds to what waits.
use Rattle.std.proofs.Common.{◌≡◌, ℕ, ◌+◌, ◌-◌, ◌*◌, ◌<◌, ◌≤◌, List, [], ◌∷◌, suc, length, refl, ap, Option, Some, arith}
use Rattle.op_ids.specs.Id.{Id}
use Rattle.op_ids.specs.Clock.{advanced}
use Rattle.op_model.specs.declared.op.Op.{Op}
use Rattle.op_model.specs.declared.op.Body.{Body}
use Rattle.op_model.specs.declared.edit.Edit.{Edit}
use Rattle.op_model.specs.declared.edit.Change.{Change}
use Rattle.op_model.specs.declared.edit.Change.TheVariants as change
use Rattle.op_model.specs.Causality.{clock_of}
use Rattle.op_model.specs.Made.{greatest_counter, numbered, insert_bodies, bodies_of, origin_of}
use Rattle.op_model.specs.Records.{head_length, token_length, origin_length, stream_length}
use Rattle.op_model.specs.Waiting.{change_length}
use Rattle.model_laws.proofs.EditLimits.{length-insert_bodies}

length-numbered : (replica doc : ℕ) (token : Option ℕ) (counter : ℕ) (clock : List (ℕ × ℕ)) (bs : List Body)
    → length (numbered replica doc token counter clock bs) ≡ length bs
length-numbered replica doc token counter clock [] = refl
length-numbered replica doc token counter clock (b ∷ bs) = ap suc (length-numbered replica doc token (counter + 1) (advanced clock replica) bs)

-- two inserts or more are one record
run_length : (replica doc : ℕ) (token : Option ℕ) (counter : ℕ) (clock : List (ℕ × ℕ)) (origin : Option Id) (at v w : ℕ) (vs text : List ℕ)
    → change_length (change.Insert at text) (numbered replica doc token counter clock (insert_bodies replica counter origin (v ∷ w ∷ vs)))
    ≡ head_length (length clock) + token_length token + (origin_length origin + 4) + 2 + 4 * length (w ∷ vs)
run_length replica doc token counter clock origin at v w vs text =
    let id : Id = record { counter = counter; replica = replica } in
    let next : Id = record { counter = counter + 1; replica = replica } in
    let bodies = insert_bodies replica (counter + 1 + 1) (Some next) vs in
    let many = length-numbered replica doc token (counter + 1 + 1) (advanced (advanced clock replica) replica) bodies in
    let each = length-insert_bodies replica (counter + 1 + 1) (Some next) vs in
    omega (arith, many, each)

pub change_run : (ops : List Op) (replica : ℕ) (e : Edit) (at : ℕ) (text : List ℕ) (it : Change) → it ≡ change.Insert at text → 1 < length text
    → change_length it (numbered replica e.doc e.token (greatest_counter ops + 1) (clock_of ops) (bodies_of ops replica e.doc it))
    ≡ head_length (length (clock_of ops)) + token_length e.token + (origin_length (origin_of ops e.doc at) + 4) + 2 + 4 * (length text - 1)
change_run ops replica e at [] it is more = absurd (omega arith)
change_run ops replica e at (v ∷ []) it is more = absurd (omega arith)
change_run ops replica e at (v ∷ w ∷ vs) it is more =
    let all = run_length replica e.doc e.token (greatest_counter ops + 1) (clock_of ops) (origin_of ops e.doc at) at v w vs (v ∷ w ∷ vs) in
    rw is (omega (arith, all))

-- one alone has its own
pub change_one : (ops : List Op) (replica : ℕ) (e : Edit) (at : ℕ) (text : List ℕ) (it : Change) → it ≡ change.Insert at text → length text ≤ 1
    → stream_length (numbered replica e.doc e.token (greatest_counter ops + 1) (clock_of ops) (bodies_of ops replica e.doc it))
    ≡ change_length it (numbered replica e.doc e.token (greatest_counter ops + 1) (clock_of ops) (bodies_of ops replica e.doc it))
change_one ops replica e at [] it is few = rw is refl
change_one ops replica e at (v ∷ []) it is few = rw is refl
change_one ops replica e at (v ∷ w ∷ vs) it is few = absurd (omega arith)
