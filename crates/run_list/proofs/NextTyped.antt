-- What is typed right behind an operation.
use Rattle.std.proofs.Common.{◌≡◌, ℕ, ◌+◌, true, List, Option, Some, None, refl, arith}
use Rattle.std.specs.Prelude.{◌==◌}
use Rattle.std.proofs.lemmas.Bool.{and_from}
use Rattle.std.proofs.lemmas.Bool.Decides.{nat_tests}
use Rattle.op_ids.proofs.EqualityLemmas.{is_same_clock_tells}
use Rattle.op_ids.specs.Clock.{advanced, is_same_clock}
use Rattle.op_ids.specs.Id.{Id, is_same}
use Rattle.op_model.specs.declared.op.Op.{Op}
use Rattle.op_model.specs.Causality.{is_insert}
use Rattle.op_pieces.specs.Cutting.{is_next, is_same_token}
use Rattle.op_pieces.specs.Pieces.{next_typed}

-- what is typed right behind an operation is the next one
same_number : (n : ℕ) → (n == n) ≡ true
same_number n = grind (arith, nat_tests)

pub same_token : (t : Option ℕ) → is_same_token t t ≡ true
same_token None = refl
same_token (Some t) = same_number t

same_id : (id : Id) → is_same id id ≡ true
unfolding is_same
same_id id = and_from _ _ (same_number id.counter) (same_number id.replica)

same_clock : (c : List (ℕ × ℕ)) → is_same_clock c c ≡ true
same_clock c = (is_same_clock_tells c c (is_same_clock c c) refl).1 refl

pub typed_is_next : (op : Op) (v : ℕ) → is_insert op.body ≡ true → is_next op (next_typed op v) ≡ true
typed_is_next op v inserts =
    and_from _ _ inserts (and_from _ _ (same_id op.id) (and_from _ _ (same_number (op.id.counter + 1)) (and_from _ _ (same_number op.id.replica)
    (and_from _ _ (same_number op.doc) (and_from _ _ (same_token op.token) (same_clock (advanced op.deps op.id.replica)))))))
