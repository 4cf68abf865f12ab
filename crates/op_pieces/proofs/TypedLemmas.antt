-- What one insert makes are the operations of one piece.
use Rattle.std.proofs.Common.{◌≡◌, ℕ, ◌+◌, ◌<◌, ◌≤◌, true, List, [], ◌∷◌, length, Option, Some, arith, ap, refl, sym, ◌∙◌}
use Rattle.std.specs.Prelude.{nat_lt, nat_le}
use Rattle.std.specs.List.{list_all}
use Rattle.std.proofs.lemmas.Bool.{and_parts}
use Rattle.std.proofs.lemmas.Bool.Decides.{nat_tests}
use Rattle.op_ids.specs.Id.{Id}
use Rattle.op_ids.specs.Clock.{advanced, advanced_by, is_clock}
use Rattle.op_model.specs.declared.op.Op.{Op}
use Rattle.op_model.specs.declared.op.Body.TheVariants.{Insert}
use Rattle.op_model.specs.declared.edit.Edit.{Edit}
use Rattle.op_model.specs.declared.edit.Change.TheVariants as change
use Rattle.op_model.specs.Causality.{clock_of, is_insert}
use Rattle.op_model.specs.Made.{made, numbered, insert_bodies, origin_of, greatest_counter, bodies_of}
use Rattle.op_pieces.specs.Pieces.{next_typed, typed_behind, ops_of, last_typed, fits_behind}
use Rattle.op_pieces.specs.Cutting.{is_valid}
use Rattle.op_pieces.specs.Typed.{IsTyped}
use Rattle.op_pieces.proofs.PieceLemmas.{last_counter, last_deps}

-- the insert of the first character
first_typed : ℕ → ℕ → Option ℕ → ℕ → List (ℕ × ℕ) → Option Id → ℕ → Op
first_typed replica doc token counter clock origin v =
    record { id = record { counter = counter; replica = replica }; doc = doc; token = token; deps = clock; body = Insert origin v }

-- each later operation is the next typed one
typed : (replica doc : ℕ) (token : Option ℕ) (counter : ℕ) (clock : List (ℕ × ℕ)) (origin : Option Id) (v : ℕ) (vs : List ℕ)
    → ops_of (record { first = first_typed replica doc token counter clock origin v; others = vs })
    ≡ numbered replica doc token counter clock (insert_bodies replica counter origin (v ∷ vs))
unfolding first_typed
typed replica doc token counter clock origin v [] = refl
typed replica doc token counter clock origin v (w ∷ ws) =
    ap (λ ops. first_typed replica doc token counter clock origin v ∷ ops)
    (typed replica doc token (counter + 1) (advanced clock replica) (Some (record { counter = counter; replica = replica })) w ws)

-- the last one is in range
last_valid : (op : Op) (vs : List ℕ) → list_all is_valid (op ∷ typed_behind op vs) ≡ true → is_valid (last_typed op vs) ≡ true
last_valid op [] valid = (and_parts (is_valid op) _ valid).0
last_valid op (v ∷ vs) valid = last_valid (next_typed op v) vs (and_parts (is_valid op) _ valid).1

-- operations in range are a piece, if they are at most 256 inserts
pub valid_piece : (op : Op) (vs : List ℕ) → is_insert op.body ≡ true → length vs < 256 → list_all is_valid (op ∷ typed_behind op vs) ≡ true
    → fits_behind op vs ≡ true
valid_piece op [] inserts few valid = refl
valid_piece op (v ∷ vs) inserts few valid =
    let n = length (v ∷ vs) in
    let last = and_parts (nat_le (last_typed op (v ∷ vs)).id.counter 281474976710655) _ (last_valid op (v ∷ vs) valid) in
    let counter : nat_le (op.id.counter + n) 281474976710655 ≡ true = ap (λ c. nat_le c 281474976710655) (sym (last_counter op (v ∷ vs))) ∙ last.0 in
    let deps : is_clock (advanced_by op.deps op.id.replica n) ≡ true = ap is_clock (sym (last_deps op (v ∷ vs))) ∙ last.1 in
    let short : nat_lt n 256 ≡ true = grind (arith, nat_tests) in
    rw (inserts, short, counter, deps) refl

typed_bodies : (ops : List Op) (replica : ℕ) (e : Edit) (at v : ℕ) (vs : List ℕ) → e.change ≡ change.Insert at (v ∷ vs)
    → ops_of (record { first = first_typed replica e.doc e.token (greatest_counter ops + 1) (clock_of ops) (origin_of ops e.doc at) v; others = vs })
    ≡ made ops replica e
typed_bodies ops replica e at v vs is =
    typed replica e.doc e.token (greatest_counter ops + 1) (clock_of ops) (origin_of ops e.doc at) v vs
    ∙ ap (λ c. numbered replica e.doc e.token (greatest_counter ops + 1) (clock_of ops) (bodies_of ops replica e.doc c)) (sym is)

pub typed_run : (ops : List Op) (replica : ℕ) (e : Edit) (at : ℕ) (text : List ℕ) → e.change ≡ change.Insert at text → 0 < length text
    → length text ≤ 256 → list_all is_valid (made ops replica e) ≡ true → IsTyped (made ops replica e) text
unfolding first_typed
typed_run ops replica e at [] is some few valid = absurd (omega arith)
typed_run ops replica e at (v ∷ vs) is some few valid =
    let makes = typed_bodies ops replica e at v vs is in
    record {
      run = record { first = first_typed replica e.doc e.token (greatest_counter ops + 1) (clock_of ops) (origin_of ops e.doc at) v; others = vs };
      piece = valid_piece (first_typed replica e.doc e.token (greatest_counter ops + 1) (clock_of ops) (origin_of ops e.doc at) v) vs refl
          (omega (arith, few)) (ap (list_all is_valid) makes ∙ valid);
      types = refl;
      makes = makes;
    }
