-- The place of an edit is that of its last operation.
use Rattle.std.proofs.Common.{◌≡◌, ℕ, ◌+◌, ◌<◌, Bool, true, inl, inr, List, [], ◌∷◌, ◌++◌, length}
use Rattle.std.proofs.Common.{Option, Some, None, ap, refl, sym, ◌∙◌, arith, append_assoc, length-append}
use Rattle.std.specs.Option.{option_map}
use Rattle.std.proofs.lemmas.Bool.{cases_Bool, eq-eqb}
use Rattle.op_ids.specs.Clock.{advanced}
use Rattle.op_model.specs.declared.op.Op.{Op}
use Rattle.op_model.specs.declared.op.Body.{Body}
use Rattle.op_model.specs.Made.{numbered}
use Rattle.op_model.specs.Text.{rev}
use Rattle.op_model.specs.Tokens.{or_here, last_of, is_token, carries}
use Rattle.model_laws.proofs.LastOf.{last_of-behind, numbered_other}
use Rattle.edit_tokens.specs.declared.place.Place.{Place}
use Rattle.edit_tokens.specs.Places.{place_at, Puts, AreTokens}

-- where the operations behind others have one, it is the last of all
last_of-append : (is : Op → Bool) (ops more : List Op) (p : List Op × Op) → last_of is more ≡ Some p → last_of is (ops ++ more) ≡ Some (ops ++ p.0, p.1)
last_of-append is [] more p found = found
last_of-append is (x ∷ xs) more p found = ap (or_here (is x) x) (last_of-append is xs more p found)

-- the last one that carries a token is the last of these operations, which are of one document
record IsLast (replica token doc : ℕ) (ops : List Op) : Type 0 where
  pub front : List Op
  pub op : Op
  pub found : last_of (carries replica token) ops ≡ Some (front, op)
  pub whole : front ++ op ∷ [] ≡ ops
  pub of_doc : op.doc ≡ doc

numbered_last : (replica doc token : ℕ) (given : Option ℕ) (counter : ℕ) (clock : List (ℕ × ℕ)) (b : Body) (bs : List Body)
    → is_token token given ≡ true → IsLast replica token doc (numbered replica doc given counter clock (b ∷ bs))
numbered_last replica doc token given counter clock b [] meant = record {
  front = [];
  op = record { id = record { counter = counter; replica = replica }; doc = doc; token = given; deps = clock; body = b };
  found = rw (eq-eqb replica replica refl, meant) refl;
  whole = refl;
  of_doc = refl;
}
numbered_last replica doc token given counter clock b (next ∷ bs) meant =
    let op : Op = record { id = record { counter = counter; replica = replica }; doc = doc; token = given; deps = clock; body = b } in
    let rest = numbered_last replica doc token given (counter + 1) (advanced clock replica) next bs meant in
    record {
      front = op ∷ rest.front;
      op = rest.op;
      found = ap (or_here (carries replica token op) op) rest.found;
      whole = ap (λ ops. op ∷ ops) rest.whole;
      of_doc = rest.of_doc;
    }

-- its place behind others
place_last : (replica token doc : ℕ) (ops more : List Op) (place : Place) → IsLast replica token doc more → place.end ≡ length (ops ++ more)
    → place.rev ≡ rev (ops ++ more) doc → option_map place_at (last_of (carries replica token) (ops ++ more)) ≡ Some place
place_last replica token doc ops more place last end revs =
    let whole : (ops ++ last.front) ++ last.op ∷ [] ≡ ops ++ more = append_assoc ops last.front (last.op ∷ []) ∙ ap (λ rest. ops ++ rest) last.whole in
    let long : length (ops ++ last.front) + 1 ≡ place.end =
    sym (length-append (ops ++ last.front) (last.op ∷ [])) ∙ ap (λ (all : List Op). length all) whole ∙ sym end in
    let counted : rev ((ops ++ last.front) ++ last.op ∷ []) last.op.doc ≡ place.rev =
    ap (λ all. rev all last.op.doc) whole ∙ ap (rev (ops ++ more)) last.of_doc ∙ sym revs in
    rw (last_of-append (carries replica token) ops more (last.front, last.op) last.found) (rw (long, counted) refl)

-- what is numbered with a token has its place kept for it
pub tokens_numbered : (old new : List (ℕ × Place)) (replica doc : ℕ) (given : Option ℕ) (counter : ℕ) (clock : List (ℕ × ℕ)) (bs : List Body) (ops : List Op) (place : Place)
    → 0 < length (numbered replica doc given counter clock bs) → place.end ≡ length (ops ++ numbered replica doc given counter clock bs)
    → place.rev ≡ rev (ops ++ numbered replica doc given counter clock bs) doc → Puts given (Some place) old new → AreTokens old replica ops
    → AreTokens new replica (ops ++ numbered replica doc given counter clock bs)
tokens_numbered old new replica doc given counter clock [] ops place some end revs puts are = absurd (omega arith)
tokens_numbered old new replica doc given counter clock (b ∷ bs) ops place some end revs puts are =
    let more : List Op = numbered replica doc given counter clock (b ∷ bs) in
    record {
      kept = λ q. elim (cases_Bool (is_token q given)) [
        | inl meant ↦
            puts q ∙ rw meant (sym (place_last replica q doc ops more place (numbered_last replica doc q given counter clock b bs meant) end revs))
        | inr other ↦
            let none : last_of (carries replica q) more ≡ None = numbered_other replica q replica doc given counter clock (b ∷ bs) other in
            puts q ∙ rw other (are.kept q ∙ ap (option_map place_at) (sym (last_of-behind (carries replica q) ops more none)))
      ];
    }
