-- What is kept for a token, and what for the others.
use Rattle.std.proofs.Common.{◌≡◌, ℕ, true, cond, inl, inr, List, [], ◌∷◌, ◌++◌}
use Rattle.std.proofs.Common.{Option, Some, None, ap, refl, sym, ◌∙◌}
use Rattle.std.specs.BTreeMap.{is_at}
use Rattle.std.specs.Option.{option_map}
use Rattle.std.specs.Ordering.{nat_cmp}
use Rattle.std.specs.Prelude.{◌≢◌, IfSome, IsSome}
use Rattle.std.proofs.lemmas.Bool.{cases_Bool, eq-eqb, ne_eqb}
use Rattle.op_model.specs.declared.op.Op.{Op}
use Rattle.op_model.specs.Tokens.{last_of, is_token, carries}
use Rattle.model_laws.proofs.LastOf.{last_of-here, last_of-behind}
use Rattle.edit_tokens.specs.declared.place.Place.{Place}
use Rattle.edit_tokens.specs.Places.{place_of, place_at, Puts, AreTokens}
use Rattle.op_model.proofs.QueryLemmas.{found_at}

-- a map that has one token more, or one less
pub puts_one : (old new : List (ℕ × Place)) (token : ℕ) (place : Option Place)
    → ((other : ℕ) → place_of new other ≡ cond (is_at (nat_cmp token) other) place (place_of old other)) → Puts (Some token) place old new
puts_one old new token place updates = λ other. updates other ∙ ap (λ here. cond here place (place_of old other)) (found_at token other)

-- an empty list has no tokens
pub no_tokens : (replica : ℕ) → AreTokens [] replica []
no_tokens replica = record { kept = λ q. refl }

-- an operation that isn't the replica's own leaves the tokens
pub tokens_foreign : (places : List (ℕ × Place)) (replica : ℕ) (ops : List Op) (op : Op) → op.id.replica ≢ replica → AreTokens places replica ops
    → AreTokens places replica (ops ++ op ∷ [])
tokens_foreign places replica ops op foreign are = record {
  kept = λ q.
      let none : last_of (carries replica q) (op ∷ []) ≡ None = rw (ne_eqb op.id.replica replica foreign) refl in
      are.kept q ∙ ap (option_map place_at) (sym (last_of-behind (carries replica q) ops (op ∷ []) none));
}

-- an own operation has its place kept for its token
pub tokens_own : (old new : List (ℕ × Place)) (replica : ℕ) (ops : List Op) (op : Op) (place : Place) → op.id.replica ≡ replica
    → place ≡ place_at (ops, op) → Puts op.token (Some place) old new → AreTokens old replica ops → AreTokens new replica (ops ++ op ∷ [])
tokens_own old new replica ops op place own is_place puts are = record {
  kept = λ q. elim (cases_Bool (is_token q op.token)) [
    | inl meant ↦
        let is : carries replica q op ≡ true = rw (eq-eqb op.id.replica replica own, meant) refl in
        puts q ∙ rw (meant, last_of-here (carries replica q) ops op is, is_place) refl
    | inr other ↦
        let none : last_of (carries replica q) (op ∷ []) ≡ None = rw (eq-eqb op.id.replica replica own, other) refl in
        puts q ∙ rw other (are.kept q ∙ ap (option_map place_at) (sym (last_of-behind (carries replica q) ops (op ∷ []) none)))
  ];
}

-- a place that is kept for a token is there
pub kept_there : (old new : List (ℕ × Place)) (token : Option ℕ) (place : Place) → Puts token (Some place) old new
    → IfSome token (λ t. IsSome (place_of new t))
kept_there old new None place puts = tt
kept_there old new (Some t) place puts = rw (puts t, eq-eqb t t refl) refl
