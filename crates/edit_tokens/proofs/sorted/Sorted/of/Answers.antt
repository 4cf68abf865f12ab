use Rattle.std.proofs.Common.{ℕ, rules}
use Rattle.std.proofs.lemmas.List.Sorted.{answers_always, IsNonDecreasingBy-from_sort}
use Rattle.edit_tokens.specs.declared.place.Place.{Place}
use Rattle.edit_tokens.proofs.FoundLemmas.{stable_alike}
use Rattle.edit_tokens.proofs.sorted.Sorted.of.Goals as goal

pub invariant_of-result : goal.invariant_of-result
invariant_of-result c =
    IsNonDecreasingBy-from_sort (λ (e : ℕ × Place). e.0) _
    (c.in_ok-sort_by_key.ensures.sorted (λ (e : ℕ × Place). e.0) (answers_always _ _ _ (λ f a r g h. search rules)))

pub returns : goal.returns
returns c =
    stable_alike c.args.places.items c.sort_by_key.new.self.items
    (c.in_ok-sort_by_key.ensures.stable (λ (e : ℕ × Place). e.0) (answers_always _ _ _ (λ f a r g h. search rules)))
