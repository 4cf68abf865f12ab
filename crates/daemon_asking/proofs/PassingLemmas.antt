-- Answers that are passed on one after another.
use Rattle.std.proofs.Common.{◌≡◌, ℕ, List, [], ◌++◌, Option, None, Some, append-nil, append_assoc, sym, ap, ◌∙◌, refl}
use Rattle.std.specs.Io.KnownBytes.{Appends, Consumes}
use Rattle.daemon_asking.specs.Passing.{Passes}

none_taken : (a : Option (List ℕ)) → Consumes a a []
none_taken None = tt
none_taken (Some xs) = refl

none_put : (a : Option (List ℕ)) → Appends a a []
none_put None = tt
none_put (Some xs) = sym (append-nil xs)

more_taken : (a b c : Option (List ℕ)) (xs ys : List ℕ) → Consumes a b xs → Consumes b c ys → Consumes a c (xs ++ ys)
more_taken None b c xs ys p q = tt
more_taken (Some us) None c xs ys p q = absurd p
more_taken (Some us) (Some vs) None xs ys p q = absurd q
more_taken (Some us) (Some vs) (Some ws) xs ys p q = p ∙ ap (λ l. xs ++ l) q ∙ sym (append_assoc xs ys ws)

more_put : (a b c : Option (List ℕ)) (xs ys : List ℕ) → Appends a b xs → Appends b c ys → Appends a c (xs ++ ys)
more_put None b c xs ys p q = tt
more_put (Some us) None c xs ys p q = absurd p
more_put (Some us) (Some vs) None xs ys p q = absurd q
more_put (Some us) (Some vs) (Some ws) xs ys p q = q ∙ ap (λ l. l ++ ys) p ∙ append_assoc us xs ys

-- nothing is passed on
pub passes_none : (a b : Option (List ℕ)) → Passes a a b b
passes_none a b = record { bytes = []; taken = none_taken a; put = none_put b }

-- some bytes, and then others
pub passes_more : (a b c x y z : Option (List ℕ)) → Passes a b x y → Passes b c y z → Passes a c x z
passes_more a b c x y z p q = record {
  bytes = p.bytes ++ q.bytes;
  taken = more_taken a b c p.bytes q.bytes p.taken q.taken;
  put = more_put x y z p.bytes q.bytes p.put q.put;
}
