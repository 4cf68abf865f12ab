-- Of each of several documents a session is told what one that watches it alone is told.
use Rattle.std.proofs.Common.{◌≡◌, ℕ, ◌==◌, Bool, true, false, List, [], ◌∷◌, Option, refl, ap, arith}
use Rattle.std.proofs.lemmas.Bool.Decides.{nat_tests}
use Rattle.watch_lines.specs.Telling.{is_above, told_behind}
use Rattle.watch_lines.specs.TellingSeveral.{with_told, told_after, given_alone, revs_alone}
use Rattle.watch_lines.specs.declared.several_source.NextOf.{NextOf}
use Rattle.watch_lines.specs.declared.several_source.NextOf.TheVariants as next

-- a number of this document, or of another one
by_number : (same above : Bool) (doc of rev : ℕ) (last : ℕ → Option ℕ) (more : List NextOf)
    → (of == doc) ≡ same → is_above rev (last of) ≡ above
    → revs_alone doc (told_after (with_told last of rev) more) ≡ told_behind (with_told last of rev doc) (given_alone doc more)
    → revs_alone doc (told_after last more) ≡ told_behind (last doc) (given_alone doc more)
    → revs_alone doc (told_after last (next.Rev of rev ∷ more)) ≡ told_behind (last doc) (given_alone doc (next.Rev of rev ∷ more))
by_number true true doc of rev last more is up told rest =
    let here : of ≡ doc = grind (arith, nat_tests, is) in
    let up_here : is_above rev (last doc) ≡ true = rw (← here) up in
    rw (up, is, up_here) (ap (λ l. rev ∷ l) (rw is at told))
by_number true false doc of rev last more is up told rest =
    let here : of ≡ doc = grind (arith, nat_tests, is) in
    let up_here : is_above rev (last doc) ≡ false = rw (← here) up in
    rw (up, is, up_here) rest
by_number false true doc of rev last more is up told rest = rw (up, is) (rw is at told)
by_number false false doc of rev last more is up told rest = rw (up, is) rest

pub told_alone : (last : ℕ → Option ℕ) (given : List NextOf) (doc : ℕ)
    → revs_alone doc (told_after last given) ≡ told_behind (last doc) (given_alone doc given)
told_alone last [] doc = refl
told_alone last (next.Rev of rev ∷ more) doc =
    by_number (of == doc) (is_above rev (last of)) doc of rev last more refl refl
    (told_alone (with_told last of rev) more doc) (told_alone last more doc)
told_alone last (next.Quiet ∷ more) doc = told_alone last more doc
told_alone last (next.Failed ∷ more) doc = told_alone last more doc
told_alone last (next.Closed ∷ more) doc = told_alone last more doc
