-- The numbers that a session is told rise.
use Rattle.std.proofs.Common.{◌≡◌, ℕ, Bool, true, false, List, [], ◌∷◌, Option, Some, if◌then◌else◌, refl}
use Rattle.watch_lines.specs.declared.source.Next.{Next}
use Rattle.watch_lines.specs.declared.source.Next.TheVariants as next
use Rattle.watch_lines.specs.Telling.{is_above, told_behind, Rises}

by_above : (last : Option ℕ) (rev : ℕ) (above : Bool) (xs ys : List ℕ) → is_above rev last ≡ above → Rises (Some rev) xs → Rises last ys
    → Rises last (if above then rev ∷ xs else ys)
by_above last rev true xs ys is more rest = (is, more)
by_above last rev false xs ys is more rest = rest

-- whatever a source gives, what is told of it rises
pub told_rises : (last : Option ℕ) (given : List Next) → Rises last (told_behind last given)
told_rises last [] = tt
told_rises last (next.Rev rev ∷ more) =
    by_above last rev (is_above rev last) _ _ refl (told_rises (Some rev) more) (told_rises last more)
told_rises last (next.Quiet ∷ more) = told_rises last more
told_rises last (next.Failed ∷ more) = told_rises last more
told_rises last (next.Closed ∷ more) = told_rises last more
