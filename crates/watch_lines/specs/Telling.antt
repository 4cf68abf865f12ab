-- What a session is told of what a source gave.
use Rattle.std.specs.Prelude.{◌≡◌, ⊤, ℕ, nat_lt, Bool, true, List, [], ◌∷◌, ◌++◌, Option, None, Some, if◌then◌else◌}
use Rattle.session_lines.specs.Saying.{said_edited, said_refused}
use Rattle.session_lines.specs.declared.refusal.Refusal.TheVariants as refusal
use Rattle.watch_lines.specs.declared.source.Next.{Next}
use Rattle.watch_lines.specs.declared.source.Next.TheVariants as next

-- a source gave these, one after the other
abbrev pub Gave : {S : Type 0} → (S → Next → S → Type 0) → S → List Next → S → Type 0
Gave gives old [] new = new ≡ old
Gave {S} gives old (n ∷ more) new = (between : S) × gives old n between × Gave gives between more new

-- a number is above the last one that was told, if any was
abbrev pub is_above : ℕ → Option ℕ → Bool
is_above rev None = true
is_above rev (Some last) = nat_lt last rev

-- the numbers that are told, where this was told last: each that is above the one told before
abbrev pub told_behind : Option ℕ → List Next → List ℕ
told_behind last [] = []
told_behind last (next.Rev rev ∷ more) =
    if is_above rev last then rev ∷ told_behind (Some rev) more else told_behind last more
told_behind last (next.Quiet ∷ more) = told_behind last more
told_behind last (next.Failed ∷ more) = told_behind last more
told_behind last (next.Closed ∷ more) = told_behind last more

-- the lines of these numbers, each as that of an edit that is settled
abbrev pub lines : List ℕ → List ℕ
lines [] = []
lines (rev ∷ revs) = said_edited rev ++ lines revs

-- the refusal, where nothing more is settled
abbrev pub fault : List Next → List ℕ
fault [] = []
fault (next.Failed ∷ more) = said_refused refusal.Failed
fault (next.Rev rev ∷ more) = fault more
fault (next.Quiet ∷ more) = fault more
fault (next.Closed ∷ more) = fault more

-- all that a session is told of what a source gave
abbrev pub told : List Next → List ℕ
told given = lines (told_behind None given) ++ fault given

-- nothing more is settled, or nobody is to be told any more
abbrev pub IsOver : List Next → Type 0
IsOver [] = ⊥
IsOver (next.Failed ∷ []) = ⊤
IsOver (next.Closed ∷ []) = ⊤
IsOver (next.Rev rev ∷ more) = IsOver more
IsOver (next.Quiet ∷ more) = IsOver more
IsOver (next.Failed ∷ n ∷ more) = ⊥
IsOver (next.Closed ∷ n ∷ more) = ⊥

-- each of these numbers is above the one before it, the first above this one, if there is one
abbrev pub Rises : Option ℕ → List ℕ → Type 0
Rises last [] = ⊤
Rises last (rev ∷ revs) = (is_above rev last ≡ true) × Rises (Some rev) revs
