-- What a session is told of what a source of several documents gave.
use Rattle.std.specs.Prelude.{◌≡◌, ⊤, ℕ, ◌==◌, List, [], ◌∷◌, ◌++◌, Option, None, Some, if◌then◌else◌}
use Rattle.session_lines.specs.Saying.{said_refused, said_watched}
use Rattle.session_lines.specs.declared.refusal.Refusal.TheVariants as refusal
use Rattle.watch_lines.specs.Telling.{is_above}
use Rattle.watch_lines.specs.declared.several_source.NextOf.{NextOf}
use Rattle.watch_lines.specs.declared.several_source.NextOf.TheVariants as next
use Rattle.watch_lines.specs.declared.source.Next.{Next}
use Rattle.watch_lines.specs.declared.source.Next.TheVariants as alone

-- a source gave these, one after the other
abbrev pub GaveOf : {S : Type 0} → (S → NextOf → S → Type 0) → S → List NextOf → S → Type 0
GaveOf gives old [] new = new ≡ old
GaveOf {S} gives old (n ∷ more) new = (between : S) × gives old n between × GaveOf gives between more new

-- a number of a document's settled operations
pub record Told : Type 0 where
  pub doc : ℕ
  pub rev : ℕ

-- of each document the number that was told last, once this one of this document was told
abbrev pub with_told : (ℕ → Option ℕ) → ℕ → ℕ → ℕ → Option ℕ
with_told last doc rev other = if doc == other then Some rev else last other

-- the numbers that are told, where these were told last: each that is above the one of its document told before
abbrev pub told_after : (ℕ → Option ℕ) → List NextOf → List Told
told_after last [] = []
told_after last (next.Rev doc rev ∷ more) =
    if is_above rev (last doc) then record { doc = doc; rev = rev } ∷ told_after (with_told last doc rev) more else told_after last more
told_after last (next.Quiet ∷ more) = told_after last more
told_after last (next.Failed ∷ more) = told_after last more
told_after last (next.Closed ∷ more) = told_after last more

-- nothing was told of any document
abbrev pub none_told : ℕ → Option ℕ
none_told doc = None

-- the lines of these numbers, each with its document
abbrev pub lines_of : List Told → List ℕ
lines_of [] = []
lines_of (t ∷ more) = said_watched t.doc t.rev ++ lines_of more

-- the refusal, where nothing more is settled
abbrev pub fault_of : List NextOf → List ℕ
fault_of [] = []
fault_of (next.Failed ∷ more) = said_refused refusal.Failed
fault_of (next.Rev doc rev ∷ more) = fault_of more
fault_of (next.Quiet ∷ more) = fault_of more
fault_of (next.Closed ∷ more) = fault_of more

-- all that a session is told of what a source gave
abbrev pub told_of : List NextOf → List ℕ
told_of given = lines_of (told_after none_told given) ++ fault_of given

-- nothing more is settled, or nobody is to be told any more
abbrev pub IsOverOf : List NextOf → Type 0
IsOverOf [] = ⊥
IsOverOf (next.Failed ∷ []) = ⊤
IsOverOf (next.Closed ∷ []) = ⊤
IsOverOf (next.Rev doc rev ∷ more) = IsOverOf more
IsOverOf (next.Quiet ∷ more) = IsOverOf more
IsOverOf (next.Failed ∷ n ∷ more) = ⊥
IsOverOf (next.Closed ∷ n ∷ more) = ⊥

-- what a source gave of one document
abbrev pub given_alone : ℕ → List NextOf → List Next
given_alone doc [] = []
given_alone doc (next.Rev of rev ∷ more) = if of == doc then alone.Rev rev ∷ given_alone doc more else given_alone doc more
given_alone doc (next.Quiet ∷ more) = given_alone doc more
given_alone doc (next.Failed ∷ more) = given_alone doc more
given_alone doc (next.Closed ∷ more) = given_alone doc more

-- the numbers that are told of one document
abbrev pub revs_alone : ℕ → List Told → List ℕ
revs_alone doc [] = []
revs_alone doc (t ∷ more) = if t.doc == doc then t.rev ∷ revs_alone doc more else revs_alone doc more
