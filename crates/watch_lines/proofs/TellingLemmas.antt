-- What is told when a source gives one thing more.
use Rattle.std.proofs.Common.{◌≡◌, ℕ, Bool, true, false, List, [], ◌∷◌, ◌++◌, Option, None, Some, if◌then◌else◌, refl, sym, ap, ◌∙◌, append_assoc, append-nil}
use Rattle.std.specs.Prelude.{⊤}
use Rattle.std.specs.Io.KnownBytes.{Appends}
use Rattle.std.proofs.KnownBytes.{Appends-trans}
use Rattle.byte_streams.specs.Fronts.{AppendsFront}
use Rattle.session_lines.specs.Saying.{said_edited, said_refused}
use Rattle.session_lines.specs.declared.refusal.Refusal.TheVariants as refusal
use Rattle.watch_lines.specs.declared.source.Next.{Next}
use Rattle.watch_lines.specs.declared.source.Next.TheVariants as next
use Rattle.watch_lines.specs.Telling.{Gave, is_above, told_behind, lines, fault, told, IsOver}

-- nothing of it is an end
abbrev pub GoesOn : List Next → Type 0
GoesOn [] = ⊤
GoesOn (next.Rev rev ∷ more) = GoesOn more
GoesOn (next.Quiet ∷ more) = GoesOn more
GoesOn (next.Failed ∷ more) = ⊥
GoesOn (next.Closed ∷ more) = ⊥

-- the number that was told last
abbrev pub last_told : Option ℕ → List Next → Option ℕ
last_told last [] = last
last_told last (next.Rev rev ∷ more) = if is_above rev last then last_told (Some rev) more else last_told last more
last_told last (next.Quiet ∷ more) = last_told last more
last_told last (next.Failed ∷ more) = last_told last more
last_told last (next.Closed ∷ more) = last_told last more

pub Gave-snoc : {S : Type 0} (gives : S → Next → S → Type 0) (old between new : S) (xs : List Next) (n : Next)
    → Gave gives old xs between → gives between n new → Gave gives old (xs ++ n ∷ []) new
Gave-snoc gives old between new [] n same one = (new, rw (← same) one, refl)
Gave-snoc gives old between new (x ∷ xs) n (s, first, more) one = (s, first, Gave-snoc gives s between new xs n more one)

-- a choice of lists, each of which is one list and then another
told_either : (b : Bool) (rev : ℕ) (n : Next) (xs ys : List ℕ) (l m : Option ℕ) (all_above all : List ℕ)
    → all_above ≡ xs ++ told_behind l (n ∷ []) → all ≡ ys ++ told_behind m (n ∷ [])
    → (if b then rev ∷ all_above else all) ≡ (if b then rev ∷ xs else ys) ++ told_behind (if b then l else m) (n ∷ [])
told_either true rev n xs ys l m all_above all e f = ap (λ l. rev ∷ l) e
told_either false rev n xs ys l m all_above all e f = f

pub told-snoc : (last : Option ℕ) (xs : List Next) (n : Next)
    → told_behind last (xs ++ n ∷ []) ≡ told_behind last xs ++ told_behind (last_told last xs) (n ∷ [])
told-snoc last [] n = refl
told-snoc last (next.Rev rev ∷ xs) n =
    told_either (is_above rev last) rev n _ _ _ _ _ _ (told-snoc (Some rev) xs n) (told-snoc last xs n)
told-snoc last (next.Quiet ∷ xs) n = told-snoc last xs n
told-snoc last (next.Failed ∷ xs) n = told-snoc last xs n
told-snoc last (next.Closed ∷ xs) n = told-snoc last xs n

last_either : (b : Bool) (n : Next) (l m all_above all : Option ℕ)
    → all_above ≡ last_told l (n ∷ []) → all ≡ last_told m (n ∷ [])
    → (if b then all_above else all) ≡ last_told (if b then l else m) (n ∷ [])
last_either true n l m all_above all e f = e
last_either false n l m all_above all e f = f

pub last-snoc : (last : Option ℕ) (xs : List Next) (n : Next)
    → last_told last (xs ++ n ∷ []) ≡ last_told (last_told last xs) (n ∷ [])
last-snoc last [] n = refl
last-snoc last (next.Rev rev ∷ xs) n =
    last_either (is_above rev last) n _ _ _ _ (last-snoc (Some rev) xs n) (last-snoc last xs n)
last-snoc last (next.Quiet ∷ xs) n = last-snoc last xs n
last-snoc last (next.Failed ∷ xs) n = last-snoc last xs n
last-snoc last (next.Closed ∷ xs) n = last-snoc last xs n

pub goes-snoc : (xs : List Next) (n : Next) → GoesOn xs → GoesOn (n ∷ []) → GoesOn (xs ++ n ∷ [])
goes-snoc [] n going on = on
goes-snoc (next.Rev rev ∷ xs) n going on = goes-snoc xs n going on
goes-snoc (next.Quiet ∷ xs) n going on = goes-snoc xs n going on
goes-snoc (next.Failed ∷ xs) n going on = absurd going
goes-snoc (next.Closed ∷ xs) n going on = absurd going

pub over-snoc : (xs : List Next) (n : Next) → GoesOn xs → IsOver (n ∷ []) → IsOver (xs ++ n ∷ [])
over-snoc [] n going over = over
over-snoc (next.Rev rev ∷ xs) n going over = over-snoc xs n going over
over-snoc (next.Quiet ∷ xs) n going over = over-snoc xs n going over
over-snoc (next.Failed ∷ xs) n going over = absurd going
over-snoc (next.Closed ∷ xs) n going over = absurd going

pub fault-snoc : (xs ys : List Next) → GoesOn xs → fault (xs ++ ys) ≡ fault ys
fault-snoc [] ys going = refl
fault-snoc (next.Rev rev ∷ xs) ys going = fault-snoc xs ys going
fault-snoc (next.Quiet ∷ xs) ys going = fault-snoc xs ys going
fault-snoc (next.Failed ∷ xs) ys going = absurd going
fault-snoc (next.Closed ∷ xs) ys going = absurd going

no_fault : (xs : List Next) → GoesOn xs → fault xs ≡ []
no_fault [] going = refl
no_fault (next.Rev rev ∷ xs) going = no_fault xs going
no_fault (next.Quiet ∷ xs) going = no_fault xs going
no_fault (next.Failed ∷ xs) going = absurd going
no_fault (next.Closed ∷ xs) going = absurd going

lines-append : (xs ys : List ℕ) → lines (xs ++ ys) ≡ lines xs ++ lines ys
lines-append [] ys = refl
lines-append (x ∷ xs) ys =
    ap (λ l. said_edited x ++ l) (lines-append xs ys) ∙ sym (append_assoc (said_edited x) (lines xs) (lines ys))

-- what is told of what goes on
pub told_going : (xs : List Next) → GoesOn xs → told xs ≡ lines (told_behind None xs)
told_going xs going = rw (no_fault xs going) (append-nil _)

-- what is told of one thing more
pub told_more : (xs : List Next) (n : Next) → GoesOn xs
    → told (xs ++ n ∷ []) ≡ told xs ++ (lines (told_behind (last_told None xs) (n ∷ [])) ++ fault (n ∷ []))
told_more xs n going =
    let numbers : lines (told_behind None (xs ++ n ∷ [])) ≡ lines (told_behind None xs) ++ lines (told_behind (last_told None xs) (n ∷ []))
    = ap lines (told-snoc None xs n) ∙ lines-append (told_behind None xs) (told_behind (last_told None xs) (n ∷ [])) in
    rw (numbers, fault-snoc xs (n ∷ []) going, told_going xs going)
    (append_assoc (lines (told_behind None xs)) (lines (told_behind (last_told None xs) (n ∷ []))) (fault (n ∷ [])))

-- a source has given these and goes on, of which this number was told last
pub record Going {S : Type 0} (gives : S → Next → S → Type 0) (old : S) (given : List Next) (last : Option ℕ) (new : S) : Type 0 where
  pub run : Gave gives old given new
  pub last_is : last ≡ last_told None given
  pub goes_on : GoesOn given

module _ {S : Type 0} (gives : S → Next → S → Type 0) (old between new : S) (given : List Next) (last : Option ℕ) where
  -- it gives one thing more, behind which this number was told last
  going_more : (n : Next) (now : Option ℕ) → GoesOn (n ∷ []) → last_told last (n ∷ []) ≡ now → Going gives old given last between → gives between n new
      → Going gives old (given ++ n ∷ []) now new
  going_more n now goes is going one =
      record {
        run = Gave-snoc gives old between new given n going.run one;
        last_is = sym (last-snoc None given n ∙ ap (λ l. last_told l (n ∷ [])) (sym going.last_is) ∙ is);
        goes_on = goes-snoc given n going.goes_on goes;
      }

  -- it gives a number above that
  pub going_above : (rev : ℕ) → is_above rev last ≡ true → Going gives old given last between → gives between (next.Rev rev) new
      → Going gives old (given ++ next.Rev rev ∷ []) (Some rev) new
  going_above rev above going one = going_more (next.Rev rev) (Some rev) tt (rw above refl) going one

  pub told_above : (rev : ℕ) → is_above rev last ≡ true → Going gives old given last between
      → told (given ++ next.Rev rev ∷ []) ≡ told given ++ said_edited rev
  told_above rev above going =
      rw (told_more given (next.Rev rev) going.goes_on, ← going.last_is, above)
      (ap (λ l. told given ++ l) (append-nil _ ∙ append-nil (said_edited rev)))

  -- it gives a number that isn't above that
  pub going_not_above : (rev : ℕ) → is_above rev last ≡ false → Going gives old given last between → gives between (next.Rev rev) new
      → Going gives old (given ++ next.Rev rev ∷ []) last new
  going_not_above rev above going one = going_more (next.Rev rev) last tt (rw above refl) going one

  pub told_not_above : (rev : ℕ) → is_above rev last ≡ false → Going gives old given last between
      → told (given ++ next.Rev rev ∷ []) ≡ told given
  told_not_above rev above going =
      rw (told_more given (next.Rev rev) going.goes_on, ← going.last_is, above) (append-nil (told given))

  -- it gives nothing so far
  pub going_quiet : Going gives old given last between → gives between next.Quiet new
      → Going gives old (given ++ next.Quiet ∷ []) last new
  going_quiet going one = going_more next.Quiet last tt refl going one

  pub told_quiet : Going gives old given last between → told (given ++ next.Quiet ∷ []) ≡ told given
  told_quiet going = told_more given next.Quiet going.goes_on ∙ append-nil (told given)

-- it gives an end
module _ {S : Type 0} (gives : S → Next → S → Type 0) (old between new : S) (given : List Next) (last : Option ℕ) where
  pub gave_end : (n : Next) → Going gives old given last between → gives between n new → Gave gives old (given ++ n ∷ []) new
  gave_end n going one = Gave-snoc gives old between new given n going.run one

  pub told_failed : Going gives old given last between
      → told (given ++ next.Failed ∷ []) ≡ told given ++ said_refused refusal.Failed
  told_failed going = told_more given next.Failed going.goes_on

  pub told_closed : Going gives old given last between → told (given ++ next.Closed ∷ []) ≡ told given
  told_closed going = told_more given next.Closed going.goes_on ∙ append-nil (told given)

-- known bytes grew by a text, and then by a beginning of the next one
pub front_later : (a b c : Option (List ℕ)) (all front text : List ℕ) → all ≡ front ++ text → Appends a b front → AppendsFront b c text
    → AppendsFront a c all
front_later a b c all front text is before (written, (rest, split), more) = (
  front ++ written,
  (rest, is ∙ ap (λ l. front ++ l) split ∙ sym (append_assoc front written rest)),
  Appends-trans a b c front written before more,
)
