-- What is told when a source of several documents gives one thing more.
use Rattle.std.proofs.Common.{◌≡◌, ℕ, ◌==◌, Bool, true, false, List, [], ◌∷◌, ◌++◌, Option, None, Some, if◌then◌else◌}
use Rattle.std.proofs.Common.{refl, sym, ap, ◌∙◌, append_assoc, append-nil}
use Rattle.std.specs.Prelude.{⊤}
use Rattle.std.specs.Io.KnownBytes.{Appends}
use Rattle.session_lines.specs.Saying.{said_refused, said_watched}
use Rattle.session_lines.specs.declared.refusal.Refusal.TheVariants as refusal
use Rattle.watch_lines.specs.Telling.{is_above}
use Rattle.watch_lines.specs.TellingSeveral.{GaveOf, Told, with_told, told_after, none_told, lines_of, fault_of, told_of, IsOverOf}
use Rattle.watch_lines.specs.declared.several_source.NextOf.{NextOf}
use Rattle.watch_lines.specs.declared.several_source.NextOf.TheVariants as next

-- nothing of it is an end
abbrev pub GoesOnOf : List NextOf → Type 0
GoesOnOf [] = ⊤
GoesOnOf (next.Rev doc rev ∷ more) = GoesOnOf more
GoesOnOf (next.Quiet ∷ more) = GoesOnOf more
GoesOnOf (next.Failed ∷ more) = ⊥
GoesOnOf (next.Closed ∷ more) = ⊥

-- of each document the number that was told last
abbrev pub last_after : (ℕ → Option ℕ) → List NextOf → ℕ → Option ℕ
last_after last [] = last
last_after last (next.Rev doc rev ∷ more) =
    if is_above rev (last doc) then last_after (with_told last doc rev) more else last_after last more
last_after last (next.Quiet ∷ more) = last_after last more
last_after last (next.Failed ∷ more) = last_after last more
last_after last (next.Closed ∷ more) = last_after last more

pub GaveOf-snoc : {S : Type 0} (gives : S → NextOf → S → Type 0) (old between new : S) (xs : List NextOf) (n : NextOf)
    → GaveOf gives old xs between → gives between n new → GaveOf gives old (xs ++ n ∷ []) new
GaveOf-snoc gives old between new [] n same one = (new, rw (← same) one, refl)
GaveOf-snoc gives old between new (x ∷ xs) n (s, first, more) one = (s, first, GaveOf-snoc gives s between new xs n more one)

-- a choice of lists, each of which is one list and then another
told_either : (b : Bool) (t : Told) (n : NextOf) (xs ys : List Told) (l m : ℕ → Option ℕ) (all_above all : List Told)
    → all_above ≡ xs ++ told_after l (n ∷ []) → all ≡ ys ++ told_after m (n ∷ [])
    → (if b then t ∷ all_above else all) ≡ (if b then t ∷ xs else ys) ++ told_after (if b then l else m) (n ∷ [])
told_either true t n xs ys l m all_above all e f = ap (λ l. t ∷ l) e
told_either false t n xs ys l m all_above all e f = f

told-snoc : (last : ℕ → Option ℕ) (xs : List NextOf) (n : NextOf)
    → told_after last (xs ++ n ∷ []) ≡ told_after last xs ++ told_after (last_after last xs) (n ∷ [])
told-snoc last [] n = refl
told-snoc last (next.Rev doc rev ∷ xs) n =
    told_either (is_above rev (last doc)) (record { doc = doc; rev = rev }) n _ _ _ _ _ _
    (told-snoc (with_told last doc rev) xs n) (told-snoc last xs n)
told-snoc last (next.Quiet ∷ xs) n = told-snoc last xs n
told-snoc last (next.Failed ∷ xs) n = told-snoc last xs n
told-snoc last (next.Closed ∷ xs) n = told-snoc last xs n

last_either : (b : Bool) (n : NextOf) (l m all_above all : ℕ → Option ℕ)
    → all_above ≡ last_after l (n ∷ []) → all ≡ last_after m (n ∷ [])
    → (if b then all_above else all) ≡ last_after (if b then l else m) (n ∷ [])
last_either true n l m all_above all e f = e
last_either false n l m all_above all e f = f

last-snoc : (last : ℕ → Option ℕ) (xs : List NextOf) (n : NextOf)
    → last_after last (xs ++ n ∷ []) ≡ last_after (last_after last xs) (n ∷ [])
last-snoc last [] n = refl
last-snoc last (next.Rev doc rev ∷ xs) n =
    last_either (is_above rev (last doc)) n _ _ _ _ (last-snoc (with_told last doc rev) xs n) (last-snoc last xs n)
last-snoc last (next.Quiet ∷ xs) n = last-snoc last xs n
last-snoc last (next.Failed ∷ xs) n = last-snoc last xs n
last-snoc last (next.Closed ∷ xs) n = last-snoc last xs n

goes-snoc : (xs : List NextOf) (n : NextOf) → GoesOnOf xs → GoesOnOf (n ∷ []) → GoesOnOf (xs ++ n ∷ [])
goes-snoc [] n going on = on
goes-snoc (next.Rev doc rev ∷ xs) n going on = goes-snoc xs n going on
goes-snoc (next.Quiet ∷ xs) n going on = goes-snoc xs n going on
goes-snoc (next.Failed ∷ xs) n going on = absurd going
goes-snoc (next.Closed ∷ xs) n going on = absurd going

pub over-of-snoc : (xs : List NextOf) (n : NextOf) → GoesOnOf xs → IsOverOf (n ∷ []) → IsOverOf (xs ++ n ∷ [])
over-of-snoc [] n going over = over
over-of-snoc (next.Rev doc rev ∷ xs) n going over = over-of-snoc xs n going over
over-of-snoc (next.Quiet ∷ xs) n going over = over-of-snoc xs n going over
over-of-snoc (next.Failed ∷ xs) n going over = absurd going
over-of-snoc (next.Closed ∷ xs) n going over = absurd going

fault-snoc : (xs ys : List NextOf) → GoesOnOf xs → fault_of (xs ++ ys) ≡ fault_of ys
fault-snoc [] ys going = refl
fault-snoc (next.Rev doc rev ∷ xs) ys going = fault-snoc xs ys going
fault-snoc (next.Quiet ∷ xs) ys going = fault-snoc xs ys going
fault-snoc (next.Failed ∷ xs) ys going = absurd going
fault-snoc (next.Closed ∷ xs) ys going = absurd going

no_fault : (xs : List NextOf) → GoesOnOf xs → fault_of xs ≡ []
no_fault [] going = refl
no_fault (next.Rev doc rev ∷ xs) going = no_fault xs going
no_fault (next.Quiet ∷ xs) going = no_fault xs going
no_fault (next.Failed ∷ xs) going = absurd going
no_fault (next.Closed ∷ xs) going = absurd going

lines-append : (xs ys : List Told) → lines_of (xs ++ ys) ≡ lines_of xs ++ lines_of ys
lines-append [] ys = refl
lines-append (t ∷ xs) ys =
    ap (λ l. said_watched t.doc t.rev ++ l) (lines-append xs ys) ∙ sym (append_assoc (said_watched t.doc t.rev) (lines_of xs) (lines_of ys))

-- what is told of what goes on
told_going : (xs : List NextOf) → GoesOnOf xs → told_of xs ≡ lines_of (told_after none_told xs)
told_going xs going = rw (no_fault xs going) (append-nil _)

-- what is told of one thing more
told_more : (xs : List NextOf) (n : NextOf) → GoesOnOf xs
    → told_of (xs ++ n ∷ []) ≡ told_of xs ++ (lines_of (told_after (last_after none_told xs) (n ∷ [])) ++ fault_of (n ∷ []))
told_more xs n going =
    let numbers : lines_of (told_after none_told (xs ++ n ∷ []))
    ≡ lines_of (told_after none_told xs) ++ lines_of (told_after (last_after none_told xs) (n ∷ []))
    = ap lines_of (told-snoc none_told xs n) ∙ lines-append (told_after none_told xs) (told_after (last_after none_told xs) (n ∷ [])) in
    rw (numbers, fault-snoc xs (n ∷ []) going, told_going xs going)
    (append_assoc (lines_of (told_after none_told xs)) (lines_of (told_after (last_after none_told xs) (n ∷ []))) (fault_of (n ∷ [])))

-- a source has given these and goes on, of which these numbers were told last
pub record GoingOf {S : Type 0} (gives : S → NextOf → S → Type 0) (old : S) (given : List NextOf) (last : ℕ → Option ℕ) (new : S) : Type 0 where
  pub run : GaveOf gives old given new
  pub last_is : (doc : ℕ) → last doc ≡ last_after none_told given doc
  pub goes_on : GoesOnOf given

module _ {S : Type 0} (gives : S → NextOf → S → Type 0) (old between new : S) (given : List NextOf) (last : ℕ → Option ℕ) where
  -- it gives one thing more, after which these numbers were told last
  going_more : (n : NextOf) (now : ℕ → Option ℕ) → GoesOnOf (n ∷ [])
      → ((doc : ℕ) → now doc ≡ last_after (last_after none_told given) (n ∷ []) doc)
      → GoingOf gives old given last between → gives between n new → GoingOf gives old (given ++ n ∷ []) now new
  going_more n now goes is going one =
      record {
        run = GaveOf-snoc gives old between new given n going.run one;
        last_is = λ doc. is doc ∙ sym (ap (λ (l : ℕ → Option ℕ). l doc) (last-snoc none_told given n));
        goes_on = goes-snoc given n going.goes_on goes;
      }

  -- it gives a number above that of its document
  pub going_above : (doc rev : ℕ) (now : ℕ → Option ℕ) → is_above rev (last doc) ≡ true
      → ((other : ℕ) → now other ≡ with_told last doc rev other)
      → GoingOf gives old given last between → gives between (next.Rev doc rev) new
      → GoingOf gives old (given ++ next.Rev doc rev ∷ []) now new
  going_above doc rev now above is going one =
      let here : is_above rev (last_after none_told given doc) ≡ true = rw (← going.last_is doc) above in
      going_more (next.Rev doc rev) now tt (λ other. rw here (is other ∙ ap (λ l. if doc == other then Some rev else l) (going.last_is other))) going one

  pub told_above : (doc rev : ℕ) → is_above rev (last doc) ≡ true → GoingOf gives old given last between
      → told_of (given ++ next.Rev doc rev ∷ []) ≡ told_of given ++ said_watched doc rev
  told_above doc rev above going =
      let here : is_above rev (last_after none_told given doc) ≡ true = rw (← going.last_is doc) above in
      rw (told_more given (next.Rev doc rev) going.goes_on, here)
      (ap (λ l. told_of given ++ l) (append-nil _ ∙ append-nil (said_watched doc rev)))

  -- it gives a number that isn't above that
  pub going_not_above : (doc rev : ℕ) → is_above rev (last doc) ≡ false → GoingOf gives old given last between
      → gives between (next.Rev doc rev) new → GoingOf gives old (given ++ next.Rev doc rev ∷ []) last new
  going_not_above doc rev above going one =
      let here : is_above rev (last_after none_told given doc) ≡ false = rw (← going.last_is doc) above in
      going_more (next.Rev doc rev) last tt (λ other. rw here (going.last_is other)) going one

  pub told_not_above : (doc rev : ℕ) → is_above rev (last doc) ≡ false → GoingOf gives old given last between
      → told_of (given ++ next.Rev doc rev ∷ []) ≡ told_of given
  told_not_above doc rev above going =
      let here : is_above rev (last_after none_told given doc) ≡ false = rw (← going.last_is doc) above in
      rw (told_more given (next.Rev doc rev) going.goes_on, here) (append-nil (told_of given))

  -- it gives nothing so far
  pub going_quiet : GoingOf gives old given last between → gives between next.Quiet new
      → GoingOf gives old (given ++ next.Quiet ∷ []) last new
  going_quiet going one = going_more next.Quiet last tt going.last_is going one

  pub told_quiet : GoingOf gives old given last between → told_of (given ++ next.Quiet ∷ []) ≡ told_of given
  told_quiet going = told_more given next.Quiet going.goes_on ∙ append-nil (told_of given)

  -- it gives an end
  pub gave_end : (n : NextOf) → GoingOf gives old given last between → gives between n new → GaveOf gives old (given ++ n ∷ []) new
  gave_end n going one = GaveOf-snoc gives old between new given n going.run one

  pub told_failed : GoingOf gives old given last between
      → told_of (given ++ next.Failed ∷ []) ≡ told_of given ++ said_refused refusal.Failed
  told_failed going = told_more given next.Failed going.goes_on

  pub told_closed : GoingOf gives old given last between → told_of (given ++ next.Closed ∷ []) ≡ told_of given
  told_closed going = told_more given next.Closed going.goes_on ∙ append-nil (told_of given)

-- nothing was given, nothing is kept and nothing was told
pub begun : {S : Type 0} (gives : S → NextOf → S → Type 0) (source : S) (last : ℕ → Option ℕ) → ((doc : ℕ) → last doc ≡ None) → (a : Option (List ℕ))
    → (given : List NextOf) × GoingOf gives source given last source × Appends a a (told_of given)
begun gives source last none None = ([], record { run = refl; last_is = none; goes_on = tt }, tt)
begun gives source last none (Some bytes) = ([], record { run = refl; last_is = none; goes_on = tt }, sym (append-nil bytes))

-- a number is above the one told last, as it was looked up
pub newer_of : (told copied : Option ℕ) (rev : ℕ) (b : Bool) → copied ≡ told → b ≡ is_above rev copied → b ≡ true → is_above rev told ≡ true
newer_of told copied rev b same is above = rw same at (sym is ∙ above)
