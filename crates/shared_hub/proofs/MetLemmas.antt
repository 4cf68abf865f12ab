-- The meetings of what commits, beside the books of a locked part.
use Rattle.std.proofs.Common.{◌≡◌, ◌≢◌, ℕ, ◌==◌, Bool, true, false, List, [], ◌∷◌, Some, refl, sym, ap, ◌∙◌, arith}
use Rattle.std.proofs.Common.{slice_get, slice_set, All, Contains, map}
use Rattle.std.proofs.lemmas.Bool.Decides.{nat_tests}
use Rattle.std.proofs.lemmas.List.Elements.{All-cons, All-nil, All-weaker, Contains-append_left, Contains-append_right, Contains-push}
use Rattle.disk_trait.specs.declared.facts.DiskFacts.{Ghosts}
use Rattle.hub_parts.specs.Fitting.{FitTogether, Side, side_of}
use Rattle.hub_parts.specs.Flusher.{FlusherHeld}
use Rattle.hub_parts.specs.Locked.{IsLocked, LockedHeld}
use Rattle.shared_hub.specs.Books.{PassHeld}
use Rattle.shared_hub.specs.Committing.{CommitterHeld, FitsNewest, IsCommitter, Meeting, WasMeeting, meetings_of, with_meeting, with_met}
use Rattle.shared_hub.specs.Going.{Goes}
use Rattle.shared_hub.specs.Moments.{HasMet, StaysFit, WasSettledAt}
use Rattle.shared_hub.proofs.BookLemmas.{put_there, put_elsewhere, set_there, set_elsewhere}
use Rattle.shared_hub.proofs.GoingLemmas.{goes_behind}

-- the first element is in a list
first_among : {A : Type 0} (x : A) (xs : List A) → Contains (x ∷ xs) x
first_among x xs = Contains-append_left (x ∷ []) xs x (Contains-push [] x)

-- what was settled after one of some meetings was so after one of more
more_meetings : (l : LockedHeld) (meetings : List LockedHeld) (m : LockedHeld) → WasSettledAt meetings m → WasSettledAt (l ∷ meetings) m
more_meetings l meetings m was = record {
  meeting = was.meeting;
  among = Contains-append_right (l ∷ []) meetings was.meeting was.among;
  settled = was.settled;
}

-- the moments in the books where one more is entered: as many were settled at each as after one of the meetings
known_entered : (l : LockedHeld) (books : List (List LockedHeld)) (n : ℕ) (before met : List LockedHeld)
    → ((k : ℕ) (moments : List LockedHeld) → slice_get books k ≡ Some moments → All (WasSettledAt met) moments)
    → slice_get books n ≡ Some before → WasSettledAt met l → (k : ℕ) (moments : List LockedHeld)
    → slice_get (slice_set books n (l ∷ before)) k ≡ Some moments → All (WasSettledAt met) moments
known_entered l books n before met known there now k moments found = by_test (n == k) refl
  where
    by_test : (b : Bool) → (n == k) ≡ b → All (WasSettledAt met) moments
    by_test true is =
        let same : n ≡ k = grind (arith, nat_tests, is) in
        let at : slice_get (slice_set books k (l ∷ before)) k ≡ Some moments = rw same at found in
        rw (put_there books k (l ∷ before) moments at) (All-cons (WasSettledAt met) l before now (known n before there))
    by_test false is =
        let other : k ≢ n = λ same. absurd (grind (arith, nat_tests, is, same)) in
        known k moments (put_elsewhere books n k (l ∷ before) moments other found)

-- after a meeting that is entered
pub met_entered : (l : LockedHeld) (books : List (List LockedHeld)) (before : List LockedHeld)
    → ((k : ℕ) (moments : List LockedHeld) → slice_get books k ≡ Some moments → All (WasSettledAt before) moments)
    → slice_get books 0 ≡ Some before → HasMet l (slice_set books 0 (l ∷ before))
met_entered l books before known there = record {
  newest = l;
  older = before;
  there = set_there books 0 (l ∷ before) before there;
  settled = refl;
  fits = λ side fit. fit;
  known = known_entered l books 0 before (l ∷ before)
      (λ k moments found. All-weaker (WasSettledAt before) (WasSettledAt (l ∷ before)) (more_meetings l before) moments (known k moments found)) there
      (record { meeting = l; among = first_among l before; settled = refl });
}

-- book 0 has the moments of the meetings
known_there : (l : LockedHeld) (books : List (List LockedHeld)) (before : List LockedHeld) → HasMet l books → slice_get books 0 ≡ Some before
    → (k : ℕ) (moments : List LockedHeld) → slice_get books k ≡ Some moments → All (WasSettledAt before) moments
known_there l books before met there k moments found =
    let all = met.there in
    let same : before ≡ met.newest ∷ met.older = cc in
    rw same (met.known k moments found)

-- so as many operations were settled at each moment of a book as after one of them
pub settled_there : (l : LockedHeld) (books : List (List LockedHeld)) (n : ℕ) (moments : List LockedHeld) → HasMet l books
    → slice_get books n ≡ Some moments → (meetings : List LockedHeld) → slice_get books 0 ≡ Some meetings → All (WasSettledAt meetings) moments
settled_there l books n moments met found meetings there = known_there l books meetings met there n moments found

-- where what a later meeting left is entered in its place
pub met_later : (l later : LockedHeld) (books : List (List LockedHeld)) (before : List LockedHeld) → HasMet l books
    → slice_get books 0 ≡ Some before → HasMet later (slice_set books 0 (later ∷ before))
met_later l later books before met there = met_entered later books before (known_there l books before met there) there

-- where this moment is entered in any book
pub met_noted : (l : LockedHeld) (books : List (List LockedHeld)) (n : ℕ) (before : List LockedHeld) → HasMet l books
    → slice_get books n ≡ Some before → HasMet l (slice_set books n (l ∷ before))
met_noted l books n before met there = by_test (n == 0) refl
  where
    by_test : (b : Bool) → (n == 0) ≡ b → HasMet l (slice_set books n (l ∷ before))
    by_test true is =
        let none : n ≡ 0 = grind (arith, nat_tests, is) in
        let at : slice_get books 0 ≡ Some before = rw none at there in
        rw none (met_later l l books before met at)
    by_test false is =
        let other : 0 ≢ n = λ same. absurd (grind (arith, nat_tests, is, same)) in
        record {
          newest = met.newest;
          older = met.older;
          there = set_elsewhere books n 0 (l ∷ before) (met.newest ∷ met.older) other met.there;
          settled = met.settled;
          fits = met.fits;
          known = known_entered l books n before (met.newest ∷ met.older) met.known there
              (record { meeting = met.newest; among = first_among met.newest met.older; settled = met.settled });
        }

-- after a step that settles nothing
pub met_stays : (l later : LockedHeld) (books : List (List LockedHeld)) → HasMet l books → later.replica.settled ≡ l.replica.settled
    → StaysFit l later → HasMet later books
met_stays l later books met same fits = record {
  newest = met.newest;
  older = met.older;
  there = met.there;
  settled = same ∙ met.settled;
  fits = λ side fit. fits side (met.fits side fit);
  known = met.known;
}

-- a flusher that fits what the newest meeting left fits what stands under the lock
pub newest_fits : {D : Type 0} (l : LockedHeld) (books : List (List LockedHeld)) (met : List (Meeting D)) (side : Side) → HasMet l books
    → slice_get books 0 ≡ Some (map (λ (m : Meeting D). m.locked) met) → FitsNewest met side → FitTogether l side
newest_fits l books [] side has there never = absurd never
newest_fits l books (m ∷ older) side has there fits =
    let a = has.there in
    let b : slice_get books 0 ≡ Some (m.locked ∷ map (λ x. x.locked) older) = there in
    let same : has.newest ≡ m.locked = cc in has.fits side (rw same fits.1)

-- and still fits that after a step of its own that fits wherever it fitted
newest_steps : {D : Type 0} (met : List (Meeting D)) (a b : Side) → ((l : LockedHeld) → IsLocked l → FitTogether l a → FitTogether l b)
    → FitsNewest met a → FitsNewest met b
newest_steps [] a b goes never = absurd never
newest_steps (m ∷ older) a b goes fits = (fits.0, goes m.locked fits.0 fits.1)

-- the flusher has gone on from each meeting
each_goes : {D : Type 0} (facts : Ghosts D) (f g : FlusherHeld D) (met : List (Meeting D)) → Goes facts f g → All (WasMeeting facts f) met
    → All (WasMeeting facts g) met
each_goes facts f g met goes each =
    All-weaker (WasMeeting facts f) (WasMeeting facts g)
    (λ m was. record { sound = was.sound; fits = was.fits; goes = goes_behind facts m.flusher f g was.goes goes }) met each

-- what commits, after a device call
pub steps_on : {D : Type 0} (facts : Ghosts D) (c : CommitterHeld D) (f : FlusherHeld D) → IsCommitter facts c → Goes facts c.flusher f
    → ((l : LockedHeld) → IsLocked l → FitTogether l (side_of c.flusher) → FitTogether l (side_of f)) → IsCommitter facts (record c { flusher = f })
steps_on facts c f kept goes fits = record {
  number = kept.number;
  moments = kept.moments;
  newest = newest_steps c.met (side_of c.flusher) (side_of f) fits kept.newest;
  each = each_goes facts c.flusher f c.met goes kept.each;
}

-- after a meeting
pub meets_on : {D : Type 0} (facts : Ghosts D) (c : CommitterHeld D) (l : LockedHeld) (f : FlusherHeld D) → IsCommitter facts c → IsLocked l
    → FitTogether l (side_of f) → Goes facts c.flusher f → Goes facts f f → IsCommitter facts (with_meeting c l f)
meets_on facts c l f kept sound fits goes rests = record {
  number = kept.number;
  moments = ap (λ moments. l ∷ moments) kept.moments;
  newest = (sound, fits);
  each = All-cons (WasMeeting facts f) (record { locked = l; flusher = f }) c.met (record { sound = sound; fits = fits; goes = rests })
      (each_goes facts c.flusher f c.met goes kept.each);
}

-- and with its first one
pub first_meeting : {D : Type 0} (facts : Ghosts D) (p : PassHeld) (l : LockedHeld) (f : FlusherHeld D) → p.number ≡ 0 → p.moments ≡ l ∷ []
    → IsLocked l → FitTogether l (side_of f) → Goes facts f f
    → IsCommitter facts (with_met f p (f ∷ []))
first_meeting {D} facts p l f number moments sound fits rests =
    let met = ap (λ ms. meetings_of ms (f ∷ [])) moments in record {
      number = number;
      moments = moments ∙ ap (λ (ms : List (Meeting D)). map (λ m. m.locked) ms) (sym met);
      newest = rw met (sound, fits);
      each = rw met (All-cons (WasMeeting facts f) (record { locked = l; flusher = f }) [] (record { sound = sound; fits = fits; goes = rests })
          (All-nil (WasMeeting facts f)));
    }
