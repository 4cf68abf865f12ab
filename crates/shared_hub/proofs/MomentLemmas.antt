-- Moments that are in a locked part's past, after a step more.
use Rattle.std.proofs.Common.{◌≡◌, ◌≢◌, ℕ, ◌≤◌, ◌==◌, Bool, true, false, List, [], ◌∷◌, ◌++◌, Ok, Err, Some, length}
use Rattle.std.proofs.Common.{refl, sym, ap, ◌∙◌, arith, append_assoc, slice_get, slice_set, All}
use Rattle.std.specs.Prelude.{if◌then◌else◌, Result, OnOk, OnErr}
use Rattle.std.proofs.lemmas.Bool.Decides.{nat_tests}
use Rattle.std.proofs.lemmas.List.{append-nil}
use Rattle.std.proofs.lemmas.List.Elements.{All-cons, All-weaker}
use Rattle.disk_trait.specs.declared.facts.DiskFacts.{Ghosts}
use Rattle.group_commit.specs.declared.error.StoreError.{StoreError}
use Rattle.op_model.specs.Actions.{Asked, made_by_action}
use Rattle.op_model.specs.Held.{ReplicaHeld, with_acked, with_told, with_settled, with_edit, with_merge}
use Rattle.op_model.specs.Machine.{Ticket, after_edit}
use Rattle.op_model.specs.Replay.{edited, merged, settlement}
use Rattle.op_model.specs.declared.op.Op.{Op}
use Rattle.replica_core.specs.Merging.{after_merge}
use Rattle.replica_core.specs.declared.merged.Merged.{Merged}
use Rattle.replica_core.specs.declared.merged.Merged.TheVariants as merged_as
use Rattle.hub_parts.specs.Flusher.{FlusherHeld}
use Rattle.hub_parts.specs.Locked.{IsLocked, LockedHeld}
use Rattle.hub_parts.specs.Meeting.{LeavesBoth}
use Rattle.hub_parts.specs.declared.met.Met.{Met}
use Rattle.hub_parts.specs.declared.met.Met.TheVariants.{Begun, Settled, Nothing}
use Rattle.shared_hub.specs.Books.{BooksHeld, PassHeld, ends_of}
use Rattle.shared_hub.specs.Moments.{AreBooksOf, Follows, IsPastOf, MomentsFit, StaysFit, with_book}
use Rattle.shared_hub.proofs.BookLemmas.{entered_edit, entered_merge, put_there, put_elsewhere}
use Rattle.shared_hub.proofs.MeetLemmas.{meeting_ends}
use Rattle.shared_hub.proofs.MetLemmas.{met_later, met_noted, met_stays}

-- what is held as before follows
pub follows_same : (h later : ReplicaHeld) → later ≡ h → Follows h later
follows_same h later same =
    rw same (record {
      replica = refl;
      opened = refl;
      list = ([], sym (append-nil h.list));
      steps = ([], refl);
      settled = omega arith;
      acked = omega arith;
      told = omega arith;
    })

-- one thing after another
pub follows_behind : (a b c : ReplicaHeld) → Follows a b → Follows b c → Follows a c
follows_behind a b c first second = record {
  replica = second.replica ∙ first.replica;
  opened = second.opened ∙ first.opened;
  list = (
    first.list.0 ++ second.list.0,
    second.list.1 ∙ ap (λ l. l ++ second.list.0) first.list.1 ∙ append_assoc a.list first.list.0 second.list.0,
  );
  steps = (
    second.steps.0 ++ first.steps.0,
    second.steps.1 ∙ ap (λ s. second.steps.0 ++ s) first.steps.1 ∙ sym (append_assoc second.steps.0 first.steps.0 a.steps),
  );
  settled = omega (arith, first.settled, second.settled);
  acked = omega (arith, first.acked, second.acked);
  told = omega (arith, first.told, second.told);
}

-- an edit's step
new_follows : (h : ReplicaHeld) (n : ℕ) (e : Asked) → Follows h (with_edit h n e)
new_follows h n e =
    let all = made_by_action h.list h.replica e in record {
      replica = refl;
      opened = refl;
      list = (all, refl);
      steps = (edited n e (length h.list) (length all) ∷ [], refl);
      settled = omega arith;
      acked = omega arith;
      told = omega arith;
    }

-- what an edit leaves follows, also if it was made before
pub follows_edit : (t : Ticket) (h : ReplicaHeld) (n : ℕ) (e : Asked) → Follows h (after_edit t h n e)
follows_edit t h n e = by_test t.known
  where
    by_test : (known : Bool) → Follows h (if known then h else with_edit h n e)
    by_test true = follows_same h h refl
    by_test false = new_follows h n e

-- and a merge
pub follows_merge : (m : Merged) (h : ReplicaHeld) (n : ℕ) (op : Op) → Follows h (after_merge m h n op)
follows_merge merged_as.Applied h n op = record {
  replica = refl;
  opened = refl;
  list = (op ∷ [], refl);
  steps = (merged n (length h.list) ∷ [], refl);
  settled = omega arith;
  acked = omega arith;
  told = omega arith;
}
follows_merge merged_as.Known h n op = follows_same h h refl
follows_merge merged_as.Early h n op = follows_same h h refl

-- an acknowledgement
pub follows_acked : (h : ReplicaHeld) (n : ℕ) → Follows h (with_acked h n)
follows_acked h n = record {
  replica = refl;
  opened = refl;
  list = ([], sym (append-nil h.list));
  steps = ([], refl);
  settled = omega arith;
  acked = grind arith;
  told = omega arith;
}

-- a telling
pub follows_told : (h : ReplicaHeld) (n : ℕ) → Follows h (with_told h n)
follows_told h n = record {
  replica = refl;
  opened = refl;
  list = ([], sym (append-nil h.list));
  steps = ([], refl);
  settled = omega arith;
  acked = omega arith;
  told = grind arith;
}

-- a settlement of no fewer operations than were settled
follows_settled : (h : ReplicaHeld) (n : ℕ) → h.settled ≤ n → Follows h (with_settled h n)
follows_settled h n more = record {
  replica = refl;
  opened = refl;
  list = ([], sym (append-nil h.list));
  steps = (settlement n ∷ [], refl);
  settled = more;
  acked = omega arith;
  told = omega arith;
}

told_follows : (failed : Bool) (l : LockedHeld) → Follows l.replica (if failed then record l { failure_told = true } else l).replica
told_follows true l = follows_same l.replica l.replica refl
told_follows false l = follows_same l.replica l.replica refl

-- and a meeting
pub follows_meeting : {D : Type 0} (facts : Ghosts D) (l : LockedHeld) (f : FlusherHeld D) (result : Result Met StoreError) (l' : LockedHeld)
    (f' : FlusherHeld D) → IsLocked l → LeavesBoth facts l f result l' f' → Follows l.replica l'.replica
follows_meeting facts l f (Ok (Begun n)) l' f' sound leaves = rw leaves.locked (follows_same l.replica l.replica refl)
follows_meeting facts l f (Ok (Settled n)) l' f' sound leaves =
    rw leaves.locked (follows_settled l.replica l.begun sound.keeps.settled)
follows_meeting facts l f (Ok Nothing) l' f' sound leaves = rw leaves.0 (follows_same l.replica l.replica refl)
follows_meeting facts l f (Err e) l' f' sound leaves = rw leaves.locked (told_follows f.store.failed l)

-- what is in the past stays so
past_stays : (l later : LockedHeld) → Follows l.replica later.replica → (m : LockedHeld) → IsPastOf l m → IsPastOf later m
past_stays l later goes m past = record {
  sound = past.sound;
  follows = follows_behind m.replica l.replica later.replica past.follows goes;
}

-- moments that fit do so after a step
moments_stay : (l later : LockedHeld) (books : List (List LockedHeld)) → MomentsFit l books → Follows l.replica later.replica
    → MomentsFit later books
moments_stay l later books fit goes n moments found =
    All-weaker (IsPastOf l) (IsPastOf later) (past_stays l later goes) moments (fit n moments found)

-- also if this moment is entered into one of the books
pub moments_entered : (l : LockedHeld) (books : List (List LockedHeld)) (n : ℕ) (moments : List LockedHeld) → MomentsFit l books → IsLocked l
    → slice_get books n ≡ Some moments → MomentsFit l (slice_set books n (l ∷ moments))
moments_entered l books n moments fit sound there m ms found = by_test (n == m) refl
  where
    now : IsPastOf l l
    now = record { sound = sound; follows = follows_same l.replica l.replica refl }

    by_test : (b : Bool) → (n == m) ≡ b → All (IsPastOf l) ms
    by_test true is =
        let same : n ≡ m = grind (arith, nat_tests, is) in
        let at : slice_get (slice_set books m (l ∷ moments)) m ≡ Some ms = rw same at found in
        rw (put_there books m (l ∷ moments) ms at) (All-cons (IsPastOf l) l moments now (fit n moments there))
    by_test false is =
        let other : m ≢ n = λ same. absurd (grind (arith, nat_tests, is, same)) in
        fit m ms (put_elsewhere books n m (l ∷ moments) ms other found)

-- the books are those of a later locked part that keeps the same steps
books_stay : (l later : LockedHeld) (books : BooksHeld) → AreBooksOf l books → later.replica.steps ≡ l.replica.steps
    → later.replica.settled ≡ l.replica.settled → StaysFit l later → Follows l.replica later.replica → AreBooksOf later books
books_stay l later books are same settled fits goes = record {
  entries = λ n entries found. are.entries n entries found ∙ ap (λ steps. ends_of n steps) (sym same);
  moments = moments_stay l later books.moments are.moments goes;
  met = met_stays l later books.moments are.met settled fits;
}

-- after an acknowledgement
pub books_acked : (result : Bool) (l later : LockedHeld) (books : BooksHeld) (n : ℕ) → AreBooksOf l books
    → later ≡ (if result then record l { replica = with_acked l.replica n } else l) → StaysFit l later → AreBooksOf later books
books_acked true l later books n are is fits =
    books_stay l later books are (ap (λ x. x.replica.steps) is) (ap (λ x. x.replica.settled) is) fits (rw is (follows_acked l.replica n))
books_acked false l later books n are is fits = rw is are

-- after a telling
pub books_told : {A E : Type 0} (result : Result A E) (l later : LockedHeld) (books : BooksHeld) (n : ℕ) → AreBooksOf l books
    → OnOk result (later ≡ record l { replica = with_told l.replica n }) → OnErr result (later ≡ l) → StaysFit l later → AreBooksOf later books
books_told (Ok a) l later books n are is same fits =
    books_stay l later books are (ap (λ x. x.replica.steps) is) (ap (λ x. x.replica.settled) is) fits (rw is (follows_told l.replica n))
books_told (Err e) l later books n are is same fits = rw same are

-- after a meeting that is entered
pub books_met : {D : Type 0} (facts : Ghosts D) (l : LockedHeld) (f : FlusherHeld D) (result : Result Met StoreError) (l' : LockedHeld)
    (f' : FlusherHeld D) (books : BooksHeld) (before : List LockedHeld) → IsLocked l → IsLocked l' → AreBooksOf l books → LeavesBoth facts l f result l' f'
    → slice_get books.moments 0 ≡ Some before → AreBooksOf l' (with_book books 0 (l' ∷ before))
books_met facts l f result l' f' books before sound sound' are leaves there = record {
  entries = λ n entries found. are.entries n entries found ∙ sym (meeting_ends facts l f result l' f' leaves n);
  moments = moments_entered l' books.moments 0 before
      (moments_stay l l' books.moments are.moments (follows_meeting facts l f result l' f' sound leaves)) sound' there;
  met = met_later l l' books.moments before are.met there;
}

-- after a new edit whose end is entered
pub books_edited : (l later : LockedHeld) (books : BooksHeld) (p : PassHeld) (e : Asked) (end : ℕ) → AreBooksOf l books
    → p.entries ≡ ends_of p.number l.replica.steps → later ≡ record l { replica = with_edit l.replica p.number e }
    → end ≡ length later.replica.list → StaysFit l later
    → AreBooksOf later (record books { entries = slice_set books.entries p.number (end ∷ p.entries) })
books_edited l later books p e end are mine made ends fits = record {
  entries = entered_edit l later books.entries p e end are.entries mine made ends;
  moments = moments_stay l later books.moments are.moments (rw made (new_follows l.replica p.number e));
  met = met_stays l later books.moments are.met (ap (λ x. x.replica.settled) made) fits;
}

-- after a merge where the new length is entered
pub books_merged : (l later : LockedHeld) (books : BooksHeld) (p : PassHeld) (op : Op) (end : ℕ) → AreBooksOf l books
    → p.entries ≡ ends_of p.number l.replica.steps → later ≡ record l { replica = with_merge l.replica p.number op }
    → end ≡ length later.replica.list → StaysFit l later
    → AreBooksOf later (record books { entries = slice_set books.entries p.number (end ∷ p.entries) })
books_merged l later books p op end are mine made ends fits = record {
  entries = entered_merge l later books.entries p op end are.entries mine made ends;
  moments = moments_stay l later books.moments are.moments (rw made (follows_merge merged_as.Applied l.replica p.number op));
  met = met_stays l later books.moments are.met (ap (λ x. x.replica.settled) made) fits;
}

-- where this moment is entered
pub books_entered : (l : LockedHeld) (books : BooksHeld) (p : PassHeld) → AreBooksOf l books → IsLocked l
    → slice_get books.moments p.number ≡ Some p.moments
    → AreBooksOf l (record books { moments = slice_set books.moments p.number (l ∷ p.moments) })
books_entered l books p are sound there = record {
  entries = are.entries;
  moments = moments_entered l books.moments p.number p.moments are.moments sound there;
  met = met_noted l books.moments p.number p.moments are.met there;
}
