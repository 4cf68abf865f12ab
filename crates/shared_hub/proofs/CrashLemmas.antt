-- What a crash leaves since a meeting.
use Rattle.std.proofs.Common.{◌≡◌, ℕ, ◌≤◌, List, [], ◌++◌, length, take, drop, true, refl, sym, ap, subst, ◌∙◌, arith, inl, inr}
use Rattle.std.proofs.Common.{Contains, map, Some, slice_get, option_map}
use Rattle.std.proofs.lemmas.List.{append-nil, length-map, length-take, length-take-le, take-append-drop, take-take}
use Rattle.std.proofs.lemmas.List.Elements.{All-contains, All-head}
use Rattle.std.proofs.lemmas.Option.{slice_get-map, slice_get_cases, slice_get_read}
use Rattle.disk_trait.specs.declared.facts.DiskFacts.{Ghosts}
use Rattle.op_model.specs.Causality.{IsCausallyClosed, clock_of}
use Rattle.op_model.specs.Held.{ReplicaHeld}
use Rattle.op_model.specs.Machine.{Event, Answer, Ticket, ack, acknowledged, clock, have, operations, tell}
use Rattle.op_model.specs.Telling.{untold}
use Rattle.op_model.specs.declared.op.Op.{Op}
use Rattle.model_laws.proofs.Growth.{closed_front}
use Rattle.root_slots.specs.Root.{count_of, replica_of, version_of}
use Rattle.hub_parts.specs.Fitting.{FitTogether, Side, side_of}
use Rattle.hub_parts.specs.Flusher.{FlusherHeld}
use Rattle.hub_parts.specs.Locked.{IsLocked, LockedHeld}
use Rattle.shared_hub.specs.Committing.{CommitterHeld, IsTurn, Meeting, WasMeeting}
use Rattle.shared_hub.specs.Crashes.{HasSettled, HoldsImage, HoldsTold, LeftSince, WasAnsweredIn, settled_then}
use Rattle.shared_hub.specs.Going.{ComesBack, HoldsFront}
use Rattle.shared_hub.specs.Moments.{WasSettledAt}
use Rattle.shared_hub.proofs.FrontLemmas.{holds_on}
use Rattle.shared_hub.proofs.PromiseLemmas.{at_most, then_past, told_is}

-- a file with a beginning of the flusher's list has the image of the replica, with a beginning of the list under the lock
image_of : (l : LockedHeld) (side : Side) (n : ℕ) (file : List ℕ) → IsLocked l → FitTogether l side → HoldsFront side.owner n side.list file
    → HoldsImage l.replica n file
image_of l side n file sound fit held =
    let root = held.root in
    let count = count_of root.body in
    let all = l.replica.list in
    let within : count ≤ length side.list = held.front.within in
    let few : count ≤ l.begun = grind (arith, within, ap length fit.front, length-take l.begun all) in
    let same : take count side.list ≡ take count all = ap (λ ops. take count ops) fit.front ∙ take-take count l.begun all few in
    let long : length (take count all) ≡ count = ap length (sym same) ∙ length-take-le count side.list within in
    let closed : IsCausallyClosed (take count all ++ drop count all) = rw (take-append-drop count all) sound.sound.closed in
    record {
      version = version_of root.body;
      count = count;
      enough = held.enough;
      image = record {
        body = root.body;
        bytes = root.stream;
        holds = held.holds.holds;
        spells = record { spells = rw (← same) held.front.stream; counted = long };
        owner = held.owner ∙ fit.owner;
        made = refl;
        closed = closed_front (take count all) (drop count all) closed;
      };
    }

-- with fewer operations than that, too
pub fewer : (h : ReplicaHeld) (n m : ℕ) (file : List ℕ) → m ≤ n → HoldsImage h n file → HoldsImage h m file
fewer h n m file less held =
    let enough = held.enough in
    record { version = held.version; count = held.count; enough = omega (arith, less, enough); image = held.image }

-- so has each file that a crash left since a meeting, with all that was settled after that
pub left_since : {D : Type 0} (facts : Ghosts D) (l : LockedHeld) (c : CommitterHeld D) (n : ℕ) (file : List ℕ) → IsTurn facts l c
    → LeftSince facts c n file → HoldsImage l.replica n file
left_since facts l c n file turn since =
    let m = since.meeting in
    let now = c.flusher in
    let then = m.flusher in
    let was : WasMeeting facts now m = All-contains (WasMeeting facts now) c.met m turn.committer.each since.settled.among in
    let enough = since.settled.enough in
    let most = at_most m.locked (side_of then) was.fits in
    let held = (was.goes.moments (was.goes.tells.0 since.tells)).each file since.left in
    image_of l (side_of now) n file turn.locked turn.fits
    (holds_on (replica_of now.store.current.body) (replica_of then.store.current.body) n (count_of then.store.current.body) now.list now.list file
    (sym was.goes.owner) (omega (arith, enough, most)) ([], sym (append-nil now.list)) held)

-- what a function makes of some element of a list
made_of : {A B : Type 0} (f : A → B) (xs : List A) (y : B) → Contains (map f xs) y → (x : A) × Contains xs x × (f x ≡ y)
made_of f xs y among =
    let found : slice_get (map f xs) among.0 ≡ Some y = slice_get_read (map f xs) (length (map f xs)) among.0 y refl among.1 (sym among.2) in
    let made : option_map f (slice_get xs among.0) ≡ Some y = sym (slice_get-map f xs among.0) ∙ found in
    let within = among.1 in
    elim (slice_get_cases xs among.0).1 [
      | inl at ↦ let is : Some (f at.0) ≡ Some y = rw at.2 at made in let same : f at.0 ≡ y = cc in (at.0, (among.0, at.1, at.3), same)
      | inr past ↦ absurd (omega (arith, within, length-map xs f, past.0))
    ]

module _ {D : Type 0} (facts : Ghosts D) (l : LockedHeld) (c : CommitterHeld D) (event : Event) (answer : Answer) (w : WasAnsweredIn facts l c event answer) where
  -- there is a meeting after which as many operations were settled as at an answer
  pub settled_after : (meeting : Meeting D) × HasSettled c (settled_then w) meeting
  settled_after =
      let a = w.answered in
      let all = rw (ap (λ p. p.moments) a.entered.entered) at w.settled in
      let was : WasSettledAt c.pass.moments a.entered.after = All-head (WasSettledAt c.pass.moments) a.entered.after a.left.moments all in
      let there = made_of (λ (m : Meeting D). m.locked) c.met was.meeting (subst (λ moments. Contains moments was.meeting) w.turn.committer.moments was.among) in
      let same = was.settled in (
        there.0,
        record { among = there.1; enough = omega (arith, ap (λ x. x.replica.settled) there.2, same) },
      )

-- an edit that was acknowledged
pub acknowledged_left : {D : Type 0} (facts : Ghosts D) (l : LockedHeld) (c : CommitterHeld D) (t : Ticket) (file : List ℕ)
    → (w : WasAnsweredIn facts l c (ack t) (acknowledged true)) → LeftSince facts c (settled_then w) file → HoldsImage l.replica t.end file
acknowledged_left facts l c t file w since =
    let step = w.answered.entered.makes.makes.step in
    let same : settled_then w ≡ w.answered.entered.before.replica.settled = ap (λ s. s.held.settled) step.1 in
    let few = step.0 in
    fewer l.replica (settled_then w) t.end file (omega (arith, few, same)) (left_since facts l c (settled_then w) file w.turn since)

-- operations that were told
pub told_left : {D : Type 0} (facts : Ghosts D) (l : LockedHeld) (c : CommitterHeld D) (its : List (ℕ × ℕ)) (ops : List Op) (file : List ℕ)
    → (w : WasAnsweredIn facts l c (tell its) (operations ops)) → LeftSince facts c (settled_then w) file
    → HoldsTold l.replica (settled_then w) (untold its) ops file
told_left facts l c its ops file w since =
    let a = w.answered in
    let step = a.entered.makes.makes.step in
    let same = ap (λ s. take s.held.settled s.held.list) step.1 in record {
      is = told_is l a.entered.after (untold its) ops (then_past l (tell its) (operations ops) a) (step.0 ∙ ap (untold its) (sym same));
      holds = left_since facts l c (settled_then w) file w.turn since;
    }

-- and a clock that was told
pub counted_left : {D : Type 0} (facts : Ghosts D) (l : LockedHeld) (c : CommitterHeld D) (its : List (ℕ × ℕ)) (file : List ℕ)
    → (w : WasAnsweredIn facts l c have (clock its)) → LeftSince facts c (settled_then w) file
    → HoldsTold l.replica (settled_then w) clock_of its file
counted_left facts l c its file w since =
    let a = w.answered in
    let step = a.entered.makes.makes.step in
    let same = ap (λ s. take s.held.settled s.held.list) step.1 in record {
      is = told_is l a.entered.after clock_of its (then_past l have (clock its) a) (step.0 ∙ ap clock_of (sym same));
      holds = left_since facts l c (settled_then w) file w.turn since;
    }

-- so has each file that a crash left at a moment of a turn
pub turn_leaves : {D : Type 0} (facts : Ghosts D) (old : FlusherHeld D) (disk : D) (file : List ℕ) → (it : ComesBack facts old disk)
    → facts.tells old.store.disk → facts.left_since disk (facts.time old.store.disk) file
    → HoldsImage it.beside.locked.replica (count_of old.store.current.body) file
turn_leaves facts old disk file it told left =
    let now = it.flusher in
    let held = (it.goes.moments told).each file (rw it.disk at left) in
    image_of it.beside.locked (side_of now) (count_of old.store.current.body) file it.beside.sound it.beside.fits
    (holds_on (replica_of now.store.current.body) (replica_of old.store.current.body) (count_of old.store.current.body) (count_of old.store.current.body)
    now.list now.list file (sym it.goes.owner) (omega arith) ([], sym (append-nil now.list)) held)
