-- What is opened after a crash has all that was promised before it.
use Rattle.std.proofs.Common.{◌≡◌, ◌≢◌, ◌⊎◌, ℕ, zero, suc, ◌+◌, ◌≤◌, Bool, true, false, List, [], ◌∷◌, ◌++◌, length, take, filter}
use Rattle.std.proofs.Common.{refl, sym, ap, ◌∙◌, arith, inl, inr, append_assoc, length-append, append-nil}
use Rattle.std.specs.Prelude.{◌==◌}
use Rattle.std.specs.List.{list_all}
use Rattle.std.proofs.lemmas.Bool.{cases_Bool, both_ways}
use Rattle.std.proofs.lemmas.List.{length-take-le}
use Rattle.disk_trait.specs.declared.facts.DiskFacts.{Ghosts}
use Rattle.op_ids.specs.Id.{is_below, is_same}
use Rattle.op_ids.specs.Clock.{count_of}
use Rattle.op_model.specs.declared.op.Op.{Op}
use Rattle.op_model.specs.Actions.{made_by_action, Asked}
use Rattle.model_laws.proofs.InTurn.{in_turn_above}
use Rattle.op_model.specs.Causality.{clock_of, made_by, HasOp}
use Rattle.op_model.specs.Held.{ReplicaHeld}
use Rattle.op_model.specs.Machine.{State, Event, edit, merge, begin, device_step, settle, ack, tell, have, Answer, Step}
use Rattle.op_model.specs.Machine.{ticket, applied, known, early, begun, nothing_new, idle, goes_on, goes_through, settled_to}
use Rattle.op_model.specs.Machine.{acknowledged, operations, clock, refused}
use Rattle.model_laws.proofs.Above.{numbered_above}
use Rattle.model_laws.proofs.Ids.{below_differs, equal_same}
use Rattle.model_laws.proofs.Ready.{count_made}
use Rattle.world_law.proofs.Members.{HasOp-left, all_at}
use Rattle.world_law.proofs.Steps.{told_settled}
use Rattle.group_commit.specs.declared.open_fault.OpenError.TheVariants.{Memory, NoRoot, BadRoot, BadTable, BadStream, TooLong, ReadFailed, SyncFailed}
use Rattle.recovery.specs.Faults.{IsFault, number_of, failures_of}
use Rattle.recovery.specs.Image.{IsImage}
use Rattle.recovery.specs.declared.open_fault.OpenError.{OpenError}
use Rattle.recovery.specs.declared.open_fault.OpenError.TheVariants.{Load, BadOperation}
use Rattle.recovery.proofs.FaultLemmas.{no_fault}
use Rattle.recovery.proofs.ImageLemmas.{one_image}
use Rattle.locked_replica.specs.Calls.{IsCall}
use Rattle.locked_replica.specs.Hub.{Parts, state_of}
use Rattle.locked_replica.specs.Promises.{Crashes, asked_end, HasPromised, HasAllPromised, MakesNewIds, IsRecovered}
use Rattle.locked_replica.specs.Recovery.{HasAtLeast}
use Rattle.locked_replica.specs.Run.{Ran, Calls, settled_by, settled_behind}
use Rattle.locked_replica.proofs.MachineSteps.{Goes, step_goes, step_rises}

-- a longer list begins with each front of a shorter one
front_of : (m n : ℕ) (ops more : List Op) → m ≤ n → (rest : List Op) × (take n (ops ++ more) ≡ take m ops ++ rest)
front_of zero n ops more l = (take n (ops ++ more), refl)
front_of (suc m) zero ops more l = absurd (omega (arith, l))
front_of (suc m) (suc n) [] more l = (take (suc n) more, refl)
front_of (suc m) (suc n) (x ∷ ops) more l =
    let (rest, is) = front_of m n ops more (omega (arith, l)) in (rest, ap (λ xs. x ∷ xs) is)

-- a longer list has no fewer of a replica
no_fewer_made : (replica : ℕ) (a b : List Op) → length (made_by replica a) ≤ length (made_by replica (a ++ b))
no_fewer_made replica [] b = omega arith
no_fewer_made replica (x ∷ a) b =
    let rest = no_fewer_made replica a b in
    elim (cases_Bool (x.id.replica == replica)) [ inl is ↦ rw is (omega (arith, rest)) | inr is ↦ rw is rest ]

counts_more : (replica : ℕ) (a b : List Op) → count_of (clock_of a) replica ≤ count_of (clock_of (a ++ b)) replica
counts_more replica a b = rw (count_made a replica, count_made (a ++ b) replica) (no_fewer_made replica a b)

-- what a step promised is in each list that begins with what is settled then
promised_by : (s : State) (event : Event) (answer : Answer) (next : State) (list rest : List Op) → Step s event answer next
    → list ≡ take s.held.settled s.held.list ++ rest → s.held.settled ≤ length list → HasPromised list event answer
promised_by s (ack t) (acknowledged true) next list rest step is enough = let within = step.0 in omega (arith, within, enough)
promised_by s (tell c) (operations ops) next list rest step is enough = λ op has.
    rw is (HasOp-left (take s.held.settled s.held.list) rest op (told_settled s (tell c) (operations ops) next op step (inl has)))
promised_by s have (clock c) next list rest step is enough = λ replica.
    rw (is, step.0) (counts_more replica (take s.held.settled s.held.list) rest)
promised_by s event (ticket t) next list rest step is enough = tt
promised_by s event applied next list rest step is enough = tt
promised_by s event known next list rest step is enough = tt
promised_by s event early next list rest step is enough = tt
promised_by s event (begun n) next list rest step is enough = tt
promised_by s event nothing_new next list rest step is enough = tt
promised_by s event idle next list rest step is enough = tt
promised_by s event goes_on next list rest step is enough = tt
promised_by s event goes_through next list rest step is enough = tt
promised_by s event (settled_to n) next list rest step is enough = tt
promised_by s event (acknowledged false) next list rest step is enough = tt
promised_by s event (refused n) next list rest step is enough = tt
promised_by s (edit session e) answer next list rest step is enough = absurd step
promised_by s (merge peer op) answer next list rest step is enough = absurd step
promised_by s begin answer next list rest step is enough = absurd step
promised_by s device_step answer next list rest step is enough = absurd step
promised_by s settle answer next list rest step is enough = absurd step
promised_by s event answer next list rest step is enough = absurd step

-- an edit's ids are above all in the list
makes_new : (h : ReplicaHeld) → MakesNewIds h
makes_new h e op there made_now held same =
    let greater = in_turn_above h.list h.replica e.doc e.token e.changes in
    let above = all_at (λ o. list_all (λ earlier. is_below earlier.id o.id) h.list) (made_by_action h.list h.replica e) op greater made_now in
    let below = all_at (λ earlier. is_below earlier.id op.id) h.list there above held in
    both_ways (is_same there.id op.id) (below_differs there.id op.id below) (equal_same there.id op.id (sym same))

-- the refusals that say nothing of the file, by their numbers
by_device : (cause : OpenError) → (number_of cause ≡ 1) ⊎ (failures_of cause ≡ 1)
    → (number_of cause ≡ 1) ⊎ ((number_of cause ≡ 50) ⊎ (number_of cause ≡ 52))
by_device cause (inl is) = inl is
by_device BadOperation (inr is) = absurd (omega (arith, is))
by_device (Load Memory) (inr is) = absurd (omega (arith, is))
by_device (Load NoRoot) (inr is) = absurd (omega (arith, is))
by_device (Load BadRoot) (inr is) = absurd (omega (arith, is))
by_device (Load BadTable) (inr is) = absurd (omega (arith, is))
by_device (Load BadStream) (inr is) = absurd (omega (arith, is))
by_device (Load TooLong) (inr is) = absurd (omega (arith, is))
by_device (Load ReadFailed) (inr is) = inr (inl refl)
by_device (Load SyncFailed) (inr is) = inr (inr refl)

module _ {D : Type 0} (facts : Ghosts D) where
  goes_of : (old mid : Parts D) (e : Event × Answer) → IsCall facts e.0 e.1 old mid → Goes e.1 old.replica mid.replica
  goes_of old mid e call = step_goes (state_of old) e.0 e.1 (state_of mid) call.step

  -- the list only grows
  grows : (old new : Parts D) (es : List (Event × Answer)) → Calls facts old es new → (more : List Op) × (new.replica.list ≡ old.replica.list ++ more)
  grows old new [] calls = ([], ap (λ h. h.replica.list) calls ∙ sym (append-nil old.replica.list))
  grows old new (e ∷ es) calls =
      let goes = goes_of old calls.0 e calls.1 in
      let (more, is) = grows calls.0 new es calls.2 in
      (goes.more ++ more, is ∙ ap (λ ops. ops ++ more) goes.grows ∙ append_assoc old.replica.list goes.more more)

  -- the settled number doesn't fall
  rises : (old new : Parts D) (es : List (Event × Answer)) (k : ℕ) → Calls facts old es new
      → old.replica.settled ≤ settled_behind old.replica.settled (take k es)
  rises old new es zero calls = omega arith
  rises old new [] (suc k) calls = omega arith
  rises old new (e ∷ es) (suc k) calls =
      let once = step_rises old e.0 e.1 (state_of calls.0) calls.1.step in
      let rest = rises calls.0 new es k calls.2 in
      let moved = rw (goes_of old calls.0 e calls.1).settled at rest in
      omega (arith, once, moved)

  -- so what some calls promised is in each front of the list with all that is settled behind them
  promised : (old new : Parts D) (es : List (Event × Answer)) (k n : ℕ) → Calls facts old es new → settled_behind old.replica.settled (take k es) ≤ n
      → n ≤ length new.replica.list → HasAllPromised (take n new.replica.list) (take k es)
  promised old new es zero n calls enough within = tt
  promised old new [] (suc k) n calls enough within = tt
  promised old new (e ∷ es) (suc k) n calls enough within =
      let rose = rises old new (e ∷ es) (suc k) calls in
      let low : old.replica.settled ≤ n = omega (arith, rose, enough) in
      let later : settled_behind (settled_by old.replica.settled e.1) (take k es) ≤ n = enough in
      let (more, grown) = grows old new (e ∷ es) calls in
      let (rest, front) = front_of old.replica.settled n old.replica.list more low in
      let long = length-take-le n new.replica.list within in (
        promised_by (state_of old) e.0 e.1 (state_of calls.0) (take n new.replica.list) rest calls.1.step (ap (take n) grown ∙ front) (omega (arith, low, long)),
        promised calls.0 new es k n calls.2 (rw (sym (goes_of old calls.0 e calls.1).settled) at later) within,
      )

  -- an opening gives the file's one image
  pub recovered : (old new hub : Parts D) (events : List (Event × Answer)) (k version : ℕ) (file : List ℕ) → Crashes facts old events new k file
      → IsImage file hub.replica.replica version hub.replica.list
      → IsRecovered (settled_behind old.replica.settled (take k events)) (take k events) new.replica hub.replica
  recovered old new hub events k version file crash image =
      let has = crash.ran.fronts crash.tells k file crash.front crash.left in
      let (owner, same_version, list) = one_image file hub.replica.replica new.replica.replica version has.version hub.replica.list
      (take has.count new.replica.list) image has.image in
      let long : length hub.replica.list ≡ has.count = ap length list ∙ length-take-le has.count new.replica.list has.within in
      let enough = has.enough in
      record {
        owner = owner;
        begins = list ∙ ap (λ n. take n new.replica.list) (sym long);
        closed = image.closed;
        whole = rw long has.whole;
        settled = omega (arith, long, enough);
        promised = rw list (promised old new events k has.count crash.ran.calls has.enough has.within);
        new_ids = makes_new hub.replica;
      }

  -- or is refused when out of memory, or by the device
  pub refused_by : (old new : Parts D) (events : List (Event × Answer)) (k : ℕ) (file : List ℕ) (cause : OpenError) → Crashes facts old events new k file
      → IsFault cause file → (number_of cause ≡ 1) ⊎ ((number_of cause ≡ 50) ⊎ (number_of cause ≡ 52))
  refused_by old new events k file cause crash fault =
      let has = crash.ran.fronts crash.tells k file crash.front crash.left in
      by_device cause (no_fault file new.replica.replica has.version (take has.count new.replica.list) cause has.image fault)
