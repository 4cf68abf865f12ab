-- One call more of a list of calls.
use Rattle.std.proofs.Common.{◌≡◌, ◌≢◌, ℕ, suc, zero, ◌+◌, ◌≤◌, Bool, true, false, nat_le, List, []}
use Rattle.std.proofs.Common.{◌∷◌, ◌++◌, length, take, refl, sym, ap, ◌∙◌, arith, length-append}
use Rattle.std.proofs.Common.{inl, inr, ◌⊎◌}
use Rattle.std.proofs.lemmas.Bool.Decides.{nat_tests}
use Rattle.std.proofs.lemmas.List.{take-append-le}
use Rattle.disk_trait.specs.Calls.{IsLawful}
use Rattle.disk_trait.specs.declared.facts.DiskFacts.{Ghosts}
use Rattle.op_model.specs.declared.op.Op.{Op}
use Rattle.op_model.specs.Machine.{State, Event, Answer, refused, Step, Run}
use Rattle.op_model.specs.Held.{ReplicaHeld}
use Rattle.locked_replica.specs.Hub.{Parts, state_of}
use Rattle.locked_replica.specs.Calls.{IsCall, IsLeftIn, calls_in, writes_begun, syncs_begun, NoWriteFails}
use Rattle.locked_replica.specs.Recovery.{HasAtLeast, Recovers}
use Rattle.locked_replica.specs.Run.{Ran, Calls, CrashesIn, FrontsStand, NoneFailed, NamePhases}
use Rattle.locked_replica.specs.Run.{settled_by, settled_behind, calls_made, writes_planned, syncs_planned}
use Rattle.locked_replica.specs.Steps.{NamesPhase}
use Rattle.locked_replica.specs.declared.hub_reply.HubReply.{HubReply}
use Rattle.locked_replica.proofs.ListLemmas.{take_all}
use Rattle.locked_replica.proofs.MachineSteps.{Goes, step_goes, step_rises}
use Rattle.locked_replica.proofs.QuietCalls.{has_fewer}

take_none : {A : Type 0} (k : ℕ) → take {A = A} k [] ≡ []
take_none zero = refl
take_none (suc k) = refl

-- a run with one step more
run_more : (s mid next : State) (es : List (Event × Answer)) (e : Event × Answer) → Run s es mid → Step mid e.0 e.1 next → Run s (es ++ e ∷ []) next
run_more s mid next [] e run step = (next, rw run at step, refl)
run_more s mid next (x ∷ es) e run step = (run.0, run.1, run_more run.0 mid next es e run.2 step)

settled_more : (n : ℕ) (es : List (Event × Answer)) (e : Event × Answer) → settled_behind n (es ++ e ∷ []) ≡ settled_by (settled_behind n es) e.1
settled_more n [] e = refl
settled_more n (x ∷ es) e = settled_more (settled_by n x.1) es e

calls_more : (es : List (Event × Answer)) (e : Event × Answer) → calls_made (es ++ e ∷ []) ≡ calls_made es + calls_in e.0 e.1
calls_more [] e = omega arith
calls_more (x ∷ es) e = let rest = calls_more es e in omega (arith, rest)

-- a front of some events made no more calls
fewer : (k : ℕ) (es : List (Event × Answer)) → calls_made (take k es) ≤ calls_made es
fewer zero es = omega arith
fewer (suc k) [] = omega arith
fewer (suc k) (x ∷ es) = let rest = fewer k es in omega (arith, rest)

-- what is a beginning of the list is one of a longer list
has_longer : (n : ℕ) (h next : ReplicaHeld) (answer : Answer) (file : List ℕ) → Goes answer h next → HasAtLeast n h file → HasAtLeast n next file
has_longer n h next answer file goes has =
    let within = has.within in
    let same : take has.count next.list ≡ take has.count h.list = ap (λ ops. take has.count ops) goes.grows ∙ take-append-le has.count h.list goes.more within in
    record {
      version = has.version;
      count = has.count;
      enough = has.enough;
      within = omega (arith, within, ap length goes.grows, length-append h.list goes.more);
      whole = goes.reaches has.count has.whole;
      image = rw (same, goes.owner) has.image;
    }

-- the chain of calls, with one more
abbrev calls_chain : {D : Type 0} (facts : Ghosts D) (old mid new : Parts D) (es : List (Event × Answer)) (event : Event) (answer : Answer) → Calls facts old es mid
    → IsCall facts event answer mid new → Calls facts old (es ++ (event, answer) ∷ []) new
calls_chain facts old mid new [] event answer calls call = (new, rw calls at call, refl)
calls_chain facts old mid new (e ∷ es) event answer calls call =
    (calls.0, calls.1, calls_chain facts calls.0 mid new es event answer calls.2 call)

-- what a crash leaves in some calls, it leaves in these and one more
crashes_more : {D : Type 0} (facts : Ghosts D) (old mid new : Parts D) (es : List (Event × Answer)) (event : Event) (answer : Answer) (calls : Calls facts old es mid)
    (call : IsCall facts event answer mid new) (file : List ℕ) → CrashesIn facts old es mid calls file
    → CrashesIn facts old (es ++ (event, answer) ∷ []) new (calls_chain facts old mid new es event answer calls call) file
crashes_more facts old mid new [] event answer calls call file is = inl (rw (sym calls) is)
crashes_more facts old mid new (e ∷ es) event answer calls call file (inl is) = inl is
crashes_more facts old mid new (e ∷ es) event answer calls call file (inr is) = inr (crashes_more facts calls.0 mid new es event answer calls.2 call file is)

-- and what it leaves in the last one
crashes_last : {D : Type 0} (facts : Ghosts D) (old mid new : Parts D) (es : List (Event × Answer)) (event : Event) (answer : Answer) (calls : Calls facts old es mid)
    (call : IsCall facts event answer mid new) (file : List ℕ) → Recovers mid file ⊎ Recovers new file
    → CrashesIn facts old (es ++ (event, answer) ∷ []) new (calls_chain facts old mid new es event answer calls call) file
crashes_last facts old mid new [] event answer calls call file (inl is) = inl (rw (sym calls) is)
crashes_last facts old mid new [] event answer calls call file (inr is) = inr is
crashes_last facts old mid new (e ∷ es) event answer calls call file is = inr (crashes_last facts calls.0 mid new es event answer calls.2 call file is)

-- one commit that begins more
writes_more : {D : Type 0} (facts : Ghosts D) (old mid new : Parts D) (es : List (Event × Answer)) (event : Event) (answer : Answer) (calls : Calls facts old es mid)
    (call : IsCall facts event answer mid new)
    → writes_planned facts old (es ++ (event, answer) ∷ []) new (calls_chain facts old mid new es event answer calls call)
    ≡ writes_planned facts old es mid calls + writes_begun answer new.store
writes_more facts old mid new [] event answer calls call = omega arith
writes_more facts old mid new (e ∷ es) event answer calls call =
    let rest = writes_more facts calls.0 mid new es event answer calls.2 call in omega (arith, rest)

syncs_more : (es : List (Event × Answer)) (event : Event) (answer : Answer) → syncs_planned (es ++ (event, answer) ∷ []) ≡ syncs_planned es + syncs_begun answer
syncs_more [] event answer = omega arith
syncs_more (e ∷ es) event answer = let rest = syncs_more es event answer in omega (arith, rest)

-- no call
pub ran_none : {D : Type 0} (facts : Ghosts D) (hub : Parts D) → (facts.tells hub.store.disk → IsLawful facts hub.store.disk)
    → (facts.tells hub.store.disk → (file : List ℕ) → facts.survives hub.store.disk file → HasAtLeast hub.replica.settled hub.replica file)
    → (facts.tells hub.store.disk → (file : List ℕ) → facts.survives hub.store.disk file → Recovers hub file)
    → Ran facts hub [] hub
ran_none facts hub lawful left recovered =
    record {
      machine = refl;
      settled = refl;
      rising = λ k within. rw (take_none {A = Event × Answer} k) (omega arith);
      tells = ((λ told. told), (λ told. told));
      time = λ told. omega arith;
      calls = refl;
      crashes = λ told file since. recovered told file ((lawful told).only_now file since);
      writes = λ told works. omega arith;
      syncs = λ told works. omega arith;
      fronts = λ told k file within left_now. rw (take_none {A = Event × Answer} k) (stands told file (now k left_now));
    }
  where
    stands : facts.tells hub.store.disk → (file : List ℕ) → facts.left_since hub.store.disk (facts.time hub.store.disk) file
        → HasAtLeast hub.replica.settled hub.replica file
    stands told file since = left told file ((lawful told).only_now file since)

    now : {file : List ℕ} (k : ℕ) → facts.left_since hub.store.disk (facts.time hub.store.disk + calls_made (take k [])) file
        → facts.left_since hub.store.disk (facts.time hub.store.disk) file
    now k since =
        let none : facts.time hub.store.disk + calls_made (take k []) ≡ facts.time hub.store.disk = rw (take_none {A = Event × Answer} k) (omega arith) in
        rw none at since

up_to : (k n : ℕ) → k ≤ n + 1 → (k ≤ n) ⊎ (k ≡ n + 1)
up_to k n within = by_test (nat_le k n) refl
  where
    by_test : (t : Bool) → nat_le k n ≡ t → (k ≤ n) ⊎ (k ≡ n + 1)
    by_test true is = inl (grind (arith, nat_tests))
    by_test false is = inr (grind (arith, nat_tests))

-- what was made, and one call more
unfoldable made_more : {D : Type 0} (facts : Ghosts D) (old mid new : Parts D) (es : List (Event × Answer)) (event : Event) (answer : Answer)
    → (facts.tells new.store.disk → IsLawful facts new.store.disk) → Ran facts old es mid → IsCall facts event answer mid new
    → Ran facts old (es ++ (event, answer) ∷ []) new
made_more facts old mid new es event answer lawful ran call =
    record {
      machine = run_more (state_of old) (state_of mid) (state_of new) es (event, answer) ran.machine call.step;
      settled = its_settled;
      rising = its_rising;
      tells = ((λ told. ran.tells.0 (call.tells.0 told)), (λ told. call.tells.1 (ran.tells.1 told)));
      time = its_time;
      fronts = its_fronts;
      calls = calls_chain facts old mid new es event answer ran.calls call;
      crashes = its_crashes;
      writes = λ told works.
          let more = writes_more facts old mid new es event answer ran.calls call in
          let before = ran.writes told (earlier_writes works) in
          let after = call.counts.writes (ran.tells.1 told) (last_write works) in
          omega (arith, more, before, after);
      syncs = λ told works.
          let more = syncs_more es event answer in
          let before = ran.syncs told (worked works) in
          let after = call.counts.syncs (ran.tells.1 told) works in
          omega (arith, more, before, after);
    }
  where
    its_step : Goes answer mid.replica new.replica
    its_step = step_goes (state_of mid) event answer (state_of new) call.step

    its_crashes : facts.tells old.store.disk → (file : List ℕ) → facts.left_since new.store.disk (facts.time old.store.disk) file
        → CrashesIn facts old (es ++ (event, answer) ∷ []) new (calls_chain facts old mid new es event answer ran.calls call) file
    its_crashes told file since = either ((call.moments (ran.tells.1 told)).before _ file (let before = ran.time told in omega (arith, before)) since)
      where
        either : facts.left_since mid.store.disk (facts.time old.store.disk) file ⊎ IsLeftIn mid new file
            → CrashesIn facts old (es ++ (event, answer) ∷ []) new (calls_chain facts old mid new es event answer ran.calls call) file
        either (inl since) = crashes_more facts old mid new es event answer ran.calls call file (ran.crashes told file since)
        either (inr left) = crashes_last facts old mid new es event answer ran.calls call file left.around

    worked : new.store.failed ≡ false → mid.store.failed ≡ false
    worked works = by_test mid.store.failed refl
      where
        by_test : (t : Bool) → mid.store.failed ≡ t → mid.store.failed ≡ false
        by_test true failed = absurd (differ (sym (call.counts.stays failed) ∙ works))
          where
            differ : true ≡ false → ⊥
            differ is = absurd (cc)
        by_test false is = is

    earlier_writes : (new.store.failed ≡ false) ⊎ NoneFailed (es ++ (event, answer) ∷ []) → (mid.store.failed ≡ false) ⊎ NoneFailed es
    earlier_writes (inl works) = inl (worked works)
    earlier_writes (inr none) = inr (none_before es none)
      where
        none_before : (es : List (Event × Answer)) → NoneFailed (es ++ (event, answer) ∷ []) → NoneFailed es
        none_before [] none = tt
        none_before (e ∷ es) none = (none.0, none_before es none.1)

    last_write : (new.store.failed ≡ false) ⊎ NoneFailed (es ++ (event, answer) ∷ []) → NoWriteFails answer new.store
    last_write (inl works) = inl works
    last_write (inr none) = inr (none_last es none)
      where
        none_last : (es : List (Event × Answer)) → NoneFailed (es ++ (event, answer) ∷ []) → answer ≢ refused 51
        none_last [] none = none.0
        none_last (e ∷ es) none = none_last es none.1

    its_settled : new.replica.settled ≡ settled_behind old.replica.settled (es ++ (event, answer) ∷ [])
    its_settled = its_step.settled ∙ ap (λ n. settled_by n answer) ran.settled ∙ sym (settled_more old.replica.settled es (event, answer))

    its_time : facts.tells old.store.disk → facts.time new.store.disk ≡ facts.time old.store.disk + calls_made (es ++ (event, answer) ∷ [])
    its_time told =
        let before = ran.time told in
        let after = call.time (ran.tells.1 told) in
        omega (arith, before, after, calls_more es (event, answer))

    long : length (es ++ (event, answer) ∷ []) ≡ length es + 1
    long = length-append es ((event, answer) ∷ [])

    earlier : (k : ℕ) → k ≤ length es → take k (es ++ (event, answer) ∷ []) ≡ take k es
    earlier k within = take-append-le k es ((event, answer) ∷ []) within

    whole : (k : ℕ) → k ≡ length es + 1 → take k (es ++ (event, answer) ∷ []) ≡ es ++ (event, answer) ∷ []
    whole k is = ap (λ n. take n (es ++ (event, answer) ∷ [])) (is ∙ sym long) ∙ take_all (es ++ (event, answer) ∷ [])

    its_rising : (k : ℕ) → k ≤ length (es ++ (event, answer) ∷ []) → settled_behind old.replica.settled (take k (es ++ (event, answer) ∷ [])) ≤ new.replica.settled
    its_rising k within = by_place (up_to k (length es) (rw long at within))
      where
        by_place : (k ≤ length es) ⊎ (k ≡ length es + 1) → settled_behind old.replica.settled (take k (es ++ (event, answer) ∷ [])) ≤ new.replica.settled
        by_place (inl within) = rw (earlier k within) (
            let was = ran.rising k within in
            let rises = step_rises mid event answer (state_of new) call.step in
            omega (arith, was, rises, its_step.settled))
        by_place (inr is) = rw (whole k is, sym its_settled) (omega arith)

    its_fronts : facts.tells old.store.disk → FrontsStand facts old (es ++ (event, answer) ∷ []) new
    its_fronts told k file within since = by_place (up_to k (length es) (rw long at within))
      where
        told_mid : facts.tells mid.store.disk
        told_mid = ran.tells.1 told

        of_earlier : (within : k ≤ length es) → facts.left_since new.store.disk (facts.time old.store.disk + calls_made (take k es)) file
            → HasAtLeast (settled_behind old.replica.settled (take k es)) new.replica file
        of_earlier within since = either ((call.moments told_mid).before _ file in_time since)
          where
            in_time : facts.time old.store.disk + calls_made (take k es) ≤ facts.time mid.store.disk
            in_time = let before = ran.time told in let few = fewer k es in omega (arith, before, few)

            either : facts.left_since mid.store.disk (facts.time old.store.disk + calls_made (take k es)) file ⊎ IsLeftIn mid new file
                → HasAtLeast (settled_behind old.replica.settled (take k es)) new.replica file
            either (inl since) =
                has_longer _ mid.replica new.replica answer file its_step (ran.fronts told k file within since)
            either (inr left) = has_fewer _ mid.replica.settled new.replica file (ran.rising k within) left.has

        by_place : (k ≤ length es) ⊎ (k ≡ length es + 1) → HasAtLeast (settled_behind old.replica.settled (take k (es ++ (event, answer) ∷ []))) new.replica file
        by_place (inl within) = rw (earlier k within) (of_earlier within (rw (earlier k within) at since))
        by_place (inr is) =
            let told_new = call.tells.1 told_mid in
            let now : facts.left_since new.store.disk (facts.time new.store.disk) file = rw (whole k is, sym (its_time told)) at since in
            rw (whole k is, sym its_settled) (call.left told_new file ((lawful told_new).only_now file now))

-- one call more
pub ran_more : {D : Type 0} (facts : Ghosts D) (old mid new : Parts D) (es : List (Event × Answer)) (event : Event) (answer : Answer)
    → (facts.tells new.store.disk → IsLawful facts new.store.disk) → Ran facts old es mid → IsCall facts event answer mid new
    → Ran facts old (es ++ (event, answer) ∷ []) new
ran_more facts old mid new es event answer lawful ran call = made_more facts old mid new es event answer lawful ran call

-- the phases that replies name, and one more
phases_more : {D : Type 0} (facts : Ghosts D) (old mid new : Parts D) (rs : List HubReply) (es : List (Event × Answer)) (reply : HubReply) (event : Event) (answer : Answer)
    (calls : Calls facts old es mid) (call : IsCall facts event answer mid new) → length rs ≡ length es → NamesPhase reply mid.store
    → NamePhases facts old rs es mid calls
    → NamePhases facts old (rs ++ reply ∷ []) (es ++ (event, answer) ∷ []) new (calls_chain facts old mid new es event answer calls call)
phases_more facts old mid new [] [] reply event answer calls call same names phases = (rw (sym calls) names, tt)
phases_more facts old mid new [] (e ∷ es) reply event answer calls call same names phases = absurd (omega (arith, same))
phases_more facts old mid new (r ∷ rs) [] reply event answer calls call same names phases = absurd (omega (arith, same))
phases_more facts old mid new (r ∷ rs) (e ∷ es) reply event answer calls call same names phases =
    (phases.0, phases_more facts calls.0 mid new rs es reply event answer calls.2 call (omega (arith, same)) names phases.1)

-- one call more, whose reply names its phase
pub ran_named : {D : Type 0} (facts : Ghosts D) (old mid new : Parts D) (es : List (Event × Answer)) (event : Event) (answer : Answer) (rs : List HubReply) (reply : HubReply)
    → (facts.tells new.store.disk → IsLawful facts new.store.disk) → (ran : Ran facts old es mid) → IsCall facts event answer mid new → length rs ≡ length es
    → NamesPhase reply mid.store → NamePhases facts old rs es mid ran.calls
    → (more : Ran facts old (es ++ (event, answer) ∷ []) new) × NamePhases facts old (rs ++ reply ∷ []) (es ++ (event, answer) ∷ []) new more.calls
unfolding made_more
ran_named facts old mid new es event answer rs reply lawful ran call same names phases = (
  made_more facts old mid new es event answer lawful ran call,
  phases_more facts old mid new rs es reply event answer ran.calls call same names phases,
)
