-- How a commit begins, after begins that found no memory.
use Rattle.std.proofs.Common.{◌≡◌, ◌⊎◌, ℕ, ◌+◌, ◌-◌, ◌≤◌, true, false, List, [], ◌∷◌, ◌++◌, length, refl, sym, ap, ◌∙◌, subst, inl, inr, arith}
use Rattle.disk_trait.specs.declared.facts.DiskFacts.{Ghosts}
use Rattle.op_model.specs.Machine.{State, Event, Answer, begin, begun, nothing_new, refused}
use Rattle.locked_replica.specs.Calls.{IsCall}
use Rattle.locked_replica.specs.Hub.{Parts, state_of}
use Rattle.session_threads.specs.declared.commit_start.CommitStart.TheVariants.{UnderWay, Settled, Refused}
use Rattle.locked_replica.specs.Run.{Calls}
use Rattle.session_threads.specs.HubCalls.{IsQuiet, IsOfCommit, AreOfCommit, AreTimes, CommitCalls, CannotSettle, DeskBegins, begins_at, with_begun}
use Rattle.session_threads.proofs.CallLemmas.{Calls-append, one_call, more_calls}
use Rattle.session_threads.proofs.CommitLemmas.{quiet_has_told, state_begun, nothing_new_settled, begin_refused}

-- a begin that found no memory
abbrev pub tried : Event × Answer
tried = (begin, refused 1)

pub AreTimes-more : (n : ℕ) (e : Event × Answer) (xs : List (Event × Answer)) → AreTimes n e xs → AreTimes (n + 1) e (xs ++ e ∷ [])
AreTimes-more n e [] none = (refl, omega (arith, none), omega arith)
AreTimes-more n e (x ∷ xs) (one, more, some) =
    let same : n - 1 + 1 ≡ n + 1 - 1 = omega (arith, some) in
    (one, subst (λ k. AreTimes k e (xs ++ e ∷ [])) same (AreTimes-more (n - 1) e xs more), omega arith)

-- n tries are calls of a commit with n begins
pub tries_of_commit : (n : ℕ) (xs : List (Event × Answer)) → AreTimes n tried xs → AreOfCommit n xs
tries_of_commit n [] times = tt
tries_of_commit n (x ∷ xs) (one, more, some) =
    subst (λ y. IsOfCommit y.0 × (begins_at y.0 ≤ n) × AreOfCommit (n - begins_at y.0) xs) (sym one) (tt, some, tries_of_commit (n - 1) xs more)

module _ {D : Type 0} (facts : Ghosts D) where
  -- the begins so far
  abbrev pub tries_made : (old between : Parts D) (n : ℕ) (tries : List (Event × Answer)) → AreTimes n tried tries
      → Calls facts old tries between → CommitCalls facts n old between
  tries_made old between n tries times calls = record { events = tries; calls = calls; only = tries_of_commit n tries times }

  pub one_more_try : (old between new : Parts D) (n : ℕ) (tries : List (Event × Answer)) → AreTimes n tried tries
      → Calls facts old tries between → state_of between ≡ state_of old → IsQuiet (state_of old) → IsCall facts begin (refused 1) between new
      → (more : List (Event × Answer)) × AreTimes (n + 1) tried more × Calls facts old more new × (state_of new ≡ state_of old)
  one_more_try old between new n tries times calls same quiet made = (
    tries ++ tried ∷ [],
    AreTimes-more n tried tries times,
    Calls-append facts old between new tries (tried ∷ []) calls (one_call facts between new begin (refused 1) made),
    made.step.1 ∙ quiet_has_told (state_of between) (subst IsQuiet (sym same) quiet) ∙ same,
  )

  pub begins_under_way : (old between new : Parts D) (n m : ℕ) (tries : List (Event × Answer)) → n + 1 ≤ 1000 → AreTimes n tried tries
      → Calls facts old tries between → state_of between ≡ state_of old → IsCall facts begin (begun m) between new
      → DeskBegins facts old UnderWay new
  begins_under_way old between new n m tries within times calls same made = record {
    calls = more_calls facts n 1000 old between new begin (begun m) (tries_made old between n tries times calls) tt within made;
    ends = let P : State → Type 0 = λ s. (s.failed ≡ false) × (state_of new ≡ with_begun s) in
        subst P same (state_begun (state_of between) (state_of new) m made.step);
  }

  pub begins_settled : (old between new : Parts D) (n : ℕ) (tries : List (Event × Answer)) → n + 1 ≤ 1000 → AreTimes n tried tries
      → Calls facts old tries between → state_of between ≡ state_of old → IsCall facts begin nothing_new between new
      → DeskBegins facts old Settled new
  begins_settled old between new n tries within times calls same made = record {
    calls = more_calls facts n 1000 old between new begin nothing_new (tries_made old between n tries times calls) tt within made;
    ends = (
      made.step.1 ∙ same,
      subst (λ s. length s.held.list ≤ s.held.settled) same (nothing_new_settled (state_of between) (state_of new) made.step),
    );
  }

  cannot : (old between new : Parts D) (m : ℕ) (tries : List (Event × Answer)) → state_of new ≡ state_of between
      → ((state_of between).failed ≡ true) ⊎ (m ≡ 7) → CannotSettle (state_of new) (tries ++ (begin, refused m) ∷ [])
  cannot old between new m tries same (inl failed) = inl (ap (λ s. s.failed) same ∙ failed)
  cannot old between new m tries same (inr last) = inr (inl (tries, ap (λ k. tries ++ (begin, refused k) ∷ []) last))

  pub begins_refused : (old between new : Parts D) (n m : ℕ) (tries : List (Event × Answer)) → n + 1 ≤ 1000 → AreTimes n tried tries
      → Calls facts old tries between → state_of between ≡ state_of old → IsQuiet (state_of old)
      → IsCall facts begin (refused m) between new → (m ≡ 1 → ⊥) → DeskBegins facts old Refused new
  begins_refused old between new n m tries within times calls same quiet made other =
      let was_quiet = subst IsQuiet (sym same) quiet in
      let stays = made.step.1 ∙ quiet_has_told (state_of between) was_quiet in
      record {
        calls = more_calls facts n 1000 old between new begin (refused m) (tries_made old between n tries times calls) tt within made;
        ends = (
          stays ∙ same,
          cannot old between new m tries stays (begin_refused (state_of between) (state_of new) m was_quiet made.step other),
        );
      }

  pub begins_never : (old new : Parts D) (n : ℕ) (tries : List (Event × Answer)) → AreTimes n tried tries
      → Calls facts old tries new → state_of new ≡ state_of old → n ≡ 1000 → DeskBegins facts old Refused new
  begins_never old new n tries times calls same all =
      let thousand = subst (λ k. AreTimes k tried tries) all times in
      record {
        calls = tries_made old new 1000 tries thousand calls;
        ends = (same, inr (inr (tries, thousand, ([], refl))));
      }
