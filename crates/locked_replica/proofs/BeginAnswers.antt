-- A begin that the store answers.
use Rattle.std.proofs.Common.{◌≡◌, ◌≢◌, ℕ, suc, ◌+◌, ◌==◌, Bool, true, false, ◌&&◌, nat_lt, List, [], ◌∷◌, length}
use Rattle.std.proofs.Common.{drop, refl, sym, ap, ◌∙◌, arith, Option, Some, None}
use Rattle.std.proofs.Common.{Result, Ok, Err}
use Rattle.disk_trait.specs.Calls.{IsLawful}
use Rattle.disk_trait.specs.declared.facts.DiskFacts.{Ghosts}
use Rattle.op_model.specs.declared.op.Op.{Op}
use Rattle.op_model.specs.Machine.{begin, begin_answer}
use Rattle.op_model.specs.Records.{stream_length}
use Rattle.root_slots.specs.Root.{version_of, count_of}
use Rattle.op_model.specs.Held.{ReplicaHeld}
use Rattle.group_commit.specs.Begin.{is_idle, is_none, has_room, begin_due, Begins, IsAnswer}
use Rattle.group_commit.specs.Held.{StoreHeld}
use Rattle.group_commit.specs.Saved.{Saved}
use Rattle.group_commit.specs.declared.error.StoreError.{StoreError}
use Rattle.locked_replica.specs.Hub.{committed, state_of}
use Rattle.locked_replica.proofs.Fits.{Fits, CommitFits}
use Rattle.locked_replica.specs.Calls.{IsCall, Counts, StoreBegins}
use Rattle.locked_replica.proofs.PartsOf.{parts}
use Rattle.locked_replica.proofs.QuietCalls.{quiet_call, counts_same}
use Rattle.locked_replica.proofs.RoomLemmas.{room_is_version, none_behind, behind_front}
use Rattle.locked_replica.proofs.StateLemmas.{answer_due, begin_as_due, begin_step, due_begun, due_by, was_due, has_number, no_number}
use Rattle.std.proofs.lemmas.Bool.{ltb-false}
use Rattle.std.proofs.lemmas.Bool.Decides.{nat_tests}
use Rattle.group_commit.specs.Moving.{moves}
use Rattle.group_commit.proofs.BeginLemmas.{base_body, idle_is}
use Rattle.locked_replica.proofs.BegunCommits.{counts_begun}

-- no operations are those of a list without length
pub none_is : (ops : List Op) → (length ops == 0) ≡ is_none ops
none_is [] = refl
none_is (op ∷ ops) = some (length ops)
  where
    some : (n : ℕ) → (suc n == 0) ≡ false
    some n = grind (arith, nat_tests)

-- what is settled is what the live root has, where no commit is through
pub all_settled : (idle : Bool) (h : ReplicaHeld) (current next : Saved) → CommitFits idle h current next → (idle && nat_lt h.settled (count_of current.body)) ≡ false
    → h.settled ≡ count_of current.body
all_settled true h current next rest none = let least = ltb-false h.settled (count_of current.body) none in let most = rest.settled in omega (arith, least, most)
all_settled false h current next way none = way.settled

-- a begin that the store answers
pub begin_made : {D : Type 0} {failure_told : Bool} (facts : Ghosts D) (h : ReplicaHeld) (s new : StoreHeld D) (answer : Result (Option ℕ) StoreError)
    → (facts.tells s.disk → IsLawful facts s.disk) → Fits facts (parts h s failure_told) → Fits facts (parts h new failure_told) → s.failed ≡ false
    → (is_idle s.phase && nat_lt h.settled (committed s)) ≡ false
    → IsAnswer (begin_due s (length (drop h.settled h.list)) (stream_length (drop h.settled h.list))) answer
    → ((n : ℕ) → answer ≡ Ok (Some n) → (records : List ℕ) × Begins facts s (drop h.settled h.list) records new)
    → (((n : ℕ) → answer ≢ Ok (Some n)) → new ≡ s)
    → IsCall facts begin (answer_due answer) (parts h s failure_told) (parts h new failure_told)
begin_made {D} {failure_told = failure_told} facts h s new answer lawful fits after works none is_answer begins stays = its_call
  where
    settled : h.settled ≡ committed s
    settled = all_settled (is_idle s.phase) h s.current s.next fits.commit none

    rest : List Op
    rest = drop h.settled h.list

    behind : committed s + length rest ≡ length h.list
    behind = rw settled (behind_front (committed s) h.list fits.live.within)

    -- what is due of the store, by its tests
    due_is : begin_due s (length (drop h.settled h.list)) (stream_length (drop h.settled h.list))
        ≡ due_by (is_idle s.phase) (is_none (drop h.settled h.list)) (has_room s.current (drop h.settled h.list)) (committed s + length (drop h.settled h.list))
    due_is = rw (works, none_is (drop h.settled h.list)) refl

    machine : begin_answer (state_of (parts h s failure_told))
        ≡ answer_due (begin_due s (length (drop h.settled h.list)) (stream_length (drop h.settled h.list)))
    machine =
        rw (works, none_is (drop h.settled h.list)) (begin_as_due h failure_told (is_idle s.phase) (is_none (drop h.settled h.list)) (has_room s.current (drop h.settled h.list)) (committed s) (count_of s.next.body)
        (version_of s.current.body) (committed s + length (drop h.settled h.list)) none (none_behind h.settled h.list)
        (λ idle. rw settled (room_is_version h s.current fits.sound.closed fits.live)) (λ idle. behind))

    due : (n : ℕ) → answer ≡ Ok (Some n)
        → (is_idle s.phase ≡ true) × (is_none (drop h.settled h.list) ≡ false) × (committed s + length (drop h.settled h.list) ≡ n)
    due n is =
        due_begun (is_idle s.phase) (is_none (drop h.settled h.list)) (has_room s.current (drop h.settled h.list)) _ n
        (sym due_is ∙ was_due (begin_due s (length (drop h.settled h.list)) (stream_length (drop h.settled h.list))) answer n is is_answer)

    new_state : (n : ℕ) → answer ≡ Ok (Some n)
        → state_of (parts h new failure_told) ≡ record (state_of (parts h s failure_told)) { commit = Some (record { count = n; through = false }) }
    new_state n is =
        let b = (begins n is).1.begins in
        let all = b.follows.count ∙ ap (λ body. count_of body + length rest) (base_body (moves s.current) s.current) ∙ (due n is).2 in
        rw (works, b.works, b.phase, b.current, all) refl

    its_disk : (a : Result (Option ℕ) StoreError) → answer ≡ a → new.disk ≡ s.disk
    its_disk (Ok (Some n)) is = (begins n is).1.begins.disk
    its_disk (Ok None) is = ap (λ t. t.disk) (stays (no_number answer (ap has_number is)))
    its_disk (Err e) is = ap (λ t. t.disk) (stays (no_number answer (ap has_number is)))

    -- at rest a commit has no writes and syncs left
    its_counts : (a : Result (Option ℕ) StoreError) → answer ≡ a → Counts facts (answer_due a) s new
    its_counts (Ok (Some n)) is = counts_begun facts s new (drop h.settled h.list) (begins n is).0 n (idle_is s.phase (due n is).0) works (begins n is).1
    its_counts (Ok None) is = rw (stays (no_number answer (ap has_number is))) (counts_same facts _ s refl refl)
    its_counts (Err e) is = rw (stays (no_number answer (ap has_number is))) (counts_same facts _ s refl refl)

    its_goes : (a : Result (Option ℕ) StoreError) → answer ≡ a → StoreBegins facts (answer_due a) (parts h s failure_told) new
    its_goes (Ok (Some n)) is = begins n is
    its_goes (Ok None) is = stays (no_number answer (ap has_number is))
    its_goes (Err e) is = stays (no_number answer (ap has_number is))

    its_call : IsCall facts begin (answer_due answer) (parts h s failure_told) (parts h new failure_told)
    its_call =
        let disk = its_disk answer refl in
        quiet_call facts begin (answer_due answer) (parts h s failure_told) (parts h new failure_told) disk (rw disk lawful)
        after
        (begin_step (state_of (parts h s failure_told)) (state_of (parts h new failure_told)) (begin_due s (length (drop h.settled h.list)) (stream_length (drop h.settled h.list))) answer works machine
        is_answer new_state (λ other. ap (λ t. state_of (parts h t failure_told)) (stays other)))
        (omega arith) refl (its_counts answer refl) (its_goes answer refl)
