-- What every file has of an edit that was answered, whatever lines came before and after it.
use Rattle.std.specs.Prelude.{◌≡◌, ℕ, List}
use Rattle.byte_streams.specs.Fronts.{BeginsWith}
use Rattle.disk_trait.specs.declared.facts.DiskFacts.{Ghosts}
use Rattle.op_model.specs.Actions.{Asked}
use Rattle.op_model.specs.Machine.{State, Ticket, ticket, EditStep}
use Rattle.locked_replica.specs.Hub.{Parts, state_of}
use Rattle.locked_replica.specs.Recovery.{HasAtLeast}
use Rattle.session_lines.specs.declared.answer.Answer.TheVariants.{Edited}
use Rattle.session_threads.specs.ActsOnce.{HasSession}
use Rattle.session_threads.specs.HeldDesk.{HeldDesk}
use Rattle.session_threads.specs.HubServing.{ServesEdit}

-- The machine gave the edit a ticket with this rev. The list that it left is a beginning of the last one, and the file's image is a
-- beginning of that one too, which reaches at least to the ticket's end.
pub record IsInFile {D : Type 0} (before : HeldDesk D) (e : Asked) (rev : ℕ) (last : Parts D) (file : List ℕ) : Type 0 where
  pub given : Ticket
  pub made : State
  pub step : EditStep (state_of before.hub) before.session e (ticket given) made
  pub same : given.rev ≡ rev
  pub grown : BeginsWith last.replica.list made.held.list
  pub has : HasAtLeast given.end last.replica file

-- Let lines be answered, then an edit with a rev, and then lines again, the last perhaps in part. A file that a crash left at any moment
-- since that answer has the edit.
abbrev pub AnsweredStay : {D : Type 0} → Ghosts D → HeldDesk D → Type 0
AnsweredStay {D} facts old =
    (e : Asked) (rev : ℕ) (before after last : HeldDesk D) (file : List ℕ)
    → HasSession facts old before → ServesEdit facts before e (Edited rev) after → HasSession facts after last
    → facts.tells old.hub.store.disk → facts.left_since last.hub.store.disk (facts.time after.hub.store.disk) file
    → IsInFile before e rev last.hub file
