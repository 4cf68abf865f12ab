-- What a desk over a hub answers to a command, and what it makes of the hub.
use Rattle.std.specs.Prelude.{◌≡◌, ◌≢◌, ◌⊎◌, ℕ, ◌<◌, take, Bool, true, false, ◌&&◌, List, [], ◌∷◌, ◌++◌, length, map, if◌then◌else◌}
use Rattle.std.specs.Prelude.{Option, Some, None, is_none}
use Rattle.disk_trait.specs.declared.facts.DiskFacts.{Ghosts}
use Rattle.list_counts.specs.Documents.{all_counted, held_room}
use Rattle.list_counts.specs.Versions.{versions}
use Rattle.op_model.specs.Actions.{Asked}
use Rattle.op_model.specs.declared.change_step.ChangeStep.{ChangeStep}
use Rattle.op_model.specs.declared.lasting.Lasting.{Lasting}
use Rattle.op_model.specs.declared.lasting.Neighbour.{Neighbour}
use Rattle.op_model.specs.declared.op.Op.{Op}
use Rattle.op_model.specs.Held.{ReplicaHeld}
use Rattle.op_model.specs.Text.{text, rev}
use Rattle.op_model.specs.Spans.{spans}
use Rattle.op_model.specs.Machine.{Event, Answer as Reply, Ticket, edit, ack, ticket, acknowledged, refused, known_ticket}
use Rattle.hub_parts.specs.Asked.{asked_now, looks_up}
use Rattle.hub_parts.specs.declared.meeting.TheConstants.{BEGIN_TRIES}
use Rattle.locked_replica.specs.Hub.{Parts, state_of}
use Rattle.placed_edits.specs.Placed.{Placed}
use Rattle.replica_core.specs.Changed.{AreChangesSince}
use Rattle.replica_core.specs.Past.{spans_past, text_past}
use Rattle.replica_core.specs.Places.{anchors_of, are_within, places_of}
use Rattle.replica_core.specs.RefusedAt.{place_told}
use Rattle.span_export.specs.Exported.{exported}
use Rattle.span_export.specs.declared.exporting.Form.{Form}
use Rattle.text_search.specs.Places.{places_of as found_in}
use Rattle.session_lines.specs.Saying.{number_of}
use Rattle.session_lines.specs.declared.command.Command.{Command}
use Rattle.session_lines.specs.declared.command.Command.TheVariants as command
use Rattle.session_lines.specs.declared.answer.Answer.{Answer}
use Rattle.session_lines.specs.declared.answer.Answer.TheVariants.{Edited, Text, Spans, Versions, Changes, Anchors, Places, Exported}
use Rattle.session_lines.specs.declared.answer.Answer.TheVariants.{Status, Peers, Documents, Room, Stopped, Refused, RefusedAt}
use Rattle.session_lines.specs.declared.answer.State.{State}
use Rattle.session_lines.specs.declared.answer.State.TheVariants as state
use Rattle.session_lines.specs.declared.refusal.Refusal.{Refusal}
use Rattle.session_lines.specs.declared.refusal.Refusal.TheVariants.{Memory, Range, Stale, Failed, Stopping}
use Rattle.session_threads.specs.HeldDesk.{HeldDesk}
use Rattle.locked_replica.specs.Run.{Calls}
use Rattle.session_threads.specs.HubCalls.{AreOfCommit, CannotSettle, Commits}

-- what is found is answered so; where nothing is, the number asked with is stale
abbrev pub or_stale : {A : Type 0} → (A → Answer) → Option A → Answer
or_stale f None = Refused Stale
or_stale f (Some x) = f x

-- the text of a document of these operations: of now, or as it was when it had so many, which it may not have had
abbrev pub text_answer : List Op → ℕ → Option ℕ → Answer
text_answer list doc None = Text (rev list doc) (text list doc)
text_answer list doc (Some count) = or_stale (λ seen. Text count seen) (text_past list doc count)

-- its spans likewise
abbrev pub spans_answer : List Op → ℕ → Option ℕ → Answer
spans_answer list doc None = Spans (rev list doc) (spans list doc)
spans_answer list doc (Some count) = or_stale (λ seen. Spans count seen) (spans_past list doc count)

-- so the text of a document is answered, or out of memory
abbrev pub ServesText : {D : Type 0} → HeldDesk D → ℕ → Option ℕ → Answer → Type 0
ServesText desk doc at_rev answer = (answer ≡ text_answer desk.hub.replica.list doc at_rev) ⊎ (answer ≡ Refused Memory)

-- so its spans are, or out of memory
abbrev pub ServesSpans : {D : Type 0} → HeldDesk D → ℕ → Option ℕ → Answer → Type 0
ServesSpans desk doc at_rev answer = (answer ≡ spans_answer desk.hub.replica.list doc at_rev) ⊎ (answer ≡ Refused Memory)

-- the versions of a document, or out of memory
abbrev pub ServesVersions : {D : Type 0} → HeldDesk D → ℕ → ℕ → Answer → Type 0
ServesVersions desk doc every answer =
    let list = desk.hub.replica.list in
    (answer ≡ Versions (rev list doc) (versions list doc every)) ⊎ (answer ≡ Refused Memory)

-- where a text stands in a document of these operations
abbrev pub found_answer : List Op → ℕ → List ℕ → ℕ → Answer
found_answer list doc sought from = Places (rev list doc) (map (λ at. Some at) (found_in sought (text list doc) from))

-- where a text stands in a document, or out of memory
abbrev pub ServesFind : {D : Type 0} → HeldDesk D → ℕ → List ℕ → ℕ → Answer → Type 0
ServesFind desk doc sought from answer =
    (answer ≡ found_answer desk.hub.replica.list doc sought from) ⊎ (answer ≡ Refused Memory)

-- a document of these operations as other programs read it
abbrev pub exported_answer : List Op → ℕ → Form → Answer
exported_answer list doc form = Exported (rev list doc) (exported form (spans list doc))

-- a document as other programs read it, or out of memory
abbrev pub ServesExport : {D : Type 0} → HeldDesk D → ℕ → Form → Answer → Type 0
ServesExport desk doc form answer = (answer ≡ exported_answer desk.hub.replica.list doc form) ⊎ (answer ≡ Refused Memory)

-- what is counted of each document, or out of memory
abbrev pub ServesDocuments : {D : Type 0} → HeldDesk D → Answer → Type 0
ServesDocuments desk answer = (answer ≡ Documents (all_counted desk.hub.replica.list)) ⊎ (answer ≡ Refused Memory)

-- how much there is of what there is a limit to
abbrev pub ServesRoom : {D : Type 0} → HeldDesk D → Answer → Type 0
ServesRoom desk answer = answer ≡ Room (held_room desk.hub.replica)

-- a document's number of operations isn't 0, and it had more when the hub was opened, or has fewer
abbrev pub IsUnknownRev : ReplicaHeld → ℕ → ℕ → Type 0
IsUnknownRev h doc since = (since ≢ 0) × ((since < rev (take h.opened h.list) doc) ⊎ (rev h.list doc < since))

-- what changed in a document; or that its number of then isn't known any more, or not yet; or out of memory
abbrev pub AnswersChanges : ReplicaHeld → ℕ → ℕ → Answer → Type 0
AnswersChanges h doc since answer =
    (answer ≡ Refused Memory) ⊎ (((answer ≡ Refused Stale) × IsUnknownRev h doc since)
    ⊎ ((steps : List ChangeStep) × (answer ≡ Changes (rev h.list doc) steps) × AreChangesSince h.list doc since steps))

abbrev pub ServesChanges : {D : Type 0} → HeldDesk D → ℕ → ℕ → Answer → Type 0
ServesChanges desk doc since answer = AnswersChanges desk.hub.replica doc since answer

-- places of a document that last, or that a number is beyond the end of its text
abbrev pub anchors_answer : List Op → ℕ → List ℕ → Neighbour → Answer
anchors_answer list doc at side = if are_within list doc at then Anchors (rev list doc) (anchors_of list doc at side) else Refused Range

-- so it is answered, or out of memory
abbrev pub ServesAnchors : {D : Type 0} → HeldDesk D → ℕ → List ℕ → Neighbour → Answer → Type 0
ServesAnchors desk doc at side answer =
    (answer ≡ anchors_answer desk.hub.replica.list doc at side) ⊎ (answer ≡ Refused Memory)

-- where places of a document stand, or out of memory
abbrev pub ServesPlaces : {D : Type 0} → HeldDesk D → ℕ → List Lasting → Answer → Type 0
ServesPlaces desk doc anchors answer =
    let list = desk.hub.replica.list in
    (answer ≡ Places (rev list doc) (places_of list doc anchors)) ⊎ (answer ≡ Refused Memory)

-- whether edits are taken: a failed device is told before a stop
abbrev pub state_in : Bool → Bool → State
state_in true stopping = state.Failed
state_in false true = state.Stopping
state_in false false = state.Open

-- how far the hub is
abbrev pub ServesStatus : {D : Type 0} → HeldDesk D → Answer → Type 0
ServesStatus desk answer =
    let held = desk.hub.replica in
    answer ≡ Status (length held.list) held.settled (state_in desk.hub.store.failed desk.stopping)

-- a session over a hub that is held alone is the only one, and no peers are linked
abbrev pub ServesPeers : Answer → Type 0
ServesPeers answer = answer ≡ Peers [] 1

-- an edit comes too late: after a stop, and it wasn't made before, under its token
abbrev pub comes_too_late : {D : Type 0} → HeldDesk D → Asked → Bool
comes_too_late desk e = desk.stopping && is_none (known_ticket desk.hub.replica e)

-- these calls acknowledge a ticket: at once, since it is settled already; or it isn't, all is committed, and then it is
pub data Acknowledge (t : Ticket) (calls : List (Event × Reply)) : Type 0 where
  at_once : calls ≡ (ack t, acknowledged true) ∷ [] → Acknowledge t calls
  after_commit : (commit : List (Event × Reply)) → AreOfCommit BEGIN_TRIES commit
      → calls ≡ (ack t, acknowledged false) ∷ commit ++ (ack t, acknowledged true) ∷ [] → Acknowledge t calls

-- the answer to an edit that is refused names a change, if there is one to name
abbrev pub refused_answer : Refusal → Option ℕ → Answer
refused_answer refusal None = Refused refusal
refused_answer refusal (Some at) = RefusedAt refusal at

module _ {D : Type 0} (facts : Ghosts D) where
  -- the hub gave a ticket for the session's edit, and then the ticket was acknowledged: only so an edit is answered
  pub record IsAcknowledged (session : ℕ) (old new : Parts D) (e : Asked) (rev : ℕ) : Type 0 where
    pub given : Ticket
    pub acks : List (Event × Reply)
    pub how : Acknowledge given acks
    pub calls : Calls facts old ((edit session e, ticket given) ∷ acks) new
    pub same : given.rev ≡ rev

  -- the hub gave a ticket, which wasn't settled, and then not all could be settled
  pub record IsLeftOpen (session : ℕ) (old new : Parts D) (e : Asked) : Type 0 where
    pub given : Ticket
    pub commit : List (Event × Reply)
    pub only : AreOfCommit BEGIN_TRIES commit
    pub calls : Calls facts old ((edit session e, ticket given) ∷ (ack given, acknowledged false) ∷ commit) new
    pub cause : CannotSettle (state_of new) commit

  -- the hub refused it so, and with 5 or 7 this is the one of several changes that it was refused for
  pub record IsRefusedEdit (session : ℕ) (old new : Parts D) (e : Asked) (refusal : Refusal) (place : Option ℕ) : Type 0 where
    pub calls : Calls facts old ((edit session e, refused (number_of refusal)) ∷ []) new
    pub told : place_told old.replica e (number_of refusal) ≡ place

  -- A session's edit is acknowledged; or the hub refused it so, and the answer names a change exactly where there are several and the
  -- refusal is for one of them; or it is answered as failed.
  abbrev pub AnswersEdit : ℕ → Parts D → Asked → Answer → Parts D → Type 0
  AnswersEdit session old e (Edited rev) new = IsAcknowledged session old new e rev
  AnswersEdit session old e (Refused refusal) new =
      IsRefusedEdit session old new e refusal None ⊎ ((refusal ≡ Failed) × IsLeftOpen session old new e)
  AnswersEdit session old e (RefusedAt refusal at) new = IsRefusedEdit session old new e refusal (Some at)
  AnswersEdit session old e _ new = ⊥

  -- a ticket was acknowledged; or it wasn't settled, and then not all could be settled
  abbrev pub AnswersTicket : Parts D → Ticket → Answer → Parts D → Type 0
  AnswersTicket old given (Edited rev) new =
      (acks : List (Event × Reply)) × Acknowledge given acks × Calls facts old acks new × (given.rev ≡ rev)
  AnswersTicket old given (Refused refusal) new =
      (commit : List (Event × Reply)) × AreOfCommit BEGIN_TRIES commit
      × Calls facts old ((ack given, acknowledged false) ∷ commit) new × (refusal ≡ Failed) × CannotSettle (state_of new) commit
  AnswersTicket old given _ new = ⊥

  -- an edit that comes too late is refused, and nothing changes; each other one the hub is asked for
  abbrev pub ServesEdit : HeldDesk D → Asked → Answer → HeldDesk D → Type 0
  ServesEdit old e answer new = elim (comes_too_late old e) [
    | true ↦ (answer ≡ Refused Stopping) × (new ≡ old)
    | false ↦ AnswersEdit old.session old.hub e answer new.hub × (new ≡ record old { hub = new.hub })
  ]

  -- An edit at places that last is made as the numbers that they have in the hub's list. Or there was no memory for these numbers, and nothing
  -- changes: never if the edit comes too late, or was made before.
  abbrev pub ServesPlaced : HeldDesk D → Placed → Answer → HeldDesk D → Type 0
  ServesPlaced old p answer new =
      ServesEdit old (asked_now old.hub.replica p) answer new
      ⊎ ((looks_up old.hub.replica p ≡ true) × (comes_too_late old p.asked ≡ false) × (answer ≡ Refused Memory) × (new ≡ old))

  -- a stop is answered where all is settled, or as failed
  abbrev pub answer_to_stop : Bool → Answer
  answer_to_stop true = Stopped
  answer_to_stop false = Refused Failed

  abbrev pub ServesStop : HeldDesk D → Answer → HeldDesk D → Type 0
  ServesStop old answer new =
      (is_settled : Bool) × (answer ≡ answer_to_stop is_settled)
      × Commits facts old.hub is_settled new.hub × (new ≡ record old { hub = new.hub; stopping = true })

  -- what is answered to a command, and what the desk is then
  abbrev pub Serves : HeldDesk D → Command → Answer → HeldDesk D → Type 0
  Serves old (command.Edit p) answer new = ServesPlaced old p answer new
  Serves old (command.Text doc at_rev) answer new = ServesText old doc at_rev answer × (new ≡ old)
  Serves old (command.Spans doc at_rev) answer new = ServesSpans old doc at_rev answer × (new ≡ old)
  Serves old (command.Versions doc every) answer new = ServesVersions old doc every answer × (new ≡ old)
  Serves old (command.Changes doc since) answer new = ServesChanges old doc since answer × (new ≡ old)
  Serves old (command.Anchors doc at side) answer new = ServesAnchors old doc at side answer × (new ≡ old)
  Serves old (command.Places doc anchors) answer new = ServesPlaces old doc anchors answer × (new ≡ old)
  Serves old (command.Find doc text from) answer new = ServesFind old doc text from answer × (new ≡ old)
  Serves old (command.Export doc form) answer new = ServesExport old doc form answer × (new ≡ old)
  Serves old command.Status answer new = ServesStatus old answer × (new ≡ old)
  Serves old command.Peers answer new = ServesPeers answer × (new ≡ old)
  Serves old command.Documents answer new = ServesDocuments old answer × (new ≡ old)
  Serves old command.Room answer new = ServesRoom old answer × (new ≡ old)
  Serves old command.Stop answer new = ServesStop old answer new
