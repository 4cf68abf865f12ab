-- What a desk over a shared hub answers to a command, and what it makes of its pass.
use Rattle.std.specs.Prelude.{◌≡◌, ◌≢◌, ◌⊎◌, ℕ, ◌≤◌, ◌<◌, Bool, true, false, Option, Some, None, List, All, length}
use Rattle.list_counts.specs.Documents.{all_counted, held_room}
use Rattle.list_counts.specs.Versions.{versions}
use Rattle.op_model.specs.Actions.{Asked}
use Rattle.op_model.specs.declared.lasting.Lasting.{Lasting}
use Rattle.op_model.specs.declared.lasting.Neighbour.{Neighbour}
use Rattle.op_model.specs.Text.{rev}
use Rattle.op_model.specs.Machine.{Ticket, ack, acknowledged, known_ticket}
use Rattle.hub_parts.specs.Locked.{LockedHeld}
use Rattle.hub_parts.specs.Refusal.{number_of as number_of_locked}
use Rattle.placed_edits.specs.Placed.{are_placed, Placed}
use Rattle.list_counts.specs.declared.peer_counts.PeerCounts.{PeerCounts}
use Rattle.session_lines.specs.Saying.{number_of}
use Rattle.session_lines.specs.declared.command.Command.{Command}
use Rattle.session_lines.specs.declared.command.Command.TheVariants as command
use Rattle.session_lines.specs.declared.answer.Answer.{Answer}
use Rattle.session_lines.specs.declared.answer.Answer.TheVariants.{Edited, Text, Spans, Versions, Changes, Anchors, Places, Exported}
use Rattle.session_lines.specs.declared.answer.Answer.TheVariants.{Status, Peers, Documents, Room, Stopped, Done, Refused, RefusedAt}
use Rattle.session_lines.specs.declared.answer.State.{State}
use Rattle.session_lines.specs.declared.answer.State.TheVariants as state
use Rattle.session_lines.specs.declared.refusal.Refusal.{Refusal}
use Rattle.session_lines.specs.declared.refusal.Refusal.TheVariants.{Memory, Failed, Stopping}
use Rattle.replica_core.specs.Places.{places_of}
use Rattle.span_export.specs.declared.exporting.Form.{Form}
use Rattle.session_threads.specs.HubServing.{anchors_answer, AnswersChanges, exported_answer, found_answer, spans_answer, text_answer}
use Rattle.session_threads.specs.HubCalls.{is_edit_refusal as is_hub_refusal}
use Rattle.shared_hub.specs.Books.{PassHeld}
use Rattle.shared_hub.specs.Guarded.{after_ticket}
use Rattle.shared_hub.specs.Peers.{IsCounted}
use Rattle.shared_hub.specs.Shared.{asked_then, EntersAsked, EntersTo, Moment, MomentOf, RefusesAsked}
use Rattle.shared_hub.specs.declared.refusal.SharedRefusal.{SharedRefusal}
use Rattle.shared_hub.specs.declared.refusal.SharedRefusal.TheVariants as refused_as

-- an edit may be refused so: as by a hub that is held alone, or since the hub was asked to stop
abbrev pub is_edit_refusal : SharedRefusal → Bool
is_edit_refusal (refused_as.Locked e) = is_hub_refusal (number_of_locked e)
is_edit_refusal (refused_as.Change e at) = is_hub_refusal (number_of_locked e)
is_edit_refusal refused_as.Stopping = true

-- the hub gave a ticket for the edit that is asked for, and later the ticket was acknowledged, each at a moment that the pass has entered: only
-- so an edit is answered
pub record IsAcknowledged (old : PassHeld) (asks : LockedHeld → Asked) (rev : ℕ) (new : PassHeld) : Type 0 where
  pub given : Ticket
  pub between : PassHeld
  pub edited : EntersAsked asks old (after_ticket given old) between given
  pub acked : EntersTo between between new (ack given) (acknowledged true)
  pub same : given.rev ≡ rev

-- the hub gave a ticket, which at some moment wasn't settled; what became of it isn't known: the device failed, or no commit could
-- begin
pub record IsLeftOpen (old : PassHeld) (asks : LockedHeld → Asked) (new : PassHeld) : Type 0 where
  pub given : Ticket
  pub edited : EntersAsked asks old (after_ticket given old) new given
  pub unsettled : MomentOf new (λ l. l.replica.settled < given.end)

-- the hub refused the edit with this number, and for this one of several changes, if it was for one; or it was asked to stop before, and at
-- some moment no edit was made under its token
pub record IsRefusedEdit (old : PassHeld) (asks : LockedHeld → Asked) (refusal : Refusal) (place : Option ℕ) (new : PassHeld) : Type 0 where
  pub same : new ≡ old
  pub cause : refusal ≢ Stopping → RefusesAsked asks old (number_of refusal) place
  pub stopped : refusal ≡ Stopping → MomentOf old (λ l. known_ticket l.replica (asks l) ≡ None)

-- an edit is acknowledged; or the hub refused it so; or it is answered as failed. `asks` gives the action by what stands under the lock
abbrev pub ServesEdit : PassHeld → (LockedHeld → Asked) → Answer → PassHeld → Type 0
ServesEdit old asks (Edited rev) new = IsAcknowledged old asks rev new
ServesEdit old asks (Refused refusal) new =
    IsRefusedEdit old asks refusal None new ⊎ ((refusal ≡ Failed) × IsLeftOpen old asks new)
ServesEdit old asks (RefusedAt refusal at) new = (refusal ≢ Stopping) × IsRefusedEdit old asks refusal (Some at) new
ServesEdit old asks (Text rev t) new = ⊥
ServesEdit old asks (Spans rev s) new = ⊥
ServesEdit old asks (Versions rev versions) new = ⊥
ServesEdit old asks (Changes rev changes) new = ⊥
ServesEdit old asks (Anchors rev anchors) new = ⊥
ServesEdit old asks (Places rev places) new = ⊥
ServesEdit old asks (Exported rev bytes) new = ⊥
ServesEdit old asks (Status applied settled s) new = ⊥
ServesEdit old asks (Peers peers sessions) new = ⊥
ServesEdit old asks (Documents documents) new = ⊥
ServesEdit old asks (Room room) new = ⊥
ServesEdit old asks Stopped new = ⊥
ServesEdit old asks Done new = ⊥

-- an edit at places that last, or by numbers; or there was no memory for the numbers of its places, at some moment at which it wasn't made
abbrev pub ServesPlaced : PassHeld → Placed → Answer → PassHeld → Type 0
ServesPlaced old p answer new =
    ServesEdit old (asked_then p) answer new
    ⊎ ((are_placed p.spots ≡ true) × MomentOf old (λ l. known_ticket l.replica p.asked ≡ None) × (answer ≡ Refused Memory) × (new ≡ old))

-- the text of a document at some moment, at which the pass's entries were the kept steps of its number, or as it was before that; or out of
-- memory
abbrev pub ServesText : PassHeld → ℕ → Option ℕ → Answer → PassHeld → Type 0
ServesText old doc at_rev answer new =
    (new ≡ old) × ((answer ≡ Refused Memory) ⊎ MomentOf old (λ l. answer ≡ text_answer l.replica.list doc at_rev))

-- the spans of a document likewise
abbrev pub ServesSpans : PassHeld → ℕ → Option ℕ → Answer → PassHeld → Type 0
ServesSpans old doc at_rev answer new =
    (new ≡ old) × ((answer ≡ Refused Memory) ⊎ MomentOf old (λ l. answer ≡ spans_answer l.replica.list doc at_rev))

-- the versions of a document at some moment, or out of memory
abbrev pub ServesVersions : PassHeld → ℕ → ℕ → Answer → PassHeld → Type 0
ServesVersions old doc every answer new =
    (new ≡ old)
    × ((answer ≡ Refused Memory)
    ⊎ MomentOf old (λ l. answer ≡ Versions (rev l.replica.list doc) (versions l.replica.list doc every)))

-- what changed in a document at some moment, or that its number of then isn't known any more or not yet; or out of memory
abbrev pub ServesChanges : PassHeld → ℕ → ℕ → Answer → PassHeld → Type 0
ServesChanges old doc since answer new =
    (new ≡ old)
    × ((answer ≡ Refused Memory)
    ⊎ MomentOf old (λ l. AnswersChanges l.replica doc since answer))

-- places of a document that last, at some moment, or that a number was beyond the end of its text; or out of memory
abbrev pub ServesAnchors : PassHeld → ℕ → List ℕ → Neighbour → Answer → PassHeld → Type 0
ServesAnchors old doc at side answer new =
    (new ≡ old)
    × ((answer ≡ Refused Memory)
    ⊎ MomentOf old (λ l. answer ≡ anchors_answer l.replica.list doc at side))

-- where places of a document stood at some moment, or out of memory
abbrev pub ServesPlaces : PassHeld → ℕ → List Lasting → Answer → PassHeld → Type 0
ServesPlaces old doc anchors answer new =
    (new ≡ old)
    × ((answer ≡ Refused Memory)
    ⊎ MomentOf old (λ l. answer ≡ Places (rev l.replica.list doc) (places_of l.replica.list doc anchors)))

-- where a text stood in a document at some moment, or out of memory
abbrev pub ServesFind : PassHeld → ℕ → List ℕ → ℕ → Answer → PassHeld → Type 0
ServesFind old doc sought from answer new =
    (new ≡ old)
    × ((answer ≡ Refused Memory)
    ⊎ MomentOf old (λ l. answer ≡ found_answer l.replica.list doc sought from))

-- a document of some moment as other programs read it, or out of memory
abbrev pub ServesExport : PassHeld → ℕ → Form → Answer → PassHeld → Type 0
ServesExport old doc form answer new =
    (new ≡ old)
    × ((answer ≡ Refused Memory)
    ⊎ MomentOf old (λ l. answer ≡ exported_answer l.replica.list doc form))

-- what was counted of each document at some moment, or out of memory
abbrev pub ServesDocuments : PassHeld → Answer → PassHeld → Type 0
ServesDocuments old answer new =
    (new ≡ old) × ((answer ≡ Refused Memory) ⊎ MomentOf old (λ l. answer ≡ Documents (all_counted l.replica.list)))

-- how much there was of what there is a limit to, at some moment
abbrev pub ServesRoom : PassHeld → Answer → PassHeld → Type 0
ServesRoom old answer new = (new ≡ old) × MomentOf old (λ l. answer ≡ Room (held_room l.replica))

-- whether edits are taken: a failure that was told goes before a stop
abbrev pub state_in : Bool → Bool → State
state_in true stopping = state.Failed
state_in false true = state.Stopping
state_in false false = state.Open

-- how far the hub was at some moment
abbrev pub ServesStatus : PassHeld → Answer → PassHeld → Type 0
ServesStatus old answer new =
    (new ≡ old)
    × MomentOf old (λ l. (stopping : Bool)
    × (answer ≡ Status (length l.replica.list) l.replica.settled (state_in l.failure_told stopping)))

-- who was connected: the counts of each peer are those beside the list at some moment; or out of memory
abbrev pub ServesPeers : PassHeld → Answer → PassHeld → Type 0
ServesPeers old answer new =
    (new ≡ old)
    × ((answer ≡ Refused Memory)
    ⊎ MomentOf old (λ l. (peers : List PeerCounts) × (sessions : ℕ)
    × (answer ≡ Peers peers sessions) × All (IsCounted l.replica.list) peers))

-- a stop is answered where at some moment all was settled, or as failed
abbrev pub ServesStop : PassHeld → Answer → PassHeld → Type 0
ServesStop old answer new =
    (new ≡ old)
    × ((answer ≡ Refused Failed)
    ⊎ ((answer ≡ Stopped) × Moment (λ l. length l.replica.list ≤ l.replica.settled)))

-- what is answered to a command, and what the pass is then
abbrev pub Serves : PassHeld → Command → Answer → PassHeld → Type 0
Serves old (command.Edit p) answer new = ServesPlaced old p answer new
Serves old (command.Text doc at_rev) answer new = ServesText old doc at_rev answer new
Serves old (command.Spans doc at_rev) answer new = ServesSpans old doc at_rev answer new
Serves old (command.Versions doc every) answer new = ServesVersions old doc every answer new
Serves old (command.Changes doc since) answer new = ServesChanges old doc since answer new
Serves old (command.Anchors doc at side) answer new = ServesAnchors old doc at side answer new
Serves old (command.Places doc anchors) answer new = ServesPlaces old doc anchors answer new
Serves old (command.Find doc text from) answer new = ServesFind old doc text from answer new
Serves old (command.Export doc form) answer new = ServesExport old doc form answer new
Serves old command.Status answer new = ServesStatus old answer new
Serves old command.Peers answer new = ServesPeers old answer new
Serves old command.Documents answer new = ServesDocuments old answer new
Serves old command.Room answer new = ServesRoom old answer new
Serves old command.Stop answer new = ServesStop old answer new
