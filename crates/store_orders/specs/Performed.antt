-- What an order does to a disk, and how that ends.
use Rattle.std.specs.Prelude.{◌≡◌, ◌⊎◌, ◌↔◌, ℕ, Bool, true, false, List, Option, Result, Ok, Err, ⊤, OnOk, OnErr, IsErr, IsErrAnd, IfErr}
use Rattle.std.specs.Io.KnownBytes.{Appends}
use Rattle.byte_streams.specs.Fronts.{AppendsFront}
use Rattle.disk_trait.specs.declared.facts.DiskFacts.{Ghosts}
use Rattle.root_slots.specs.Root.{version_of}
use Rattle.op_model.specs.Machine.{opened}
use Rattle.group_commit.specs.Held.{StoreHeld}
use Rattle.group_commit.specs.NewFile.{IsNew, RefusesInit, number_of as number_of_init}
use Rattle.group_commit.specs.Opening.{IsLoaded, IsLookedAt, HandsBack}
use Rattle.group_commit.specs.declared.init_fault.InitError.{InitError}
use Rattle.recovery.specs.Faults.{IsFault, failures_of, is_of_sync, number_of as number_of_open}
use Rattle.recovery.specs.Image.{IsImage}
use Rattle.recovery.specs.declared.open_fault.OpenError.{OpenError}
use Rattle.locked_replica.specs.Hub.{Parts, state_of}
use Rattle.command_syntax.specs.declared.store_order.StoreOrder.{StoreOrder}
use Rattle.command_syntax.specs.declared.store_order.StoreOrder.TheVariants as order
use Rattle.session_lines.specs.Saying.{said_done}
use Rattle.session_lines.specs.declared.answer.Answer.{Answer}
use Rattle.session_lines.specs.declared.command.Command.TheVariants as command
use Rattle.session_threads.specs.Faults.{number_of as number_of_session}
use Rattle.session_threads.specs.HeldDesk.{HeldDesk}
use Rattle.session_threads.specs.HubServing.{Serves}
use Rattle.session_threads.specs.Outcomes.{Served, CutShort}
use Rattle.session_threads.specs.declared.fault.SessionFault.{SessionFault}
use Rattle.store_orders.specs.Ends.{number_of}
use Rattle.store_orders.specs.declared.fault.Fault.{Fault}
use Rattle.store_orders.specs.declared.fault.Fault.TheVariants.{Failed}
use Rattle.store_orders.specs.declared.performing.TheConstants.{SESSION}

-- the replica of a store in memory, 00000000-0000-4000-8000-000000000001
abbrev pub first_replica : ℕ
first_replica = 302240678275694148452353

-- a device that failed is told before the stream
abbrev pub end_of : Bool → Result ⊤ Fault → Result ⊤ Fault
end_of true served = Err Failed
end_of false served = served

module _ {D : Type 0} (facts : Ghosts D) where
  -- A desk served what was read, line by line, and then a stop. The lines were answered, or cut short.
  pub record ServesAndStops (old new : HeldDesk D) (input output_old output_new : Option (List ℕ)) (end : Result ⊤ Fault) : Type 0 where
    pub rest : Option (List ℕ)
    pub between : HeldDesk D
    pub ok : OnOk end (Served (Serves facts) old between input rest output_old output_new)
    pub err : OnErr end (CutShort (Serves facts) old between input rest output_old output_new)
    pub told : IfErr end (λ fault. (cause : SessionFault) × (number_of fault ≡ number_of_session cause))
    pub answer : Answer
    pub stopped : Serves facts between command.Stop answer new

  -- A hub is opened of a disk: it is in the state right after opening the file's image, and its store is of the file's live root.
  pub record IsOpened (old : D) (hub : Parts D) : Type 0 where
    pub image : facts.tells old → IsImage (facts.content old) hub.replica.replica (version_of hub.store.current.body) hub.replica.list
    pub state : state_of hub ≡ opened hub.replica.replica hub.replica.list (version_of hub.store.current.body)
    pub loaded : IsLoaded facts old hub.store hub.replica.replica hub.replica.list
    pub looked : IsLookedAt facts 0 1 old hub.store.disk

  module _ (old new : D) (output_old output_new : Option (List ℕ)) (end : Result ⊤ Fault) where
    -- a new file was made of the disk's, and that was said, or a beginning of it
    pub record IsMade (replica : ℕ) : Type 0 where
      pub store : StoreHeld D
      pub new_store : IsNew facts replica old store
      pub disk : new ≡ store.disk
      pub ok : OnOk end (Appends output_old output_new said_done)
      pub err : OnErr end (AppendsFront output_old output_new said_done)

    -- no file was made, for this cause, and nothing was said
    pub record IsNotMade (replica : ℕ) : Type 0 where
      pub cause : InitError
      pub told : IsErrAnd end (λ fault. number_of fault ≡ number_of_init cause)
      pub refuses : facts.tells old → RefusesInit facts replica cause old new
      pub tells : facts.tells new ↔ facts.tells old
      pub silent : output_new ≡ output_old

    -- a session was served over the hub of the disk's file, and the disk is what that left
    pub record IsServed (input : Option (List ℕ)) : Type 0 where
      pub hub : Parts D
      pub last : HeldDesk D
      pub served : Result ⊤ Fault
      pub is_opened : IsOpened old hub
      pub serves : ServesAndStops (record { hub = hub; session = SESSION; stopping = false }) last input output_old output_new served
      pub is_end : end ≡ end_of last.hub.store.failed served
      pub disk : new ≡ last.hub.store.disk

    -- the file can't be opened, for this cause, and nothing was said
    pub record IsUnopened : Type 0 where
      pub cause : OpenError
      pub told : IsErrAnd end (λ fault. number_of fault ≡ number_of_open cause)
      pub fault : facts.tells old → IsFault cause (facts.content old)
      pub back : HandsBack facts (failures_of cause) (is_of_sync cause) old new
      pub silent : output_new ≡ output_old

    -- a file is made, or not
    abbrev pub Makes : ℕ → Type 0
    Makes replica = IsMade replica ⊎ IsNotMade replica

    -- a session is served, or the file can't be opened
    abbrev pub Edits : Option (List ℕ) → Type 0
    Edits input = IsServed input ⊎ IsUnopened

  -- What an order does: it makes a file, or serves a session over one, or, in memory, both.
  abbrev pub Performs : StoreOrder → Option (List ℕ) → D → D → Option (List ℕ) → Option (List ℕ) → Result ⊤ Fault → Type 0
  Performs order.InMemory input old new output_old output_new end =
      ((middle : D) × (said : Option (List ℕ)) × Makes old middle output_old said (Ok tt) first_replica
      × Edits middle new said output_new end input)
      ⊎ (IsErr end × Makes old new output_old output_new end first_replica)
  Performs (order.Init file replica) input old new output_old output_new end = Makes old new output_old output_new end replica
  Performs (order.Edit file) input old new output_old output_new end = Edits old new output_old output_new end input
