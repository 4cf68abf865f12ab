-- An edit with a token acts once: over the lines of any sessions, and over all crashes between them.
use Rattle.std.specs.Prelude.{◌≡◌, ◌⊎◌, ℕ, ◌<◌, List, [], ◌∷◌, Option, Some}
use Rattle.disk_trait.specs.declared.facts.DiskFacts.{Ghosts}
use Rattle.op_model.specs.Actions.{Asked}
use Rattle.op_model.specs.declared.edit.Change.{Change}
use Rattle.op_model.specs.Made.{size_of}
use Rattle.op_model.specs.Machine.{Ticket, opened}
use Rattle.world_law.specs.Laws.{Answers}
use Rattle.root_slots.specs.Root.{version_of}
use Rattle.recovery.specs.Image.{IsImage}
use Rattle.locked_replica.specs.Hub.{Parts, state_of}
use Rattle.locked_replica.specs.Recovery.{HasAtLeast, Recovers}
use Rattle.session_lines.specs.declared.answer.Answer.{Answer}
use Rattle.session_lines.specs.declared.answer.Answer.TheVariants.{Edited}
use Rattle.session_threads.specs.Exchanges.{Exchanges}
use Rattle.session_threads.specs.HeldDesk.{HeldDesk}
use Rattle.session_threads.specs.HubServing.{Serves, ServesEdit}
use Rattle.session_threads.specs.Outcomes.{CutOff}

-- nothing is written, and the list has no operation more
abbrev pub ChangesNothing : {D : Type 0} → HeldDesk D → HeldDesk D → Type 0
ChangesNothing old new = (new.hub.store ≡ old.hub.store) × (new.hub.replica.list ≡ old.hub.replica.list)

-- how many operations the first change makes
abbrev pub first_size : List Change → ℕ
first_size [] = 0
first_size (c ∷ cs) = size_of c

-- one thing that a hub may go through
pub data Passage : Type 0 where
  session : Passage
  crash : Passage

module _ {D : Type 0} (facts : Ghosts D) where
  -- every file that a crash may leave now has all that is settled, as each hub tells (`Hub::survivors`)
  pub record Survives (hub : Parts D) : Type 0 where
    pub image : facts.tells hub.store.disk → (file : List ℕ) → facts.survives hub.store.disk file → Recovers hub file
    pub settled : facts.tells hub.store.disk → (file : List ℕ) → facts.survives hub.store.disk file
        → HasAtLeast hub.replica.settled hub.replica file

  -- an edit with this token was made with this rev, and it is settled: here, and in every file that a crash may leave now
  pub record Holds (token rev : ℕ) (hub : Parts D) : Type 0 where
    pub given : Ticket
    pub known : Answers (state_of hub) token given
    pub same : given.rev ≡ rev
    pub survives : Survives hub

  -- a desk answers lines of a session, all of them, or those until its stream failed
  abbrev pub HasSession : HeldDesk D → HeldDesk D → Type 0
  HasSession old new =
      (lines : List (Option (List ℕ))) × (text : List ℕ)
      × (Exchanges (Serves facts) old lines text new ⊎ CutOff (Serves facts) old lines text new)

  -- after some lines, an edit with this token, which doesn't begin with an insert of no text, is answered this rev
  pub record AnswersFirst (token rev : ℕ) (old new : HeldDesk D) : Type 0 where
    pub before : HeldDesk D
    pub lines : HasSession old before
    pub edit : Asked
    pub named : edit.token ≡ Some token
    pub some : 0 < first_size edit.changes
    pub served : ServesEdit facts before edit (Edited rev) new

  -- A file that a crash left, at some moment of a session or right after it, was opened as this hub (`Hub::open`). The last line of
  -- the session may be one that the crash cut off.
  pub record OpensAfter (old : HeldDesk D) (hub : Parts D) : Type 0 where
    pub last : HeldDesk D
    pub lines : HasSession old last
    pub tells : facts.tells old.hub.store.disk
    pub file : List ℕ
    pub left : facts.left_since last.hub.store.disk (facts.time old.hub.store.disk) file
    pub image : IsImage file hub.replica.replica (version_of hub.store.current.body) hub.replica.list
    pub state : state_of hub ≡ opened hub.replica.replica hub.replica.list (version_of hub.store.current.body)
    pub survives : Survives hub

  -- a hub goes through a session, or through a crash in one and its opening
  abbrev pub Passes : Parts D → Passage → Parts D → Type 0
  Passes old session new = (desk last : HeldDesk D) × (desk.hub ≡ old) × (last.hub ≡ new) × HasSession desk last
  Passes old crash new = (desk : HeldDesk D) × (desk.hub ≡ old) × OpensAfter desk new

  -- through any number of them, in any order
  abbrev pub Lives : Parts D → List Passage → Parts D → Type 0
  Lives old [] new = new ≡ old
  Lives old (p ∷ ps) new = (between : Parts D) × Passes old p between × Lives between ps new

  -- an edit that is answered holds from then on
  abbrev pub HoldsOnceAnswered : HeldDesk D → Type 0
  HoldsOnceAnswered old = (token rev : ℕ) (new : HeldDesk D) → AnswersFirst token rev old new → Holds token rev new.hub

  -- whatever the hub goes through
  abbrev pub HoldsForever : Type 0
  HoldsForever =
      (token rev : ℕ) (old new : Parts D) (passages : List Passage) → Holds token rev old → Lives old passages new
      → Holds token rev new

  -- and whenever it is sent again it is answered that rev, and changes nothing
  abbrev pub AnswersAgain : Type 0
  AnswersAgain =
      (token rev : ℕ) (old new : HeldDesk D) (e : Asked) (answer : Answer) → Holds token rev old.hub → e.token ≡ Some token
      → ServesEdit facts old e answer new → (answer ≡ Edited rev) × ChangesNothing old new

  -- So an edit with a token that was answered once is answered the same whenever it is sent again, and changes nothing, whatever
  -- sessions and crashes lie between.
  abbrev pub ActsOnce : HeldDesk D → Type 0
  ActsOnce old =
      (token rev : ℕ) (first later last : HeldDesk D) (passages : List Passage) (e : Asked) (answer : Answer)
      → AnswersFirst token rev old first → Lives first.hub passages later.hub → e.token ≡ Some token
      → ServesEdit facts later e answer last → (answer ≡ Edited rev) × ChangesNothing later last
