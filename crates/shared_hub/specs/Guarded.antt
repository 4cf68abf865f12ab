-- What stands under the lock of a shared hub.
use Rattle.std.specs.Prelude.{◌≡◌, ℕ, Bool, if◌then◌else◌, ◌∷◌, length, Result, Ok, Err, IfOk, IfErr, OnErr}
use Rattle.op_model.specs.Machine.{Ticket, after_edit as replica_after_edit}
use Rattle.op_model.specs.Actions.{Asked}
use Rattle.op_model.specs.declared.op.Op.{Op}
use Rattle.disk_trait.specs.declared.facts.DiskFacts.{Ghosts}
use Rattle.group_commit.specs.declared.error.StoreError.{StoreError}
use Rattle.hub_parts.specs.Locked.{IsLocked, LockedHeld}
use Rattle.hub_parts.specs.declared.met.Met.{Met}
use Rattle.replica_core.specs.Merging.{after_merge as replica_after_merge}
use Rattle.replica_core.specs.RefusedAt.{place_told}
use Rattle.replica_core.specs.declared.merged.Merged.{Merged}
use Rattle.replica_core.specs.declared.merged.Merged.TheVariants as merged_as
use Rattle.shared_hub.specs.Books.{BooksHeld, PassHeld, ends_of}
use Rattle.shared_hub.specs.Committing.{CommitterHeld, with_meeting}
use Rattle.shared_hub.specs.Moments.{with_book, with_moment}
use Rattle.shared_hub.specs.Refusal.{number_of, told_at}
use Rattle.shared_hub.specs.Shared.{MeetsSound}
use Rattle.shared_hub.specs.declared.refusal.SharedRefusal.{SharedRefusal}

-- the locked part, what each book holds, and whether it was asked to stop
pub record GuardedHeld : Type 0 where
  pub locked : LockedHeld
  pub books : BooksHeld
  pub stopping : Bool

-- the locked part is sound, and the pass has an entry for each kept step of its number
pub record IsMine (l : LockedHeld) (p : PassHeld) : Type 0 where
  pub sound : IsLocked l
  pub mine : p.entries ≡ ends_of p.number l.replica.steps

-- the pass with one entry more
abbrev pub with_end : PassHeld → ℕ → PassHeld
with_end p end = record p { entries = end ∷ p.entries }

-- the pass with the end of a ticket, if the edit is new
abbrev pub after_ticket : Ticket → PassHeld → PassHeld
after_ticket t p = if t.known then p else with_end p t.end

-- what an edit that left this locked part leaves of the pass: with a ticket, an entry more if the edit is new, and a moment more
abbrev pub after_edit : Result Ticket SharedRefusal → LockedHeld → PassHeld → PassHeld
after_edit (Ok t) l p = with_moment (after_ticket t p) l
after_edit (Err e) l p = p

-- what a merge leaves of the pass, behind which the list has this length: an entry more, where the operation was applied
abbrev pub after_merge : Result Merged SharedRefusal → ℕ → PassHeld → PassHeld
after_merge (Ok merged_as.Applied) end p = with_end p end
after_merge (Ok merged_as.Known) end p = p
after_merge (Ok merged_as.Early) end p = p
after_merge (Err e) end p = p

-- the pass has an entry more where the operation was applied, and else is as before
abbrev pub Merges : Result Merged SharedRefusal → PassHeld → PassHeld → Type 0
Merges result old new = (end : ℕ) × (new ≡ after_merge result end old)

-- An edit that a pass asks for: if it has a ticket, the locked part's replica has made it, and the pass has that moment, and an entry more
-- if the edit is new. If it is refused, all is as before, and the refusal names the change of several that it is for. Whether edits are still
-- taken stays as it was.
pub record EntersEdit (result : Result Ticket SharedRefusal) (edit : Asked) (before : GuardedHeld) (old : PassHeld) (after : GuardedHeld)
    (new : PassHeld) : Type 0 where
  pub made : IfOk result (λ t. after.locked ≡ record before.locked { replica = replica_after_edit t before.locked.replica old.number edit })
  pub pass : new ≡ after_edit result after.locked old
  pub same : OnErr result (after ≡ before)
  pub place : IfErr result (λ e. told_at e ≡ place_told before.locked.replica edit (number_of e))
  pub goes_on : after.stopping ≡ before.stopping

-- A meeting of what stands under the lock and what commits: its moment is entered for the flusher, and all else is as before.
pub record EntersMeeting {D : Type 0} (facts : Ghosts D) (before : GuardedHeld) (old : CommitterHeld D) (result : Result Met StoreError)
    (after : GuardedHeld) (new : CommitterHeld D) : Type 0 where
  pub meets : MeetsSound facts before.locked old.flusher result after.locked new.flusher
  pub entered : new ≡ with_meeting old after.locked new.flusher
  pub others : after ≡ record before { locked = after.locked; books = with_book before.books 0 new.pass.moments }

-- A peer's operation that a pass brings: where it is merged, the locked part's replica has it, and the pass has an entry more if it was
-- applied. Where it is refused, all is as before. Whether operations are still taken stays as it was.
pub record EntersMerge (result : Result Merged SharedRefusal) (op : Op) (before : GuardedHeld) (old : PassHeld) (after : GuardedHeld)
    (new : PassHeld) : Type 0 where
  pub made : IfOk result (λ m. after.locked ≡ record before.locked { replica = replica_after_merge m before.locked.replica old.number op })
  pub pass : new ≡ after_merge result (length after.locked.replica.list) old
  pub same : OnErr result (after ≡ before)
  pub goes_on : after.stopping ≡ before.stopping
