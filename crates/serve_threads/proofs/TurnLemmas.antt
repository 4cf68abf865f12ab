-- A turn of a daemon that begins with the disk of another one.
use Rattle.std.proofs.Common.{◌≡◌, ℕ, ◌+◌, ◌≤◌, List, length, take, sym, ap, ◌∙◌, arith}
use Rattle.std.proofs.lemmas.List.{length-append, length-take, take-append-le, take-take, take_all}
use Rattle.disk_trait.specs.Calls.{IsLawful}
use Rattle.disk_trait.specs.declared.facts.DiskFacts.{Ghosts}
use Rattle.piece_codec.proofs.StreamLaws.{one_list}
use Rattle.root_slots.specs.Root.{count_of, format_of, replica_of}
use Rattle.hub_parts.specs.Fitting.{side_of}
use Rattle.hub_parts.specs.Flusher.{FlusherHeld}
use Rattle.hub_parts.specs.Locked.{LockedHeld}
use Rattle.recovery.proofs.ImageLemmas.{body_in, bytes_in}
use Rattle.shared_hub.specs.Going.{ComesBack}
use Rattle.shared_hub.proofs.CrashLemmas.{fewer, turn_leaves}
use Rattle.shared_hub.proofs.FrontLemmas.{left_holds}
use Rattle.shared_hub.proofs.PromiseLemmas.{at_most}
use Rattle.serve_threads.specs.Turns.{Later, Reopens, StillHolds, next, after}

-- This flusher begins a turn with all operations that the live root of another one had at the end of an earlier turn, which was beside this
-- locked part: the same replica's, in their places.
record Continues {D : Type 0} (facts : Ghosts D) (end : FlusherHeld D) (before : LockedHeld) (f : FlusherHeld D) : Type 0 where
  tells : facts.tells f.store.disk
  owner : replica_of f.store.current.body ≡ before.replica.replica
  enough : count_of end.store.current.body ≤ count_of f.store.current.body
  within : count_of f.store.current.body ≤ length f.list
  same : take (count_of end.store.current.body) f.list ≡ take (count_of end.store.current.body) before.replica.list

-- what stands under the lock at the end of a turn has the operations with which its flusher began
begun_with : {D : Type 0} (facts : Ghosts D) (f : FlusherHeld D) (back : D) (n : ℕ) → (it : ComesBack facts f back) → n ≤ length f.list
    → take n it.beside.locked.replica.list ≡ take n f.list
begun_with facts f back n it few =
    let l = it.beside.locked in
    let now = it.flusher in
    let long : length now.list ≡ length f.list + length it.goes.list.0 = ap length it.goes.list.1 ∙ length-append f.list it.goes.list.0 in
    let within : n ≤ l.begun = grind (arith, few, long, ap length it.beside.fits.front, length-take l.begun l.replica.list) in
    sym (take-take n l.begun l.replica.list within) ∙ ap (λ ops. take n ops) (sym it.beside.fits.front) ∙ ap (λ ops. take n ops) it.goes.list.1
    ∙ take-append-le n f.list it.goes.list.0 few

-- the next turn begins with all that the live root had at the end of one
reopened : {D : Type 0} (facts : Ghosts D) (old : FlusherHeld D) (disk : D) (f : FlusherHeld D) → ((d : D) → facts.tells d → IsLawful facts d)
    → (it : ComesBack facts old disk) → facts.tells disk → Reopens facts disk f → Continues facts it.flusher it.beside.locked f
reopened facts old disk f lawful it told re =
    let now = it.flusher in
    let l = it.beside.locked in
    let n = count_of now.store.current.body in
    let content = facts.content disk in
    let survives = rw it.disk at ((lawful disk told).reads_survive) in
    let held = left_holds facts now (facts.content now.store.disk) it.kept (it.kept.left (rw it.disk at told) (facts.content now.store.disk) survives) in
    let root = held.root in
    let found = rw it.disk at (re.loaded.root told) in
    let stored_same = sym held.holds.holds ∙ found.holds in
    let body : root.body ≡ f.store.current.body = ap body_in stored_same in
    let bytes : root.stream ≡ f.store.current.stream = ap bytes_in stored_same in
    let ops = re.locked.replica.list in
    let spelled = re.loaded.history.spelled.some in
    let begun : re.locked.begun ≡ length ops = ap (λ x. x.begun) re.opened.locked in
    let list : ops ≡ take (count_of root.body) now.list =
    one_list (format_of f.store.current.body) (format_of root.body) ops (take (count_of root.body) now.list) f.store.current.stream spelled.spells
    (rw bytes at held.front.stream) in
    let all : f.list ≡ ops = re.opened.fits.front ∙ ap (λ k. take k ops) begun ∙ take_all (length ops) ops (omega arith) in
    let enough : n ≤ count_of root.body = held.enough in
    let within : n ≤ length now.list = it.kept.live.within in
    let few : n ≤ l.begun = grind (arith, within, ap length it.beside.fits.front, length-take l.begun l.replica.list) in
    record {
      tells = re.looked.tells.1 told;
      owner = ap replica_of (sym body) ∙ held.owner ∙ it.beside.fits.owner;
      enough = omega (arith, enough, ap count_of body);
      within = omega (arith, ap length all, spelled.counted);
      same = ap (λ ops. take n ops) (all ∙ list) ∙ take-take n (count_of root.body) now.list enough
          ∙ ap (λ ops. take n ops) it.beside.fits.front ∙ take-take n l.begun l.replica.list few;
    }

-- and so does each later one
continues : {D : Type 0} (facts : Ghosts D) (old : FlusherHeld D) (disk : D) (f : FlusherHeld D) → ((d : D) → facts.tells d → IsLawful facts d)
    → (it : ComesBack facts old disk) → facts.tells disk → Later facts disk f → Continues facts it.flusher it.beside.locked f
continues facts old disk last lawful it told (next f re) = reopened facts old disk f lawful it told re
continues facts old disk last lawful it told (after f between g later cb re) =
    let first = continues facts old disk f lawful it told later in
    let there = cb.goes.tells.1 first.tells in
    let second = reopened facts f between g lawful cb (rw cb.disk there) re in
    let n = count_of it.flusher.store.current.body in
    let middle = count_of cb.flusher.store.current.body in
    let a = first.enough in
    let b = cb.goes.live in
    let c = second.enough in
    let d = first.within in
    let few : n ≤ middle = omega (arith, a, b) in
    record {
      tells = second.tells;
      owner = second.owner ∙ sym cb.beside.fits.owner ∙ cb.goes.owner ∙ first.owner;
      enough = omega (arith, a, b, c);
      within = second.within;
      same = sym (take-take n middle g.list few) ∙ ap (λ ops. take n ops) second.same ∙ take-take n middle cb.beside.locked.replica.list few
          ∙ begun_with facts f between n cb (omega (arith, a, d)) ∙ first.same;
    }

-- what was settled at the end of a turn is in each file that a crash left at a moment of a later one
pub still_holds : {D : Type 0} (facts : Ghosts D) (old : FlusherHeld D) (f : FlusherHeld D) (disk back : D) (file : List ℕ)
    → ((d : D) → facts.tells d → IsLawful facts d) → (it : ComesBack facts old disk) → facts.tells disk → Later facts disk f
    → (last : ComesBack facts f back) → facts.left_since back (facts.time f.store.disk) file
    → StillHolds it.beside.locked last.beside.locked file
still_holds facts old f disk back file lawful it told later last left =
    let since = continues facts old disk f lawful it told later in
    let end = it.flusher in
    let before = it.beside.locked in
    let n = before.replica.settled in
    let most = at_most before (side_of end) it.beside.fits in
    let a = since.enough in
    let b = since.within in
    let all = count_of end.store.current.body in
    let few : n ≤ all = omega (arith, most) in
    record {
      owner = sym last.beside.fits.owner ∙ last.goes.owner ∙ since.owner;
      same = begun_with facts f back n last (omega (arith, few, a, b)) ∙ sym (take-take n all f.list few) ∙ ap (λ ops. take n ops) since.same
          ∙ take-take n all before.replica.list few;
      holds = fewer last.beside.locked.replica (count_of f.store.current.body) n file (omega (arith, few, a))
          (turn_leaves facts f back file last since.tells left);
    }
