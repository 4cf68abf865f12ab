-- A commit that begins: the writes and syncs before it.
use Rattle.std.proofs.Common.{◌≡◌, ℕ, ◌+◌, ◌-◌, false, List, length, ap, ◌∙◌, arith}
use Rattle.std.specs.Prelude.{if◌then◌else◌}
use Rattle.disk_trait.specs.declared.facts.DiskFacts.{Ghosts}
use Rattle.op_model.specs.declared.op.Op.{Op}
use Rattle.op_model.specs.Machine.{begun as begun_answer}
use Rattle.group_commit.specs.Begin.{Begins}
use Rattle.group_commit.specs.Held.{StoreHeld}
use Rattle.group_commit.specs.Moving.{base_for}
use Rattle.group_commit.specs.Changes.{changed_pages}
use Rattle.group_commit.specs.Counts.{writes_from, syncs_from, writes_left, syncs_left}
use Rattle.group_commit.proofs.CountLemmas.{none_left}
use Rattle.group_commit.specs.declared.phase.Phase.TheVariants.{Idle}
use Rattle.locked_replica.specs.Calls.{Counts}

-- a commit that begins has all its writes and syncs before it
pub counts_begun : {D : Type 0} (facts : Ghosts D) (s new : StoreHeld D) (ops : List Op) (records : List ℕ) (n : ℕ) → s.phase ≡ Idle → s.failed ≡ false → Begins facts s ops records new
    → Counts facts (begun_answer n) s new
counts_begun facts s new ops records n idle works b =
    let none = none_left s idle in
    let pages : length new.numbers - 0 ≡ length new.numbers = omega arith in
    let numbers : new.numbers ≡ changed_pages (base_for new.current) new.next = rw b.begins.current b.begins.numbers in
    let writes : writes_left new ≡ length (changed_pages (base_for new.current) new.next) + (if new.stale_open then 3 else 2) =
    ap (λ p. writes_from p (length new.numbers) new.stale_open) b.begins.phase ∙ ap (λ k. k + (if new.stale_open then 3 else 2)) pages ∙ ap (λ ns. length ns + (if new.stale_open then 3 else 2)) numbers in
    let syncs : syncs_left new ≡ 3 = ap syncs_from b.begins.phase in
    record {
      stays = λ failed. absurd (cc);
      writes = λ told working. let same = ap (λ d. facts.writes d) b.begins.disk in omega (arith, same, writes, none.0);
      syncs = λ told working. let same = ap (λ d. facts.syncs d) b.begins.disk in omega (arith, same, syncs, none.1);
    }
