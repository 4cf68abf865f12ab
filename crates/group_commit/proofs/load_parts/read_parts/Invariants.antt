use Rattle.std.proofs.Common.{◌≡◌, ◌≤◌, ◌*◌, ◌-◌, length, true}
use Rattle.page_file.specs.DiskCalls.{IsLookedAt}
use Rattle.page_file.specs.Pages.{pages, are_whole, joined}
use Rattle.group_commit.specs.Parts.{IsReadOn}
use Rattle.group_commit.proofs.PartLemmas.{Reads}
use Rattle.group_commit.proofs.load_parts.read_parts.Given as goal

-- what is read, and what stands in the pages that are left, are the whole stream
abbrev pub invariant-loop-rest : goal.invariant-loop-rest
invariant-loop-rest g l = let disk = g.D.DiskFacts in record {
  looks : IsLookedAt disk 0 0 l.initial.disk l.disk;
  few : length l.rest ≤ length l.numbers;
  on : IsReadOn l.fn.begun (4096 * (length l.numbers - length l.rest)) l.it;
  room : l.it.left ≤ 4096 * length l.rest;
  whole : disk.tells l.initial.disk → are_whole (pages l.rest (disk.content l.initial.disk)) ≡ true;
  reads : disk.tells l.initial.disk → Reads l.fn.begun.left (joined (pages l.numbers (disk.content l.initial.disk)))
      (joined (pages l.rest (disk.content l.initial.disk))) l.it.tail l.it.left;
}

abbrev pub decreases-loop-rest : goal.decreases-loop-rest
decreases-loop-rest g l = length l.rest
