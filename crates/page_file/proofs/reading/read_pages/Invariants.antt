use Rattle.std.proofs.Common.{◌≡◌, ◌↔◌, ◌*◌, ◌++◌, length, true, drop}
use Rattle.page_file.specs.Pages.{pages, are_whole, joined}
use Rattle.disk_trait.specs.Looks.{OnlyLooks}
use Rattle.page_file.proofs.reading.read_pages.Given as goal

-- what is read, and the pages that are left, are all of them
abbrev pub invariant-loop-number : goal.invariant-loop-number
invariant-loop-number g l = let disk = g.D.DiskFacts in record {
  tells : disk.tells l.disk ↔ disk.tells l.initial.disk;
  looks : disk.tells l.initial.disk → OnlyLooks disk 0 0 l.initial.disk l.disk;
  read : disk.tells l.initial.disk
      → l.bytes.items ++ joined (pages (drop l.number-index l.numbers) (disk.content l.initial.disk)) ≡ joined (pages l.numbers (disk.content l.initial.disk));
  whole : disk.tells l.initial.disk → are_whole (pages (drop l.number-index l.numbers) (disk.content l.initial.disk)) ≡ true;
  size : length l.bytes.items ≡ 4096 * l.number-index;
}
