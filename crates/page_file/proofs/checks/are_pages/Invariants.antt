use Rattle.std.proofs.Common.{◌≡◌, drop}
use Rattle.page_file.specs.Pages.{are_pages}
use Rattle.page_file.proofs.checks.are_pages.Given as goal

-- what was passed are pages, none of them further on
abbrev pub invariant-loop-at : goal.invariant-loop-at
invariant-loop-at l = are_pages (drop l.at l.numbers) ≡ are_pages l.numbers
