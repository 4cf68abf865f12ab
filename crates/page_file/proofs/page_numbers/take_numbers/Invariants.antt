use Rattle.std.proofs.Common.{◌≡◌, ◌+◌, ◌-◌, ◌*◌, ◌≤◌, ◌++◌, length, vec_len, vec_capacity}
use Rattle.page_file.specs.Pages.{numbers}
use Rattle.page_file.proofs.page_numbers.take_numbers.Given as goal

-- the numbers so far, and those that are left, are all of them
abbrev pub invariant-loop : goal.invariant-loop
invariant-loop l =
    record {
      items : l.found.items ++ numbers (l.count - l.counter) l.rest ≡ numbers l.count l.bytes;
      room : vec_len l.found + (l.count - l.counter) ≤ vec_capacity l.found;
      left : 4 * (l.count - l.counter) ≤ length l.rest;
    }
