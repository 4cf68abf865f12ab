use Rattle.std.proofs.Common.{◌≡◌, ◌+◌, ◌-◌, ◌*◌, ◌≤◌, ◌++◌, length, drop, vec_len, vec_capacity}
use Rattle.page_file.specs.Pages.{number_bytes}
use Rattle.page_file.proofs.page_numbers.put_numbers.Given as goal

-- what is put, and the numbers that are left, are all of it
abbrev pub invariant-loop-number : goal.invariant-loop-number
invariant-loop-number l =
    record {
      items : l.out.items ++ number_bytes (drop l.number-index l.numbers) ≡ l.fn.out.items ++ number_bytes l.numbers;
      room : vec_len l.out + 4 * (length l.numbers - l.number-index) ≤ vec_capacity l.out;
    }
