use Rattle.std.proofs.Common.{◌≡◌, ◌+◌, ◌++◌, length, drop, vec_len, vec_capacity}
use Rattle.change_codec.specs.Spelling.{deps_bytes, entries_bytes}
use Rattle.change_codec.proofs.deps.put_deps.Given as goal

-- what is put, and the entries that are left, are all of it
abbrev pub invariant-loop-entry : goal.invariant-loop-entry
invariant-loop-entry l =
    record {
      items : l.out.items ++ entries_bytes (drop l.entry-index l.entry-items) ≡ l.fn.out.items ++ deps_bytes l.deps;
      len : vec_len l.out + length (entries_bytes (drop l.entry-index l.entry-items)) ≡ vec_len l.fn.out + length (deps_bytes l.deps);
      capacity : vec_capacity l.out ≡ vec_capacity l.fn.out;
    }
