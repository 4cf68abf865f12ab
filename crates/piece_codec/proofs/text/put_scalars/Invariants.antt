use Rattle.std.proofs.Common.{◌≡◌, ◌+◌, ◌++◌, length, drop, vec_len, vec_capacity}
use Rattle.piece_codec.specs.Spelling.{scalars_bytes}
use Rattle.piece_codec.proofs.text.put_scalars.Given as goal

-- what is put, and the characters that are left, are all of it
abbrev pub invariant-loop-value : goal.invariant-loop-value
invariant-loop-value l =
    record {
      items : l.out.items ++ scalars_bytes (drop l.value-index l.values) ≡ l.fn.out.items ++ scalars_bytes l.values;
      len : vec_len l.out + length (scalars_bytes (drop l.value-index l.values)) ≡ vec_len l.fn.out + length (scalars_bytes l.values);
      capacity : vec_capacity l.out ≡ vec_capacity l.fn.out;
    }
