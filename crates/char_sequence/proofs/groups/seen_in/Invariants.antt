use Rattle.std.proofs.Common.{◌≡◌, ◌≤◌, ◌*◌, take}
use Rattle.char_sequence.specs.Sums.{seen}
use Rattle.char_sequence.proofs.groups.seen_in.Given as goal

-- so many were seen so far, at most 512 of each chunk
abbrev pub invariant-loop-chunk : goal.invariant-loop-chunk
invariant-loop-chunk l = record {
  seen : l.seen ≡ seen (take l.chunk-index l.chunks);
  few : l.seen ≤ 512 * l.chunk-index;
}
