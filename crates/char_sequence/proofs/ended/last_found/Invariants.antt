use Rattle.std.proofs.Common.{◌≡◌, drop}
use Rattle.char_sequence.specs.Chunks.{cells_of}
use Rattle.char_sequence.specs.Reading.{HidesUpTo, is_among, last_ended, tombstones_from}
use Rattle.char_sequence.specs.Weave.{AreOnce}
use Rattle.char_sequence.proofs.ended.last_found.Given as goal

-- what was found so far, the ends that are left and the tombstones from the place on decide
abbrev pub invariant-loop-id : goal.invariant-loop-id
invariant-loop-id l = record {
  upto : HidesUpTo l.chunks l.at l.tombstones.to;
  last : AreOnce (cells_of l.chunks) → last_ended (λ id. is_among id l.ended) l.fn.before (tombstones_from l.chunks l.fn.tombstones.from)
      ≡ last_ended (λ id. is_among id (drop l.id-index l.ended)) l.last (tombstones_from l.chunks l.at);
}
