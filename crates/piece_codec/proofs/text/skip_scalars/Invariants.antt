use Rattle.std.proofs.Common.{◌≡◌, ◌-◌}
use Rattle.change_codec.specs.Reading.{only_rest}
use Rattle.piece_codec.specs.Reading.{scalars_at}
use Rattle.piece_codec.proofs.text.skip_scalars.Given as goal

-- the characters that are left end where all of them do
abbrev pub invariant-loop : goal.invariant-loop
invariant-loop l = only_rest (scalars_at (l.count - l.counter) l.rest) ≡ only_rest (scalars_at l.count l.bytes)
