use Rattle.std.proofs.Common.{◌+◌, ◌-◌, ◌*◌, ◌∷◌, ◌++◌, length, length-append, refl, arith}
use Rattle.std.specs.Int.{w32}
use Rattle.std.specs.Prelude.{slice_range}
use Rattle.change_codec.specs.Spelling.{number_bytes}
use Rattle.change_codec.proofs.Lengths.{length-bytes32}
use Rattle.piece_codec.specs.Spelling.{spelled_run, text_bytes}
use Rattle.piece_codec.proofs.Lengths.{length-text}
use Rattle.piece_codec.proofs.TypedLaws.{appends_both, fields_length, typed_is}
use Rattle.piece_codec.proofs.typed.put_typed.Goals as goal

pub put_u32-requires : goal.put_u32-requires
put_u32-requires c = omega (arith, c.requires.room, c.requires.whole, length-bytes32 (length c.args.insert.now - 2 + 4 * length c.args.others.now))

pub put_parts-requires-clause-room : goal.put_parts-requires-clause-room
put_parts-requires-clause-room c =
    omega (
      arith,
      c.requires.room,
      c.requires.whole,
      fields_length c.args.insert.now c.requires.whole,
      length-text (c.args.first ∷ c.args.others.now),
      length-append (slice_range c.args.insert.now 5 (length c.args.insert.now - 4)) (text_bytes (c.args.first ∷ c.args.others.now)),
      length-bytes32 (length c.args.insert.now - 2 + 4 * length c.args.others.now),
      c.put_u32.ensures.len,
      c.put_u32.ensures.capacity,
    )

pub returns : goal.returns
returns c = λ op is inserts value.
    let fields = slice_range c.args.insert.now 5 (length c.args.insert.now - 4) in
    let len = length c.args.insert.now - 2 + 4 * length c.args.others.now in
    appends_both c.args.out.now c.put_u32.new.out c.put_parts.new.out (number_bytes w32 len) (c.run_byte.result ∷ (fields ++ text_bytes (c.args.first ∷ c.args.others.now)))
    (spelled_run op c.args.others.now) c.put_u32.ensures c.put_parts.ensures
    (typed_is op c.args.insert.now fields c.args.others.now c.args.first c.run_byte.result len _ is inserts value refl c.run_byte.ensures refl refl)
