use Rattle.std.proofs.Common.{◌≡◌, Ok, Err, rules, arith}
use Rattle.change_codec.specs.declared.codec_error.CodecError.TheVariants.{Memory}
use Rattle.change_codec.specs.declared.stream_error.StreamError.TheVariants.{Stream}
use Rattle.change_codec.specs.Record.{BeginsWithOp}
use Rattle.change_codec.proofs.StreamLaws.{begins_some, no_begin}
use Rattle.change_codec.proofs.stream.take_next.Goals as goal

pub returns-in-Ok-Some-clause-fewer : goal.returns-in-Ok-Some-clause-fewer
returns-in-Ok-Some-clause-fewer c =
    let begins : BeginsWithOp c.args.bytes.now c.in-Ok-Some.op c.in-Ok-Some.len = search rules in
    let some = begins_some c.args.bytes.now c.in-Ok-Some.op c.in-Ok-Some.len begins in
    omega (arith, c.split_at.ensures.back_len, some, c.requires)

pub returns-in-Ok-None-clause-none : goal.returns-in-Ok-None-clause-none
returns-in-Ok-None-clause-none c = λ is.
    let nothing = c.in-Ok-None.field-0-is in
    no_begin c.args.format c.args.bytes.now (Ok c.in-Ok-None.field-0) c.requires c.in-Ok-None.ensures.only (λ x e. absurd cc) (λ e. absurd cc)

pub returns-in-Err-clause-none : goal.returns-in-Err-clause-none
returns-in-Err-clause-none c = λ is.
    let is_stream : c.stream_error.result ≡ Stream = cc in
    no_begin c.args.format c.args.bytes.now (Err c.in-Err.fault) c.requires c.in-Err.ensures.only (λ x e. absurd cc) (λ e.
    let was_memory : c.in-Err.fault ≡ Memory = cc in
    c.stream_error.ensures is_stream was_memory)
