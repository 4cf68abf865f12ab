use Rattle.std.proofs.Common.{refl, ap, Err}
use Rattle.piece_codec.proofs.Answering.{found_single, none_single, fault_single}
use Rattle.piece_codec.proofs.record.take_single.Goals as goal

pub returns-in-Ok-Some : goal.returns-in-Ok-Some
returns-in-Ok-Some c =
    let found = rw c.in-Ok-Some.field-0-is at c.in-Ok-Some.ensures.found in
    found_single c.args.format c.args.bytes.now c.in-Ok-Some.op c.in-Ok-Some.len c.single.result c.single.ensures found.0 found.1

pub returns-in-Ok-None : goal.returns-in-Ok-None
returns-in-Ok-None c =
    let partial = rw c.in-Ok-None.field-0-is at c.in-Ok-None.ensures.partial in
    none_single c.args.format c.args.bytes.now (partial.0 refl)

pub returns-in-Err : goal.returns-in-Err
returns-in-Err c =
    fault_single c.args.format c.args.bytes.now c.in-Err.fault (λ other. (c.in-Err.ensures.fault c.in-Err.fault other).0 refl) (λ is. c.in-Err.ensures.memory (ap (λ e. Err e) is))
