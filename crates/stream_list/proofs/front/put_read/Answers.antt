use Rattle.stream_list.proofs.AtFront.{single_put, run_put, whole_record}
use Rattle.stream_list.proofs.front.put_read.Goals as goal

pub returns-in-Some-clause-found : goal.returns-in-Some-clause-found
returns-in-Some-clause-found c =
    let found = c.in-Some.ensures.some in
    let one = whole_record c.args.bytes.now c.split_at.result.0.now c.in-Some.len found.0 found.2 c.split_at.ensures.front in
    single_put c.args.format c.args.bytes.now c.in-Some.len found.0 c.args.list.now c.put_record.new.self found.1 found.2
    (c.in_ok-put_record.ensures.ok found.0 one)

pub returns-in_ok-put_piece-in-Ok-Some-clause-found :
    goal.returns-in_ok-put_piece-in-Ok-Some-clause-found
returns-in_ok-put_piece-in-Ok-Some-clause-found c =
    let found = rw c.in-Ok-Some.field-0-is at c.in-Ok-Some.ensures.found in
    run_put c.args.format c.args.bytes.now c.in-Ok-Some.piece c.in-Ok-Some.len c.len.result c.records_length.result c.args.list.now c.put_piece.new.self
    found.0 found.1 c.len.ensures.value c.records_length.ensures.value c.records_length.ensures.within c.in_ok-put_piece-in-Ok-Some.ensures.ok
