use Rattle.stream_list.proofs.AtFront.{single_put}
use Rattle.stream_list.proofs.front.put_front.Goals as goal

pub returns-in-Some-clause-found : goal.returns-in-Some-clause-found
returns-in-Some-clause-found c =
    let found = rw c.in-Some.is at c.in_ok-len.ensures.typed in
    single_put c.args.format c.args.bytes.now c.in-Some.len found.0 c.args.list.now c.type_record.new.self found.1 found.2 found.3
