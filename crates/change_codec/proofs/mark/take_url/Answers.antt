use Rattle.std.proofs.Common.{arith}
use Rattle.change_codec.proofs.Urls.{url_valid, url_invalid}
use Rattle.change_codec.proofs.mark.take_url.Goals as goal

pub returns-in-Ok : goal.returns-in-Ok
returns-in-Ok c =
    rw c.in-Ok.ensures.cases.0
    (url_valid c.args.bytes.now c.in_ok-len.len c.in_ok-len.rest.now c.in_ok-text.text.now c.in_ok-text.rest.now c.in_ok-len.ensures (omega arith) (omega arith) c.in_ok-text.ensures c.in-Ok.ensures.cases.1)

pub returns-in-Err : goal.returns-in-Err
returns-in-Err c =
    url_invalid c.args.bytes.now c.in_ok-len.len c.in_ok-len.rest.now c.in_ok-text.text.now c.in_ok-text.rest.now c.in_ok-len.ensures (omega arith) (omega arith) c.in_ok-text.ensures c.in-Err.ensures.cases.0
