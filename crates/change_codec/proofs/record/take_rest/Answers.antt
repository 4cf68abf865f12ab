use Rattle.change_codec.specs.Lent.{body_of}
use Rattle.change_codec.proofs.Contents.{body_url}
use Rattle.change_codec.proofs.record.take_rest.Goals as goal

pub make_op-requires-clause-url : goal.make_op-requires-clause-url
make_op-requires-clause-url c =
    body_url c.args.head.kind c.in-Ok.rest.now (body_of c.in-Ok-take_whole_content.body) c.in-Ok-take_whole_content.ensures
