use Rattle.causal_sync.proofs.OneWay.{one_way}
use Rattle.causal_sync.proofs.laws.a_stream_is_heard_in_one_way.Goals as goal

pub returns : goal.returns
returns c = λ own stream a b e f one two. one_way a b own _ stream one.0 two.0 e f one.1 two.1
