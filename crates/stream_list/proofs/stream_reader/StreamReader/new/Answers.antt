use Rattle.stream_list.proofs.PassingLemmas.{nothing_passed}
use Rattle.stream_list.proofs.stream_reader.StreamReader.new.Goals as goal

pub invariant_of-result : goal.invariant_of-result
invariant_of-result c = nothing_passed c.args.format c.new-3.result.items c.new-2.result.items c.new.result c.args.count c.new-3.ensures c.new-2.ensures.items c.new.ensures
