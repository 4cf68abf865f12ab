use Rattle.run_list.proofs.Fronts.{head_of_front}
use Rattle.run_list.proofs.run_slice.RunSlice.head.Goals as goal

pub returns : goal.returns
returns c = head_of_front c.self.inside.list.now c.args.self.now c.self.inside.len c.args.i c.head.result c.self.view_is c.requires c.head.ensures
