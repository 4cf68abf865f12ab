use Rattle.replica_core.proofs.ReachedLemmas.{length_is_reached}
use Rattle.hub_tests.proofs.test_edits.settled_after.Goals as goal

pub settle-requires-clause-reached : goal.settle-requires-clause-reached
settle-requires-clause-reached c = rw (c.len-end.ensures, c.list.ensures.list) (length_is_reached c.put_edit.new.self c.list.ensures.sound)
