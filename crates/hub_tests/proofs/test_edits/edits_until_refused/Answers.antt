use Rattle.replica_core.proofs.ReachedLemmas.{length_is_reached}
use Rattle.hub_tests.proofs.test_edits.edits_until_refused.Goals as goal

pub settle-requires-clause-reached : goal.settle-requires-clause-reached
settle-requires-clause-reached c = rw (c.len-end.ensures, c.list.ensures.list) (length_is_reached c.put_edit.new.self c.list.ensures.sound)

pub settle-requires-in-loop-count-clause-reached : goal.settle-requires-in-loop-count-clause-reached
settle-requires-in-loop-count-clause-reached c =
    rw (c.settle.ensures, c.len-end.ensures, c.list.ensures.list) (length_is_reached c.put_edit.new.self c.list.ensures.sound)
