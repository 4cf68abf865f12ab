use Rattle.char_sequence.proofs.WovenLemmas.{is_woven, woven_is, woven_none}
use Rattle.char_sequence.proofs.weave.Weave.new.Goals as goal

pub invariant_of-result : goal.invariant_of-result
invariant_of-result c = rw (c.in_ok-push.ensures.items, c.new-next.ensures.items, c.new.ensures) (is_woven _ _ _ woven_none)

pub returns : goal.returns
returns c = rw (c.in_ok-push.ensures.items, c.new-next.ensures.items, c.new.ensures) (woven_is _ _ _ woven_none)
