use Rattle.model_laws.proofs.LaterWalk.{walk_later, still_there, order_kept}
use Rattle.model_laws.proofs.WasShown.{was_there}
use Rattle.model_laws.proofs.later.characters_keep_their_order.Goals as goal

pub returns : goal.returns
returns c = record { walk = walk_later; there = still_there; order = order_kept; since = was_there }
