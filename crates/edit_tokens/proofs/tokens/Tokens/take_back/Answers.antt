use Rattle.std.proofs.Common.{None}
use Rattle.edit_tokens.proofs.FoundLemmas.{puts_out}
use Rattle.edit_tokens.proofs.PlaceLemmas.{puts_one}
use Rattle.edit_tokens.proofs.tokens.Tokens.take_back.Goals as goal

pub returns-in-None : goal.returns-in-None
returns-in-None c =
    rw (c.in-Some.is, c.in-None.is, ← c.self.view_is)
    (puts_out c.self.inside.opened c.remove.new.self c.self.inside.since.entries c.remove-in-None.new.self.entries c.in-Some.token c.remove.ensures
    (puts_one c.self.inside.since.entries c.remove-in-None.new.self.entries c.in-Some.token None c.remove-in-None.ensures.updates.0))
