use Rattle.std.proofs.Common.{sym, ◌∙◌}
use Rattle.char_sequence.proofs.KnownLemmas.{has_cell-content}
use Rattle.char_sequence.proofs.WeaveLemmas.{lacks_woven, starts_found}
use Rattle.char_sequence.proofs.WovenLemmas.{shown}
use Rattle.char_sequence.proofs.weave.Weave.has.Goals as goal

pub returns-in-Some : goal.returns-in-Some
returns-in-Some c = λ ops doc holds.
    let w = shown _ _ c.args.self.now c.self.invariant c.self.view_is in
    let one = c.in-Some.ensures in
    let known = (starts_found _ _ _ w c.in-Some.field-0 one.0 c.args.id one.1 one.2).0 in
    sym known ∙ has_cell-content c.args.self.now ops doc c.args.id holds

pub returns-in-None : goal.returns-in-None
returns-in-None c = λ ops doc holds.
    let w = shown _ _ c.args.self.now c.self.invariant c.self.view_is in
    let gone = lacks_woven c.self.inside.cells c.self.inside.next.items c.args.self.now c.args.id w c.in-None.ensures in
    sym gone ∙ has_cell-content c.args.self.now ops doc c.args.id holds
