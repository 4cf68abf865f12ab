use Rattle.std.proofs.Common.{take, ap, ◌∙◌}
use Rattle.std.proofs.lemmas.List.{take-map}
use Rattle.run_list.specs.Told.{bare_of, bare_ops}
use Rattle.run_list.proofs.Telling.{shown}
use Rattle.run_list.proofs.run_slice.RunSlice.bare.Goals as goal

pub returns : goal.returns
returns c =
    let list = c.self.inside.list.now in
    let holds = shown _ _ list c.list.invariant c.list.view_is in
    c.front.ensures ∙ ap (take c.self.inside.len) (c.as_slice.ensures ∙ holds.bare_so) ∙ take-map bare_of c.self.inside.len list ∙ ap bare_ops c.self.view_is
