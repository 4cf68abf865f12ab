use Rattle.doc_core.proofs.MakingLemmas.{origin_there}
use Rattle.doc_core.proofs.doc.Doc.origin.Goals as goal

pub returns : goal.returns
returns c = λ ops stands.
    let before = c.last_before-before.ensures ops stands in
    let inside = rw (← c.self.view_is) at stands in
    rw (← c.self.view_is) (origin_there c.self.inside.anchors ops c.self.inside.doc c.args.at c.last_before-before.result c.last_ended.result inside.marks
    (rw (← c.self.view_is) at before) (c.last_ended.ensures ops c.self.inside.doc inside.characters))
