use Rattle.std.proofs.Common.{refl}
use Rattle.doc_core.proofs.MakingLemmas.{origin_there}
use Rattle.doc_core.proofs.doc.Doc.origin_at.Goals as goal

pub returns : goal.returns
returns c = λ ops stands.
    let inside = rw (← c.self.view_is) at stands in
    rw (← c.self.view_is) (origin_there c.self.inside.anchors ops c.self.inside.doc c.args.gap.now.count _ c.last_ended_at.result inside.marks
    refl (c.last_ended_at.ensures ops c.self.inside.doc inside.characters))
