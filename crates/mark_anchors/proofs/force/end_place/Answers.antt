use Rattle.std.proofs.Common.{ap, ◌∙◌}
use Rattle.char_sequence.specs.Chunks.{cells_of}
use Rattle.mark_anchors.specs.declared.place.Place.TheVariants.{Before}
use Rattle.mark_anchors.proofs.CountLemmas.{as_many}
use Rattle.mark_anchors.proofs.force.end_place.Goals as goal

pub returns-in-OfText : goal.returns-in-OfText
returns-in-OfText c = λ ops doc holds. rw c.in-OfText.is (ap Before (c.requires ∙ as_many (cells_of c.args.sequence.now) ops doc holds))
