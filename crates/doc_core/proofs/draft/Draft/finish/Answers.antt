use Rattle.std.proofs.Common.{sym, ◌∙◌}
use Rattle.char_sequence.specs.Content.{Holds}
use Rattle.doc_core.specs.Drafting.{IsDraftOf}
use Rattle.doc_core.proofs.draft.Draft.finish.Goals as goal

pub returns-clause-stands : goal.returns-clause-stands
returns-clause-stands c = λ ops draft.
    let mine : IsDraftOf _ ops = rw (sym c.self.view_is) at draft in
    let holds : Holds c.in_ok-sequence.sequence ops c.self.inside.doc = rw c.in_ok-sequence.ensures mine.characters in
    let same = c.note_all.ensures in
    record {
      characters = rw same holds;
      marks = c.in_ok-anchors.ensures ops c.self.inside.doc mine.marks;
      rev = mine.rev;
      writers = c.copy.ensures ∙ mine.writers;
    }
