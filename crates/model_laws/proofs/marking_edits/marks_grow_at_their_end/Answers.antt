use Rattle.model_laws.proofs.GrownEdits.{made_grows, made_shrinks}
use Rattle.model_laws.proofs.marking_edits.marks_grow_at_their_end.Goals as goal

pub returns-clause-mark : goal.returns-clause-mark
returns-clause-mark c = λ ops replica other edit later from to at mark added h s i d t inside.
    made_grows ops replica edit from to mark other later at added h s i d t inside

pub returns-clause-unmark : goal.returns-clause-unmark
returns-clause-unmark c = λ ops replica other edit later from to at key added h s i d t inside.
    made_shrinks ops replica edit from to key other later at added h s i d t inside
