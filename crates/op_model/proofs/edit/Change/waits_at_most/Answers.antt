use Rattle.op_model.proofs.edit.Change.waits_at_most.Goals as goal

pub returns-in-Delete : goal.returns-in-Delete
returns-in-Delete c = rw c.in-Delete.is (rw c.in-Delete.is at c.stream_at_most.ensures)

pub returns-in-Mark : goal.returns-in-Mark
returns-in-Mark c = rw c.in-Mark.is (rw c.in-Mark.is at c.stream_at_most-in-Mark.ensures)

pub returns-in-Unmark : goal.returns-in-Unmark
returns-in-Unmark c = rw c.in-Unmark.is (rw c.in-Unmark.is at c.stream_at_most-in-Unmark.ensures)
