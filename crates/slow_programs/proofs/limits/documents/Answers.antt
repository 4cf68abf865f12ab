use Rattle.std.proofs.Common.{[], append-nil}
use Rattle.slow_programs.proofs.limits.documents.Goals as goal

pub returns : goal.returns
returns c = c.in_ok-insert_documents-2.ensures.found c.args.made.now (rw append-nil at (c.in_ok-insert_documents.ensures.found [] c.new-found.ensures.items))
