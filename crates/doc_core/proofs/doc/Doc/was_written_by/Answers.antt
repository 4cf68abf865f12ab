use Rattle.std.proofs.Common.{ap, ◌∙◌}
use Rattle.std.specs.Prelude.{◌==◌}
use Rattle.std.specs.List.{list_any}
use Rattle.list_counts.proofs.WriterLemmas.{first_writers-all}
use Rattle.doc_core.proofs.doc.Doc.was_written_by.Goals as goal

pub returns : goal.returns
returns c = rw (← c.self.view_is) (λ ops stands few.
    c.has.ensures ∙ ap (list_any (λ writer. writer == c.args.replica)) stands.writers
    ∙ first_writers-all ops c.self.inside.doc c.args.replica few)
