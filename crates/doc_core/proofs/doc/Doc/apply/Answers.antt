use Rattle.std.proofs.Common.{ap, sym, ◌∙◌}
use Rattle.list_counts.specs.Documents.{with_writer}
use Rattle.list_counts.proofs.WriterLemmas.{first_writers-push}
use Rattle.op_model.specs.Text.{rev}
use Rattle.doc_core.proofs.StandingLemmas.{counted-more, rev-push}
use Rattle.doc_core.proofs.doc.Doc.apply.Goals as goal

pub returns-clause-taken : goal.returns-clause-taken
returns-clause-taken c = rw (← c.self.view_is) (λ ops stands fits.
    let both = c.in_ok-take.ensures.taken ops c.self.inside.doc stands.characters stands.marks fits in
    record {
      characters = both.0;
      marks = both.1;
      rev = c.saturating_add-self-inside.ensures
          ∙ counted-more c.self.inside.rev (rev ops c.self.inside.doc) 1 _ stands.rev (rev-push ops c.self.inside.doc c.args.op.now fits.same);
      writers = c.put.ensures ∙ ap (λ r. with_writer r c.self.inside.writers) c.replica.ensures
          ∙ ap (with_writer c.args.op.now.id.replica) stands.writers
          ∙ sym (first_writers-push ops c.self.inside.doc c.args.op.now fits.same);
    })
