use Rattle.std.proofs.Common.{length, ap, sym, ◌∙◌}
use Rattle.list_counts.specs.Documents.{with_all}
use Rattle.op_model.specs.Text.{rev}
use Rattle.doc_core.proofs.StandingLemmas.{counted-more, rev-all, writers-all}
use Rattle.doc_core.proofs.doc.Doc.apply_edit.Goals as goal

pub returns-clause-taken : goal.returns-clause-taken
returns-clause-taken c = rw (← c.self.view_is) (λ ops stands fit.
    let both = c.in_ok-take_edit.ensures.taken ops c.self.inside.doc stands.characters stands.marks fit in
    record {
      characters = both.0;
      marks = both.1;
      rev = c.saturating_add-self-inside.ensures
          ∙ counted-more c.self.inside.rev (rev ops c.self.inside.doc) (length c.as_slice.result.now) _ stands.rev
          (rw c.as_slice.ensures (rev-all ops c.self.inside.doc c.args.edit.now fit));
      writers = c.put_all.ensures ∙ ap (with_all c.self.inside.writers) c.as_slice-2.ensures
          ∙ ap (λ known. with_all known c.args.edit.now) stands.writers
          ∙ sym (writers-all ops c.self.inside.doc c.args.edit.now fit);
    })
