use Rattle.shared_hub.proofs.RefusedLemmas.{refused_so}
use Rattle.shared_hub.proofs.shared.Shared.edit.Goals as goal

-- why it was refused while the lock was held, and for which change
pub returns-clause-refused : goal.returns-clause-refused
returns-clause-refused g c =
    refused_so c.edit-result.result c.args.edit.now c.deref_mut.result.now c.edit-result.new.self c.args.pass.now c.edit-result.new.pass
    c.edit-result.ensures.call c.edit-result.ensures.enters
