use Rattle.std.proofs.Common.{sym, ◌∙◌}
use Rattle.recovery.proofs.ImageLemmas.{image_of, bad_of, fault_of, no_failure, no_sync}
use Rattle.recovery.proofs.opening.open.Goals as goal

pub returns-in-Ok-from_list-clause-image : goal.returns-in-Ok-from_list-clause-image
returns-in-Ok-from_list-clause-image g c = λ told.
    rw c.in-Ok-from_list.ensures.opened (image_of c.in-Ok.field-0.store.current (g.D.DiskFacts.content c.args.disk) c.in-Ok.field-0.replica c.in-Ok.field-0.ops
    (c.in-Ok.ensures.loaded.root told) c.in-Ok.ensures.loaded.history c.in-Ok-from_list.ensures.closed)

pub returns-in-Err-from_list-clause-fault : goal.returns-in-Err-from_list-clause-fault
returns-in-Err-from_list-clause-fault g c = λ told.
    fault_of c.in-Err-from_list.refusal c.cause_of.result (g.D.DiskFacts.content c.args.disk) c.cause_of.ensures.memory c.cause_of.ensures.other
    (λ no. bad_of c.in-Ok.field-0.store.current (g.D.DiskFacts.content c.args.disk) c.in-Ok.field-0.replica c.in-Ok.field-0.ops (c.in-Ok.ensures.loaded.root told) c.in-Ok.ensures.loaded.history
    (c.in-Err-from_list.ensures.bad no).1)

pub returns-in-Err-from_list-clause-looks_refused : goal.returns-in-Err-from_list-clause-looks_refused
returns-in-Err-from_list-clause-looks_refused g c =
    let refusal = c.in-Err-from_list.refusal in
    rw (
      no_failure refusal c.cause_of.result c.cause_of.ensures.memory c.cause_of.ensures.other,
      no_sync refusal c.cause_of.result c.cause_of.ensures.memory c.cause_of.ensures.other,
      c.into_disk.ensures,
    ) (record {
      looked = c.in-Ok.ensures.looks;
      alone = λ told is. absurd (cc);
      settled = λ told is file left. c.in-Ok.ensures.loaded.settled told file left ∙ sym ((c.in-Ok.ensures.looks.looks told).same);
    })
