use Rattle.std.proofs.Common.{refl}
use Rattle.replica_core.proofs.DocLemmas.{fresh_stands, stands_at}
use Rattle.replica_core.proofs.NumberLemmas.{doc_at}
use Rattle.replica_core.specs.Docs.{doc_number}
use Rattle.replica_core.proofs.docs.at.Goals as goal

pub returns-in-Ok-clause-stands : goal.returns-in-Ok-clause-stands
returns-in-Ok-clause-stands c = λ ops are.
    let found = doc_at c.args.docs.now (doc_number c.args.empty.now) c.in-Ok.at (rw c.in-Ok.is at c.requires.place) in
    stands_at c.args.docs.now c.in-Ok.at c.index-docs-at.result ops are.stand found.0 c.index-docs-at.is

pub returns-in-Err-clause-stands : goal.returns-in-Err-clause-stands
returns-in-Err-clause-stands c = λ ops are.
    let placed = rw c.in-Err.is at c.requires.place in
    fresh_stands c.args.docs.now c.in-Err.field-0 c.args.empty.now _ ops are placed.1 refl c.requires.empty
