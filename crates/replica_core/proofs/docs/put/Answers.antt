use Rattle.std.proofs.Common.{◌≡◌, ◌∙◌, ◌++◌, ◌∷◌, take, drop, sym, ap}
use Rattle.replica_core.specs.Docs.{doc_number, numbers}
use Rattle.replica_core.proofs.DocLemmas.{numbers_insert, numbers_set, stand_more, stand_new}
use Rattle.replica_core.proofs.NumberLemmas.{doc_at}
use Rattle.replica_core.proofs.docs.put.Goals as goal

pub returns-in-Ok-clause-numbers : goal.returns-in-Ok-clause-numbers
returns-in-Ok-clause-numbers c =
    let found = doc_at c.args.docs.now.items c.args.doc c.in-Ok.at (rw c.in-Ok.is at c.requires.place) in
    let same : doc_number c.index_mut.result.now ≡ c.args.doc = found.1 c.index_mut.result.now c.index_mut.ensures.value in
    numbers_set c.args.docs.now.items c.in-Ok.at c.index_mut.result.now c.args.it c.index_mut.ensures.value (c.requires.number ∙ sym same) ∙ sym found.2

pub returns-in-Ok-clause-stand : goal.returns-in-Ok-clause-stand
returns-in-Ok-clause-stand c = λ list made are come stands.
    let found = doc_at c.args.docs.now.items c.args.doc c.in-Ok.at (rw c.in-Ok.is at c.requires.place) in
    let same : doc_number c.index_mut.result.now ≡ c.args.doc = found.1 c.index_mut.result.now c.index_mut.ensures.value in
    stand_more c.args.docs.now.items c.in-Ok.at c.index_mut.result.now c.args.it list made are found.0 c.index_mut.ensures.value
    (rw same come) (λ before. stands)

pub returns-in-Ok-insert-clause-numbers : goal.returns-in-Ok-insert-clause-numbers
returns-in-Ok-insert-clause-numbers c =
    let placed = rw c.in-Err.is at c.requires.place in
    rw (c.in-Ok-insert.ensures.items, c.in_ok-reserve-in-Err.ensures.items)
    (numbers_insert c.args.docs.now.items c.in-Err.at c.args.it
    ∙ (ap (λ n. take c.in-Err.at (numbers c.args.docs.now.items) ++ n ∷ drop c.in-Err.at (numbers c.args.docs.now.items)) c.requires.number ∙ sym placed.1))

pub returns-in-Ok-insert-clause-stand : goal.returns-in-Ok-insert-clause-stand
returns-in-Ok-insert-clause-stand c = λ list made are come stands.
    let placed = rw c.in-Err.is at c.requires.place in
    rw (c.in-Ok-insert.ensures.items, c.in_ok-reserve-in-Err.ensures.items)
    (stand_new c.args.docs.now.items c.in-Err.at c.args.it c.args.doc list made are placed.1 come stands)
