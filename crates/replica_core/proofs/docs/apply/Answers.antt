use Rattle.std.proofs.Common.{◌≡◌, ◌∙◌, ◌++◌, ◌∷◌, take, drop, sym, ap}
use Rattle.std.proofs.lemmas.Result.{on_ok_weaker}
use Rattle.replica_core.specs.Docs.{doc_number}
use Rattle.std.proofs.lemmas.Bool.{true≢false}
use Rattle.doc_core.proofs.NamingLemmas.{edit_there}
use Rattle.replica_core.specs.Docs.{numbers}
use Rattle.replica_core.proofs.DocLemmas.{fresh_stands, numbers_insert, numbers_set, stand_more, stand_new, stands_at}
use Rattle.std.specs.Prelude.{Result, Ok, Err, OnOk}
use Rattle.replica_core.proofs.NumberLemmas.{doc_at}
use Rattle.replica_core.proofs.docs.apply.Goals as goal

-- what always holds, holds at an Ok
on_ok_always : {T E Q : Type 0} (r : Result T E) → Q → OnOk r Q
on_ok_always (Ok x) q = q
on_ok_always (Err e) q = tt

pub returns-in-Ok-clause-numbers : goal.returns-in-Ok-clause-numbers
returns-in-Ok-clause-numbers c =
    let found = doc_at c.args.docs.now.items c.args.doc c.in-Ok.at (rw c.in-Ok.is at c.requires) in
    on_ok_always c.apply_edit.result
    (numbers_set c.args.docs.now.items c.in-Ok.at c.index_mut-it.result.now c.apply_edit.new.self c.index_mut-it.ensures.value c.apply_edit.ensures.number ∙ sym found.2)

pub returns-in-Ok-clause-stand : goal.returns-in-Ok-clause-stand
returns-in-Ok-clause-stand c =
    let found = doc_at c.args.docs.now.items c.args.doc c.in-Ok.at (rw c.in-Ok.is at c.requires) in
    let same : doc_number c.index_mut-it.result.now ≡ c.args.doc = found.1 c.index_mut-it.result.now c.index_mut-it.ensures.value in
    on_ok_weaker c.apply_edit.result (λ taken. λ list are come.
    stand_more c.args.docs.now.items c.in-Ok.at c.index_mut-it.result.now c.apply_edit.new.self list c.args.made.now are found.0 c.index_mut-it.ensures.value
    (rw same come) (λ stands. taken list stands (rw same come))) c.apply_edit.ensures.taken

pub returns-in-Ok-insert-clause-numbers : goal.returns-in-Ok-insert-clause-numbers
returns-in-Ok-insert-clause-numbers c =
    let placed = rw c.in-Err.is at c.requires in
    let same : doc_number c.apply_edit-in-Err.new.self ≡ c.args.doc = c.in-Ok-apply_edit.ensures.number ∙ c.new-it.ensures.number in
    rw (c.in-Ok-insert.ensures.items, c.in_ok-reserve-in-Err.ensures.items)
    (numbers_insert c.args.docs.now.items c.in-Err.at c.apply_edit-in-Err.new.self
    ∙ (ap (λ n. take c.in-Err.at (numbers c.args.docs.now.items) ++ n ∷ drop c.in-Err.at (numbers c.args.docs.now.items)) same ∙ sym placed.1))

pub returns-in-Ok-insert-clause-stand : goal.returns-in-Ok-insert-clause-stand
returns-in-Ok-insert-clause-stand c = λ list are come.
    let placed = rw c.in-Err.is at c.requires in
    let same : doc_number c.new-it.result ≡ c.args.doc = c.new-it.ensures.number in
    let fresh = fresh_stands c.args.docs.now.items c.in-Err.at c.new-it.result c.args.doc list are placed.1 same c.new-it.ensures.empty in
    rw (c.in-Ok-insert.ensures.items, c.in_ok-reserve-in-Err.ensures.items)
    (stand_new c.args.docs.now.items c.in-Err.at c.apply_edit-in-Err.new.self c.args.doc list c.args.made.now are placed.1 come
    (c.in-Ok-apply_edit.ensures.taken list fresh (rw same come)))

pub returns-in-Ok-clause-known : goal.returns-in-Ok-clause-known
returns-in-Ok-clause-known c = λ unknown list are come.
    let found = doc_at c.args.docs.now.items c.args.doc c.in-Ok.at (rw c.in-Ok.is at c.requires) in
    let same : doc_number c.index_mut-it.result.now ≡ c.args.doc = found.1 c.index_mut-it.result.now c.index_mut-it.ensures.value in
    let stands = stands_at c.args.docs.now.items c.in-Ok.at c.index_mut-it.result.now list are.stand found.0 c.index_mut-it.ensures.value in
    let missing = (c.apply_edit.ensures.unknown list stands).0 unknown in
    true≢false (sym (edit_there list (doc_number c.index_mut-it.result.now) c.args.made.now (rw same come)) ∙ missing)

pub returns-in-Err-apply_edit-clause-known : goal.returns-in-Err-apply_edit-clause-known
returns-in-Err-apply_edit-clause-known c = λ unknown list are come.
    let placed = rw c.in-Err.is at c.requires in
    let same : doc_number c.new-it.result ≡ c.args.doc = c.new-it.ensures.number in
    let fresh = fresh_stands c.args.docs.now.items c.in-Err.at c.new-it.result c.args.doc list are placed.1 same c.new-it.ensures.empty in
    let missing = (c.in-Err-apply_edit.ensures.unknown list fresh).0 unknown in
    true≢false (sym (edit_there list (doc_number c.new-it.result) c.args.made.now (rw same come)) ∙ missing)
