use Rattle.std.proofs.Common.{rules}
use Rattle.std.proofs.lemmas.List.Sorted.{answers_always}
use Rattle.replica_core.specs.Docs.{doc_number}
use Rattle.replica_core.proofs.NumberLemmas.{placed_doc}
use Rattle.replica_core.proofs.docs.place.Goals as goal

pub returns : goal.returns
returns c =
    let by_number = c.binary_search_by_key.ensures.position doc_number (answers_always _ _ _ (λ f a r g called. search rules)) in
    placed_doc c.args.docs.now c.args.doc c.binary_search_by_key.result c.requires c.binary_search_by_key.ensures.bound by_number
