use Rattle.std.proofs.Common.{refl, sym}
use Rattle.replica_core.specs.Docs.{doc_number}
use Rattle.replica_core.proofs.LengthLemmas.{origin_behind}
use Rattle.replica_core.proofs.lengths.has_origin.Goals as goal

pub returns-then-at-gt0 : goal.returns-then-at-gt0
returns-then-at-gt0 c = λ ops stands inside. sym (origin_behind ops (doc_number c.args.doc.now) c.args.at c.if-at-gt0.true inside)

pub returns-in-Some : goal.returns-in-Some
returns-in-Some c = λ ops stands inside.
    rw (← c.origin.ensures ops stands, c.in-Some.is) refl

pub returns-in-None : goal.returns-in-None
returns-in-None c = λ ops stands inside.
    rw (← c.origin.ensures ops stands, c.in-None.is) refl
