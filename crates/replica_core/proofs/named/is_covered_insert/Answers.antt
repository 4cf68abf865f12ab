use Rattle.std.proofs.Common.{ℕ, Bool, ◌∙◌, take, sym, ap}
use Rattle.std.specs.Prelude.{◌==◌, ◌&&◌}
use Rattle.std.specs.List.{list_any}
use Rattle.std.proofs.Math.Seq.{take-nil}
use Rattle.op_ids.specs.Clock.{count_of}
use Rattle.op_ids.specs.Id.{is_same}
use Rattle.op_model.specs.declared.op.Op.{Op}
use Rattle.op_model.specs.Causality.{is_insert, made_by}
use Rattle.replica_core.specs.Makers.{places_of}
use Rattle.replica_core.proofs.ClimbLemmas.{are_first}
use Rattle.replica_core.proofs.IndexLemmas.{index_below, index_made, index_nothing}
use Rattle.replica_core.proofs.named.is_covered_insert.Goals as goal

pub has_insert-requires-clause-below : goal.has_insert-requires-clause-below
has_insert-requires-clause-below c =
    let places = rw c.replica-2.ensures at c.in-Some.ensures in
    (are_first c.args.ops.now c.args.id.now.replica c.get-covered.result (places_of c.args.index.now.makers.items c.args.id.now.replica) c.first.result.now
    c.requires.closed (index_below c.args.index.now c.args.ops.now c.args.id.now.replica c.requires.index) (index_made c.args.index.now c.args.ops.now c.args.id.now.replica c.requires.index)
    (c.first.ensures ∙ ap (take c.get-covered.result) places)).below

pub has_insert-requires-clause-climb : goal.has_insert-requires-clause-climb
has_insert-requires-clause-climb c =
    let places = rw c.replica-2.ensures at c.in-Some.ensures in
    (are_first c.args.ops.now c.args.id.now.replica c.get-covered.result (places_of c.args.index.now.makers.items c.args.id.now.replica) c.first.result.now
    c.requires.closed (index_below c.args.index.now c.args.ops.now c.args.id.now.replica c.requires.index) (index_made c.args.index.now c.args.ops.now c.args.id.now.replica c.requires.index)
    (c.first.ensures ∙ ap (take c.get-covered.result) places)).climb

pub returns-in-Some : goal.returns-in-Some
returns-in-Some c =
    let places = rw c.replica-2.ensures at c.in-Some.ensures in
    let covered = rw c.replica.ensures at c.get-covered.ensures.value in
    let first = are_first c.args.ops.now c.args.id.now.replica c.get-covered.result (places_of c.args.index.now.makers.items c.args.id.now.replica) c.first.result.now
    c.requires.closed (index_below c.args.index.now c.args.ops.now c.args.id.now.replica c.requires.index) (index_made c.args.index.now c.args.ops.now c.args.id.now.replica c.requires.index)
    (c.first.ensures ∙ ap (take c.get-covered.result) places) in
    let p : Op → Bool = λ op. is_same op.id c.args.id.now && op.doc == c.args.op.now.doc && is_insert op.body in
    c.has_insert.ensures ∙ (ap (list_any p) first.made ∙ ap (λ n. list_any p (take n (made_by c.args.id.now.replica c.args.ops.now))) covered)

pub returns-in-None : goal.returns-in-None
returns-in-None c =
    let p : Op → Bool = λ op. is_same op.id c.args.id.now && op.doc == c.args.op.now.doc && is_insert op.body in
    let nothing = index_nothing c.args.index.now c.args.ops.now c.args.id.now.replica c.requires.index (rw c.replica-2.ensures at c.in-None.ensures) in
    let covered : ℕ = count_of c.args.op.now.deps c.args.id.now.replica in
    sym (ap (λ ops. list_any p (take covered ops)) nothing ∙ ap (list_any p) (take-nil covered))
