use Rattle.std.proofs.Common.{◌≡◌, ◌∙◌, ◌+◌, List, ◌<◌, ◌++◌, ◌∷◌, [], ap, subst, sym, refl, None, rules, arith, length, length-append, drop}
use Rattle.std.proofs.lemmas.List.{drop_more}
use Rattle.std.proofs.lemmas.List.Sums.{count_by-le-length}
use Rattle.std.proofs.Math.ListN.{drop_of_length-le}
use Rattle.std.specs.Prelude.{◌==◌}
use Rattle.model_laws.proofs.InTurnText.{in_turn_size, none_refused_within}
use Rattle.op_model.specs.Actions.{edit_of, made_in_turn, sizes, Asked}
use Rattle.op_model.specs.Causality.{clock_of}
use Rattle.op_model.specs.declared.edit.Edit.{Edit}
use Rattle.op_model.specs.declared.op.Op.{Op}
use Rattle.op_model.specs.Made.{edit_refusal, made, size_of}
use Rattle.op_model.specs.Text.{rev}
use Rattle.replica_core.proofs.MakingLemmas.{making_ends, making_goes_on, making_starts}
use Rattle.replica_core.proofs.SoundLemmas.{list_fits}
use Rattle.replica_core.specs.Docs.{doc_number}
use Rattle.replica_core.specs.Turns.{IsBehind, IsMaking}
use Rattle.replica_core.proofs.preparing.prepared_several.Goals as goal

pub loop-change-init : goal.loop-change-init
loop-change-init c =
    let ops = c.args.ops.now in
    let r = c.args.known.now.replica in
    let a = c.args.action.now in
    let old = c.in_ok-copying.copying in
    let new = c.make.new.self in
    let item = c.first-first.result.now.change in
    let rest = c.others-others.result.now in
    let token : a.token ≡ c.first-first.result.now.token = ap (λ (x : Asked). x.token) c.first-first.ensures in
    let all : a.changes ≡ item ∷ rest =
    ap (λ (x : Asked). x.changes) c.first-first.ensures ∙ ap (λ cs. item ∷ cs) (sym c.others-others.ensures.others) in
    let number : doc_number old.doc ≡ a.doc = c.in_ok-copying.ensures.number ∙ c.requires.number in
    let start : IsMaking old ops r a.doc a.token a.changes a.changes =
    making_starts old ops r a.doc a.token a.changes c.in_ok-copying.ensures.made (c.in_ok-copying.ensures.behind ops c.requires.counted c.requires.stands)
    number c.requires.due in
    let was : IsMaking old ops r a.doc a.token a.changes (item ∷ rest) =
    subst (λ left. IsMaking old ops r a.doc a.token a.changes left) all start in
    let same : edit_of (doc_number old.doc) c.first-first.result.now.token item ≡ edit_of a.doc a.token item = rw (number, ← token) refl in
    let list : List Op = ops ++ old.ops.items in
    let due : edit_refusal list r (edit_of (doc_number old.doc) c.first-first.result.now.token item) ≡ None =
    subst (λ (e : Edit). edit_refusal list r e ≡ None) (sym same) was.due.0 in
    let is = subst (λ (e : Edit). IsBehind new (list ++ made list r e) × (new.ops.items ≡ old.ops.items ++ made list r e)) same
    (c.in_ok-make.ensures.made list was.behind due) in
    making_goes_on old new ops r a.doc a.token a.changes item rest was is.0 is.1 c.in_ok-make.ensures.number

pub loop-change-preserved : goal.loop-change-preserved
loop-change-preserved c =
    let ops = c.args.ops.now in
    let r = c.args.known.now.replica in
    let a = c.args.action.now in
    let i = c.loop-change.change-index in
    let old = c.loop-change.copying in
    let item = c.change-item.result in
    let rest = drop (i + 1) c.others-others.result.now in
    let token : a.token ≡ c.first-first.result.now.token = ap (λ (x : Asked). x.token) c.first-first.ensures in
    let more = drop_more c.others-others.result.now i item c.loop-change-test.true in
    let was : IsMaking old ops r a.doc a.token a.changes (item ∷ rest) = rw (more, ← c.change-item.is) at c.loop-change.invariant in
    let same : edit_of (doc_number old.doc) c.first-first.result.now.token item ≡ edit_of a.doc a.token item = rw (was.number, ← token) refl in
    let list : List Op = ops ++ old.ops.items in
    let due : edit_refusal list r (edit_of (doc_number old.doc) c.first-first.result.now.token item) ≡ None = subst (λ (e : Edit). edit_refusal list r e ≡ None) (sym same) was.due.0 in
    let new = c.make-in-loop-change.new.self in
    let is = subst (λ (e : Edit). IsBehind new (list ++ made list r e) × (new.ops.items ≡ old.ops.items ++ made list r e)) same (c.in_ok-make-2.ensures.made list was.behind due) in
    making_goes_on old new ops r a.doc a.token a.changes item rest was is.0 is.1 c.in_ok-make-2.ensures.number

pub overflow_add-place : goal.overflow_add-place
overflow_add-place c =
    let ops = c.args.ops.now in
    let r = c.args.known.now.replica in
    let a = c.args.action.now in
    let none : drop c.loop-change.change-index c.others-others.result.now ≡ [] = drop_of_length-le c.others-others.result.now c.loop-change-test.false in
    let ends = making_ends c.loop-change.copying ops r a.doc a.token a.changes (rw none at c.loop-change.invariant) in
    let fits = list_fits ops (made_in_turn ops r a.doc a.token a.changes) (none_refused_within ops r a.doc a.token a.changes c.requires.counted.closed c.requires.due) in
    let long : c.len.result ≡ length ops = c.len.ensures in
    let added : c.len-2.result ≡ length c.loop-change.copying.ops.items = search rules in
    let made = ap (λ (ops : List Op). length ops) ends in
    omega arith

pub overflow_cast-place : goal.overflow_cast-place
overflow_cast-place c =
    let ops = c.args.ops.now in
    let r = c.args.known.now.replica in
    let a = c.args.action.now in
    let none : drop c.loop-change.change-index c.others-others.result.now ≡ [] = drop_of_length-le c.others-others.result.now c.loop-change-test.false in
    let ends = making_ends c.loop-change.copying ops r a.doc a.token a.changes (rw none at c.loop-change.invariant) in
    let fits = list_fits ops (made_in_turn ops r a.doc a.token a.changes) (none_refused_within ops r a.doc a.token a.changes c.requires.counted.closed c.requires.due) in
    let long : c.len.result ≡ length ops = c.len.ensures in
    let added : c.len-2.result ≡ length c.loop-change.copying.ops.items = search rules in
    let made = ap (λ (ops : List Op). length ops) ends in
    omega arith

pub overflow_cast-place-2 : goal.overflow_cast-place-2
overflow_cast-place-2 c =
    let ops = c.args.ops.now in
    let r = c.args.known.now.replica in
    let a = c.args.action.now in
    let m = c.loop-change.copying in
    let none : drop c.loop-change.change-index c.others-others.result.now ≡ [] = drop_of_length-le c.others-others.result.now c.loop-change-test.false in
    let ends = making_ends m ops r a.doc a.token a.changes (rw none at c.loop-change.invariant) in
    let fits = list_fits ops (made_in_turn ops r a.doc a.token a.changes) (none_refused_within ops r a.doc a.token a.changes c.requires.counted.closed c.requires.due) in
    let made = ap (λ (ops : List Op). length ops) ends in
    let all = length-append ops m.ops.items in
    let few = count_by-le-length (λ (op : Op). op.doc == doc_number m.doc) (ops ++ m.ops.items) in
    let is = c.rev.ensures (ops ++ m.ops.items) c.loop-change.invariant.behind.stands (omega arith) in
    omega arith

pub returns-clause-prepared : goal.returns-clause-prepared
returns-clause-prepared c = λ h list replica.
    let ops = c.args.ops.now in
    let r = c.args.known.now.replica in
    let a = c.args.action.now in
    let m = c.loop-change.copying in
    let none : drop c.loop-change.change-index c.others-others.result.now ≡ [] = drop_of_length-le c.others-others.result.now c.loop-change-test.false in
    let ends = making_ends m ops r a.doc a.token a.changes (rw none at c.loop-change.invariant) in
    let fits = list_fits ops (made_in_turn ops r a.doc a.token a.changes) (none_refused_within ops r a.doc a.token a.changes c.requires.counted.closed c.requires.due) in
    let made = ap (λ (ops : List Op). length ops) ends in
    let all = length-append ops m.ops.items in
    let few = count_by-le-length (λ (op : Op). op.doc == doc_number m.doc) (ops ++ m.ops.items) in
    let counted = c.rev.ensures (ops ++ m.ops.items) c.loop-change.invariant.behind.stands (omega arith) in
    let long : c.len.result ≡ length ops = c.len.ensures in
    let added : c.len-2.result ≡ length m.ops.items = search rules in
    let size = in_turn_size ops r a.doc a.token a.changes c.requires.due in
    let first : 0 < size_of c.first-first.result.now.change = rw c.size-some.ensures.value at c.size-some.ensures.some in
    let whole = ap (λ (x : Asked). sizes x.changes) c.first-first.ensures in
    record {
      operations = rw (list, replica) ends;
      some = rw (list, replica) (omega arith);
      clock = rw (list, replica) (c.loop-change.invariant.behind.clock ∙ ap (λ more. clock_of (ops ++ more)) ends);
      end = rw (list, replica) ((omega arith) ∙ ap (λ more. length (ops ++ more)) ends);
      number = rw (list, replica) (counted ∙ (ap (λ more. rev (ops ++ more) (doc_number m.doc)) ends ∙ ap (rev (ops ++ made_in_turn ops r a.doc a.token a.changes)) c.loop-change.invariant.number));
      copy = record { number = c.loop-change.invariant.number; stands = rw list c.loop-change.invariant.behind.stands };
    }
