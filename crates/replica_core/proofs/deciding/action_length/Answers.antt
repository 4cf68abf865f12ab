use Rattle.std.proofs.Common.{◌≡◌, ◌∙◌, [], Some, None, ap, sym, arith, length}
use Rattle.std.proofs.lemmas.Bool.Decides.{nat_tests}
use Rattle.std.proofs.lemmas.Result.{IfErr-weaker, IfOk-weaker}
use Rattle.op_model.specs.Actions.{asked, refusal_of}
use Rattle.op_model.specs.Made.{edit_refusal, made}
use Rattle.op_model.specs.Waiting.{change_length}
use Rattle.replica_core.specs.Refusal.{number_of}
use Rattle.replica_core.proofs.SingleLemmas.{none_from, refusal_single}
use Rattle.replica_core.proofs.deciding.action_length.Goals as goal

pub returns-then-is_empty-clause-due : goal.returns-then-is_empty-clause-due
returns-then-is_empty-clause-due c =
    let ops = c.args.ops.now in
    let r = c.args.known.now.replica in
    let e = c.first.result.now in
    let empty : length c.others.result.now ≡ 0 = (let test = c.is_empty.ensures in let is = c.if-is_empty.true in grind (arith, nat_tests)) in
    let none = none_from c.others.result.now empty in
    let single : c.args.action.now ≡ asked e [] = c.first.ensures ∙ ap (asked e) (sym c.others.ensures.others ∙ none) in
    IfOk-weaker c.edit_length.result (λ bytes. (edit_refusal ops r e ≡ None) × (bytes ≡ change_length e.change (made ops r e)))
    (λ bytes. refusal_of ops r c.args.action.now ≡ None)
    (λ bytes is. refusal_single ops r c.args.action.now e single ∙ is.0) c.edit_length.ensures.length

pub returns-then-is_empty-clause-refused : goal.returns-then-is_empty-clause-refused
returns-then-is_empty-clause-refused c =
    let ops = c.args.ops.now in
    let r = c.args.known.now.replica in
    let e = c.first.result.now in
    let empty : length c.others.result.now ≡ 0 = (let test = c.is_empty.ensures in let is = c.if-is_empty.true in grind (arith, nat_tests)) in
    let none = none_from c.others.result.now empty in
    let single : c.args.action.now ≡ asked e [] = c.first.ensures ∙ ap (asked e) (sym c.others.ensures.others ∙ none) in
    IfErr-weaker c.edit_length.result (λ why. edit_refusal ops r e ≡ Some (number_of why)) (λ why. refusal_of ops r c.args.action.now ≡ Some (number_of why))
    (λ why is. refusal_single ops r c.args.action.now e single ∙ is) c.edit_length.ensures.refused
