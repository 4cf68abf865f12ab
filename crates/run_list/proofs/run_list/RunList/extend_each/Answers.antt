use Rattle.std.proofs.Common.{◌≡◌, ◌++◌, [], ◌∷◌, List, length, take, refl, sym, ap, ◌∙◌, append-nil, arith}
use Rattle.std.proofs.lemmas.List.{get_or-map, length-map, map-append, take_at}
use Rattle.std.specs.Prelude.{Result, Ok, Err, OnOk, OnErr}
use Rattle.std.specs.declared.alloc.AllocError.{AllocError}
use Rattle.op_model.specs.declared.op.Op.{Op}
use Rattle.run_list.specs.Told.{bare_of, bare_ops}
use Rattle.run_list.proofs.Appending.{front_of_front}
use Rattle.run_list.proofs.NextOnes.{last_too}
use Rattle.run_list.proofs.run_list.RunList.extend_each.Goals as goal

-- what was there stays in front, whether others came behind it or not
in_front : (r : Result (Unit {0}) AllocError) (pushed more new : List Op) → OnOk r (new ≡ pushed ++ more) → OnErr r (new ≡ pushed)
    → take (length pushed) new ≡ pushed
in_front (Ok done) pushed more new grown same = ap (take (length pushed)) grown ∙ take_at pushed more (length pushed) refl
in_front (Err refused) pushed more new grown same =
    ap (take (length pushed)) (same ∙ sym (append-nil pushed)) ∙ take_at pushed [] (length pushed) refl

pub copy_each-requires-clause-last : goal.copy_each-requires-clause-last
copy_each-requires-clause-last c =
    let long = length-map c.args.ops.now bare_of in
    last_too (bare_ops c.args.ops.now) (bare_ops c.args.self.now) (bare_ops c.push.new.self) c.args.n (bare_of c.in_ok-op.op) (omega arith)
    (ap bare_of c.in_ok-op.ensures ∙ sym (get_or-map bare_of c.args.ops.now c.args.n c.in_ok-op.op (bare_of c.in_ok-op.op) (omega arith)))
    (ap bare_ops c.in_ok-push.ensures.ok ∙ map-append bare_of c.args.self.now (c.in_ok-op.op ∷ []))

pub returns-clause-front : goal.returns-clause-front
returns-clause-front c =
    front_of_front c.args.self.now (c.in_ok-op.op ∷ []) c.push.new.self c.copy_each.new.self c.in_ok-push.ensures.ok
    (in_front c.copy_each.result c.push.new.self _ c.copy_each.new.self c.copy_each.ensures.ok c.copy_each.ensures.err)
