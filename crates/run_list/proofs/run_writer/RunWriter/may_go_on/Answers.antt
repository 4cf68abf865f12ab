use Rattle.std.proofs.Common.{◌≡◌, ◌-◌, suc, false, None, length, get_or, sym, ap, ◌∙◌, arith}
use Rattle.std.proofs.lemmas.List.{get_or-map}
use Rattle.op_list.specs.Heads.{head_of}
use Rattle.run_list.specs.Told.{bare_of}
use Rattle.run_list.specs.Writer.{is_right_behind}
use Rattle.run_list.proofs.Continuing.{goes_on_bare}
use Rattle.run_list.proofs.RightBehind.{others_begin}
use Rattle.run_list.proofs.Parts.{last_at}
use Rattle.run_list.proofs.run_writer.RunWriter.may_go_on.Goals as goal

pub returns : goal.returns
returns c = λ off op is.
    let list = c.self.inside.list in
    let i = c.len-len.result - 1 in
    let long : length list ≡ suc i = omega (arith, c.if-len-eq0.false, c.len-len.ensures) in
    let last = get_or list i op in
    let head : c.head.result ≡ head_of last = c.head.ensures ∙ get_or-map head_of list i op c.head.result (omega (arith, long)) in
    let behind : is_right_behind (head_of last) op ≡ false = ap (λ h. is_right_behind h op) (sym head) ∙ sym (c.is_right_behind.ensures op is) ∙ off in
    rw (sym c.self.view_is) (goes_on_bare list last op (last_at None list i op long) ∙ others_begin (bare_of last) (bare_of op) behind)
