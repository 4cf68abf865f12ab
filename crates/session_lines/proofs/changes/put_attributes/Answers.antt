use Rattle.std.proofs.Common.{◌≡◌, ◌≢◌, ◌-◌, ◌≤◌, [], length, take, codes, arith, ap, ◌∙◌, append_assoc}
use Rattle.std.specs.Prelude.{vec_capacity}
use Rattle.session_lines.specs.Saying.{but_last, said_marks}
use Rattle.session_lines.proofs.PutLemmas.{◌>>◌, stops, puts_but_last, some_attributes, some_long}
use Rattle.session_lines.proofs.changes.put_attributes.Goals as goal

pub returns-in_err-put : goal.returns-in_err-put
returns-in_err-put c = stops c.from_residual.ensures.0 c.in_err-put.ensures

pub returns-in_err-put_marks : goal.returns-in_err-put_marks
returns-in_err-put_marks c = stops c.from_residual-in_err-put_marks.ensures.0 (c.in_ok-put.ensures >> c.in_err-put_marks.ensures)

pub returns : goal.returns
returns c =
    let members = said_marks c.args.marks.now in
    let some : members ≢ [] = λ none. absurd (let yes = c.is_plain.ensures.1 none in let no = c.if-is_plain.false in cc) in
    let begun = c.in_ok-put.ensures >> c.in_ok-put_marks.ensures in
    let all = c.put_marks.new.out.items in
    let same : c.len.result ≡ length all = c.len.ensures ∙ c.put_marks.new.out.ok.0 in
    let cut : c.truncate.new.self.items ≡ take (length all - 1) all = c.truncate.ensures.items ∙ ap (λ n. take (n - 1) all) same in
    let kept : vec_capacity c.put_marks.new.out ≤ vec_capacity c.truncate.new.self = omega (arith, c.truncate.ensures.capacity) in
    let front = puts_but_last c.args.out.now c.put_marks.new.out c.truncate.new.self (codes "{\"attributes\":{") members (some_long members some) begun cut kept in
    rw (some_attributes members some, ← append_assoc (codes "{\"attributes\":{") (but_last members) (codes "},"))
    (front >> c.put-3.ensures)
