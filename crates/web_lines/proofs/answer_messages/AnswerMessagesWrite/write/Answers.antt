use Rattle.std.proofs.Common.{rules, ◌≡◌, ◌<◌, ◌==◌, length}
use Rattle.std.specs.List.{position_or_len}
use Rattle.web_lines.proofs.TakingLemmas.{first-is-feed, takes-part, takes-feed}
use Rattle.web_lines.proofs.answer_messages.AnswerMessagesWrite.write.Goals as goal

pub returns-then-not-is_empty-clause-taken : goal.returns-then-not-is_empty-clause-taken
returns-then-not-is_empty-clause-taken g c =
    let none : position_or_len (λ byte. byte == 10) c.args.buf.now ≡ 0 = search rules in
    let some : 0 < length c.args.buf.now = search rules in
    takes-feed g.S.Write.contents c.args.self.now c.send_line.new.self _ c.send_line.result
    (first-is-feed c.args.buf.now none some) c.send_line.ensures.count c.send_line.ensures.ok

pub returns-clause-taken : goal.returns-clause-taken
returns-clause-taken g c =
    let gathered = c.gather.ensures in
    takes-part g.S.Write.contents c.args.self.now c.gather.new.self c.args.buf.now c.gather.result c.line_part-end.result
    c.line_part-end.ensures gathered.count gathered.ok
