use Rattle.std.proofs.lemmas.Result.{on_err_weaker}
use Rattle.byte_streams.specs.Fronts.{AppendsFront}
use Rattle.session_threads.proofs.exchange.exchange.Goals as goal

pub returns-clause-err : goal.returns-clause-err
returns-clause-err g c =
    let (taken, is_taken, is_answered) = c.answer-answer.ensures in
    on_err_weaker c.put-written.result
    (λ (front : AppendsFront (g.W.Write.contents c.args.writer.now) (g.W.Write.contents c.put-written.new.writer) c.as_slice.result.now). (
      c.say.new.self,
      record {
        taken = taken;
        answer = c.answer-answer.result;
        is_taken = is_taken;
        is_answered = rw c.line_read.ensures at is_answered;
        is_said = c.say.ensures;
      },
      rw c.as_slice.ensures at front,
    ))
    c.put-written.ensures.err
