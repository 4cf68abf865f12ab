use Rattle.std.proofs.Common.{Err, refl}
use Rattle.web_lines.proofs.message_lines.MessageLines.next.Goals as goal

pub returns-in-Err : goal.returns-in-Err
returns-in-Err g c = record {
  given = Err c.in-Err.error;
  reads = rw c.end_by.ensures c.in-Err.ensures;
  lines = rw c.end_by.ensures c.requires;
  ending = rw c.end_by.ensures refl;
}
