use Rattle.std.proofs.Common.{sym}
use Rattle.web_lines.proofs.TakingLemmas.{position_or_len-None}
use Rattle.web_lines.proofs.answer_messages.line_part.Goals as goal

pub returns-in-None : goal.returns-in-None
returns-in-None c = position_or_len-None c.args.bytes.now (sym c.in-None.ensures)
