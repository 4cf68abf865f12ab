use Rattle.session_lines.proofs.AnchorLemmas.{id_short, id_unsigned}
use Rattle.session_lines.proofs.anchor_text.id.Goals as goal

pub returns-then-bytes-lt-NAME : goal.returns-then-bytes-lt-NAME
returns-then-bytes-lt-NAME c = id_short c.args.bytes.now c.if-bytes-lt-NAME.true

pub returns-then-bytes-at-ne64 : goal.returns-then-bytes-at-ne64
returns-then-bytes-at-ne64 c = id_unsigned c.args.bytes.now c.if-bytes-lt-NAME.false c.if-bytes-at-ne64.true
