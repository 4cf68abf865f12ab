use Rattle.std.proofs.Common.{append_assoc, refl}
use Rattle.session_lines.proofs.short_line.put_watched.Goals as goal

pub returns-clause-items : goal.returns-clause-items
returns-clause-items c =
    rw (c.put-3.ensures.items, c.put_number-2.ensures.items, c.put-2.ensures.items, c.put_number.ensures.items, c.put.ensures.items)
    (simp append_assoc refl)
