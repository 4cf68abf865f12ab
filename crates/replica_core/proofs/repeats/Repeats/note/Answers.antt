use Rattle.std.proofs.Common.{◌∙◌, refl, sym}
use Rattle.replica_core.proofs.RepeatLemmas.{put_noted, put_other}
use Rattle.replica_core.proofs.repeats.Repeats.note.Goals as goal

pub returns-in_ok-insert-clause-noted : goal.returns-in_ok-insert-clause-noted
returns-in_ok-insert-clause-noted c = λ ops op was at is.
    put_noted c.args.self.now (record { from = c.args.self.now.from; at = c.insert.new.self }) ops op c.args.index was at refl
    c.in_ok-insert.ensures.updates.0 (sym c.if-is_repeat.true ∙ is)

pub returns-else-is_repeat-clause-noted : goal.returns-else-is_repeat-clause-noted
returns-else-is_repeat-clause-noted c = λ ops op was at is.
    put_other c.args.self.now ops op was (sym is ∙ c.if-is_repeat.false)
