use Rattle.std.proofs.Common.{◌≡◌, drop, filter}
use Rattle.op_model.specs.Text.{is_removed}
use Rattle.op_model.specs.Made.{first_hidden, ends_after, last_or}
use Rattle.slow_programs.proofs.placing.last_end.Given as goal

abbrev pub invariant-loop-character : goal.invariant-loop-character
invariant-loop-character l =
    last_or l.fn.before (filter (λ c. ends_after l.ops l.doc c.id) (first_hidden (is_removed l.ops l.doc) l.rest))
    ≡ last_or l.last (filter (λ c. ends_after l.ops l.doc c.id) (first_hidden (is_removed l.ops l.doc) (drop l.character-index l.rest)))
