use Rattle.std.proofs.Common.{◌≡◌, ◌∙◌, true}
use Rattle.daemon_asking.proofs.JudgingLemmas.{read_says, unread_says}
use Rattle.daemon_asking.proofs.judging.is_ok.Goals as goal

pub returns-in-Ok : goal.returns-in-Ok
returns-in-Ok c = c.is_given.ensures ∙ read_says c.args.line.now _ c.in-Ok.ensures.ok.0 c.in-Ok.ensures.ok.1

pub returns-in-Err-2 : goal.returns-in-Err-2
returns-in-Err-2 c =
    unread_says c.args.line.now (c.in-Err.ensures.err (λ memory. let told : c.is_memory.result ≡ true = c.is_memory.ensures.1 memory in cc))
