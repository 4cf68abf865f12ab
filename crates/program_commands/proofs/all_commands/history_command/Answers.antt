use Rattle.std.proofs.Common.{rules, ap₂, ◌∙◌}
use Rattle.clap.specs.Simple.{with_rule}
use Rattle.program_commands.proofs.all_commands.history_command.Goals as goal

pub returns : goal.returns
returns c =
    let with_file = c.in_ok-arg.ensures.shape c.needed.ensures.local ∙ ap₂ with_rule c.described-bare.ensures.app c.needed.ensures.rule in
    let with_doc = c.in_ok-arg-2.ensures.shape c.needed-2.ensures.local ∙ ap₂ with_rule with_file c.needed-2.ensures.rule in
    record {
      app = c.in_ok-command.ensures.shape c.every.ensures.local ∙ ap₂ with_rule with_doc c.every.ensures.rule;
      local = search rules;
    }
