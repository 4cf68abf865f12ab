use Rattle.std.proofs.Common.{rules, ap₂, ◌∙◌}
use Rattle.clap.specs.Simple.{with_rule}
use Rattle.program_commands.proofs.all_commands.check_command.Goals as goal

pub returns : goal.returns
returns c = record {
  app = c.in_ok-command.ensures.shape c.needed.ensures.local ∙ ap₂ with_rule c.described-bare.ensures.app c.needed.ensures.rule;
  local = search rules;
}
