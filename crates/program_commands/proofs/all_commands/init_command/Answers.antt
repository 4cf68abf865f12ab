use Rattle.std.proofs.Common.{rules, ap, ap₂, codes, Some, ◌∙◌}
use Rattle.clap.specs.Walk.{Rule, rule_of}
use Rattle.clap.specs.Simple.{with_rule}
use Rattle.program_commands.proofs.all_commands.init_command.Goals as goal

pub returns : goal.returns
returns c =
    let named = λ (rule : Rule). record rule { long = Some (codes "replica") } in
    let replica = ap rule_of c.long.ensures ∙ ap named c.needed-2.ensures.rule in
    let with_file = c.in_ok-arg.ensures.shape c.needed.ensures.local ∙ ap₂ with_rule c.described-bare.ensures.app c.needed.ensures.rule in
    record {
      app = c.in_ok-command.ensures.shape (search rules) ∙ ap₂ with_rule with_file replica;
      local = search rules;
    }
