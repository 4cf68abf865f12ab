use Rattle.std.proofs.Common.{rules, ap, ap₂, true, ◌∙◌}
use Rattle.clap.specs.declared.builder.arg.Arg.{Arg}
use Rattle.clap.specs.Walk.{Rule, rule_of}
use Rattle.clap.specs.Simple.{with_rule}
use Rattle.program_commands.proofs.all_commands.import_command.Goals as goal

pub returns : goal.returns
returns c =
    let given = λ (rule : Rule). record rule { required = true } in
    let is_global = λ (arg : Arg). arg.global in
    let from = ap rule_of c.required.ensures ∙ ap given c.from.ensures.rule in
    let from_local = ap is_global c.required.ensures ∙ c.from.ensures.local in
    let with_file = c.in_ok-arg.ensures.shape c.needed.ensures.local ∙ ap₂ with_rule c.described-bare.ensures.app c.needed.ensures.rule in
    let with_doc = c.in_ok-arg-2.ensures.shape c.needed-2.ensures.local ∙ ap₂ with_rule with_file c.needed-2.ensures.rule in
    record {
      app = c.in_ok-command.ensures.shape from_local ∙ ap₂ with_rule with_doc from;
      local = search rules;
    }
