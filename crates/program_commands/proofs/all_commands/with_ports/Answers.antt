use Rattle.std.proofs.Common.{ap, ap₂, true, ◌||◌, ◌∙◌}
use Rattle.clap.specs.declared.builder.arg.Arg.{Arg}
use Rattle.clap.specs.Walk.{Rule, rule_of}
use Rattle.clap.specs.Simple.{app_of, with_rule}
use Rattle.program_commands.proofs.all_commands.with_ports.Goals as goal

pub returns : goal.returns
returns c =
    let given = λ (rule : Rule). record rule { required = true } in
    let is_global = λ (arg : Arg). arg.global in
    let sessions = ap rule_of c.required.ensures ∙ ap given c.port.ensures.rule in
    let peers = ap rule_of c.required-2.ensures ∙ ap given c.port-2.ensures.rule in
    let sessions_local = ap is_global c.required.ensures ∙ c.port.ensures.local in
    let peers_local = ap is_global c.required-2.ensures ∙ c.port-2.ensures.local in
    let one = c.in_ok-arg.ensures.shape sessions_local ∙ ap (with_rule (app_of c.args.command)) sessions in
    let two = c.in_ok-arg-2.ensures.shape peers_local ∙ ap₂ with_rule one peers in
    let three = c.in_ok-arg-3.ensures.shape c.port-3.ensures.local ∙ ap₂ with_rule two c.port-3.ensures.rule in
    record {
      app = c.in_ok-command.ensures.shape c.port-4.ensures.local ∙ ap₂ with_rule three c.port-4.ensures.rule;
      local = λ bare.
          let one_local = c.in_ok-arg.ensures.globals ∙ ap₂ ◌||◌ bare sessions_local in
          let two_local = c.in_ok-arg-2.ensures.globals ∙ ap₂ ◌||◌ one_local peers_local in
          let three_local = c.in_ok-arg-3.ensures.globals ∙ ap₂ ◌||◌ two_local c.port-3.ensures.local in
          c.in_ok-command.ensures.globals ∙ ap₂ ◌||◌ three_local c.port-4.ensures.local;
    }
