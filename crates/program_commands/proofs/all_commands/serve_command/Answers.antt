use Rattle.std.proofs.Common.{ap, ap₂, ◌||◌, ◌∙◌}
use Rattle.clap.specs.Simple.{with_rule}
use Rattle.program_commands.specs.Program.{with_port_options}
use Rattle.program_commands.proofs.all_commands.serve_command.Goals as goal

pub returns : goal.returns
returns c =
    let with_file = c.in_ok-arg.ensures.shape c.needed.ensures.local ∙ ap₂ with_rule c.described-bare.ensures.app c.needed.ensures.rule in
    let with_ports = c.in_ok-with_ports.ensures.app ∙ ap with_port_options with_file in
    let with_origin = c.in_ok-arg-2.ensures.shape c.origin.ensures.local ∙ ap₂ with_rule with_ports c.origin.ensures.rule in
    let with_end = c.in_ok-arg-3.ensures.shape c.flag.ensures.local ∙ ap₂ with_rule with_origin c.flag.ensures.rule in
    let with_log = c.in_ok-arg-4.ensures.shape c.flag-2.ensures.local ∙ ap₂ with_rule with_end c.flag-2.ensures.rule in
    record {
      app = c.in_ok-command.ensures.shape c.flag-3.ensures.local ∙ ap₂ with_rule with_log c.flag-3.ensures.rule;
      local =
          let file_local = c.in_ok-arg.ensures.globals ∙ ap₂ ◌||◌ c.described-bare.ensures.local c.needed.ensures.local in
          let origin_local = c.in_ok-arg-2.ensures.globals ∙ ap₂ ◌||◌ (c.in_ok-with_ports.ensures.local file_local) c.origin.ensures.local in
          let end_local = c.in_ok-arg-3.ensures.globals ∙ ap₂ ◌||◌ origin_local c.flag.ensures.local in
          let log_local = c.in_ok-arg-4.ensures.globals ∙ ap₂ ◌||◌ end_local c.flag-2.ensures.local in
          c.in_ok-command.ensures.globals ∙ ap₂ ◌||◌ log_local c.flag-3.ensures.local;
    }
