use Rattle.std.proofs.Common.{ap, ap₂, ◌∙◌}
use Rattle.clap.specs.Simple.{App, app_of, with_subcommand}
use Rattle.program_commands.proofs.all_commands.with_looks.Goals as goal

pub returns : goal.returns
returns c =
    let top = λ (app : App). app.top in
    let one = c.in_ok-subcommand.ensures.shape c.in_ok-dump_command.ensures.local
    ∙ ap (with_subcommand (app_of c.args.command)) (ap top c.in_ok-dump_command.ensures.app) in
    let two = c.in_ok-subcommand-2.ensures.shape c.in_ok-list_command.ensures.local ∙ ap₂ with_subcommand one (ap top c.in_ok-list_command.ensures.app) in
    let three = c.in_ok-subcommand-3.ensures.shape c.in_ok-check_command.ensures.local ∙ ap₂ with_subcommand two (ap top c.in_ok-check_command.ensures.app) in
    let four = c.in_ok-subcommand-4.ensures.shape c.in_ok-export_command.ensures.local ∙ ap₂ with_subcommand three (ap top c.in_ok-export_command.ensures.app) in
    c.in_ok-command.ensures.shape c.in_ok-history_command.ensures.local ∙ ap₂ with_subcommand four (ap top c.in_ok-history_command.ensures.app)
