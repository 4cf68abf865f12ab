use Rattle.std.proofs.Common.{ap, ap₂, ◌≡◌, ◌∙◌}
use Rattle.clap.specs.Simple.{App, app_of, app_of_fields, on_top, with_subcommand}
use Rattle.program_commands.specs.Program.{bare_program, versioned, with_looks}
use Rattle.program_commands.proofs.all_commands.commands.Goals as goal

pub returns : goal.returns
returns c =
    let top = λ (app : App). app.top in
    let named : app_of c.after_help-bare.result ≡ bare_program =
    ap app_of_fields c.after_help-bare.ensures ∙ ap app_of_fields c.about.ensures ∙ ap app_of_fields c.version.ensures
    ∙ ap (on_top versioned) c.new.ensures.app in
    let one = c.in_ok-subcommand.ensures.shape c.in_ok-init_command.ensures.local ∙ ap₂ with_subcommand named (ap top c.in_ok-init_command.ensures.app) in
    let two = c.in_ok-edited.ensures.shape c.in_ok-edit_command.ensures.local ∙ ap₂ with_subcommand one (ap top c.in_ok-edit_command.ensures.app) in
    let looks = c.in_ok-with_looks.ensures ∙ ap with_looks two in
    let three = c.in_ok-subcommand-2.ensures.shape c.in_ok-import_command.ensures.local ∙ ap₂ with_subcommand looks (ap top c.in_ok-import_command.ensures.app) in
    let four = c.in_ok-subcommand-3.ensures.shape c.in_ok-serve_command.ensures.local ∙ ap₂ with_subcommand three (ap top c.in_ok-serve_command.ensures.app) in
    c.in_ok-all.ensures.shape c.in_ok-ask_command.ensures.local ∙ ap₂ with_subcommand four (ap top c.in_ok-ask_command.ensures.app)
