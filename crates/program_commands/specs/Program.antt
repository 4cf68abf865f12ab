-- The commands of the program, as `clap` reads them.
use Rattle.std.specs.Prelude.{List, ℕ, true, Some, codes}
use Rattle.clap.specs.Walk.{Rule}
use Rattle.clap.specs.declared.builder.action.ArgAction.TheVariants.{Append, SetTrue}
use Rattle.clap.specs.Simple.{App, Shape, new_app, new_rule, on_top, with_rule, with_subcommand}

-- an argument that has to be given
abbrev pub needed : List ℕ → Rule
needed id = record (new_rule id) { required = true }

-- `init FILE --replica UUID`
abbrev pub init_app : App
init_app =
    with_rule (with_rule (new_app (codes "init")) (needed (codes "FILE")))
    (record (needed (codes "UUID")) { long = Some (codes "replica") })

-- `edit FILE`
abbrev pub edit_app : App
edit_app = with_rule (new_app (codes "edit")) (needed (codes "FILE"))

-- `dump FILE DOC`
abbrev pub dump_app : App
dump_app = with_rule (with_rule (new_app (codes "dump")) (needed (codes "FILE"))) (needed (codes "DOC"))

-- `list FILE`
abbrev pub list_app : App
list_app = with_rule (new_app (codes "list")) (needed (codes "FILE"))

-- `check FILE`
abbrev pub check_app : App
check_app = with_rule (new_app (codes "check")) (needed (codes "FILE"))

-- an option with the value FORM
abbrev pub form_option : Rule
form_option = record (new_rule (codes "to")) { long = Some (codes "to"); value_names = 1 }

-- an option with the value REV
abbrev pub rev_option : Rule
rev_option = record (new_rule (codes "at-rev")) { long = Some (codes "at-rev"); value_names = 1 }

-- the option with the value FORM of a page that is read
abbrev pub from_option : Rule
from_option = record (new_rule (codes "from")) { long = Some (codes "from"); value_names = 1 }

-- the same, which has to be given
abbrev pub needed_from : Rule
needed_from = record from_option { required = true }

-- `import FILE DOC --from FORM`
abbrev pub import_app : App
import_app =
    with_rule (with_rule (with_rule (new_app (codes "import")) (needed (codes "FILE"))) (needed (codes "DOC"))) needed_from

-- an option with the value PORT
abbrev pub port_option : List ℕ → Rule
port_option name = record (new_rule name) { long = Some name; value_names = 1 }

-- an option with the value PORT that has to be given
abbrev pub needed_port : List ℕ → Rule
needed_port name = record (port_option name) { required = true }

-- an option without a value
abbrev pub flag_option : List ℕ → Rule
flag_option name = record (new_rule name) { long = Some name; action = Some SetTrue }

-- `export FILE DOC [--to FORM] [--at-rev REV] [--breaks]`
abbrev pub export_app : App
export_app =
    with_rule
    (with_rule
    (with_rule (with_rule (with_rule (new_app (codes "export")) (needed (codes "FILE"))) (needed (codes "DOC"))) form_option)
    rev_option)
    (flag_option (codes "breaks"))

-- an option with the value N
abbrev pub every_option : Rule
every_option = record (new_rule (codes "every")) { long = Some (codes "every"); value_names = 1 }

-- `history FILE DOC [--every N]`
abbrev pub history_app : App
history_app =
    with_rule (with_rule (with_rule (new_app (codes "history")) (needed (codes "FILE"))) (needed (codes "DOC"))) every_option

-- an option with the value ORIGIN that may be given again
abbrev pub origin_option : Rule
origin_option = record (new_rule (codes "origin")) { long = Some (codes "origin"); value_names = 1; action = Some Append }

-- a command with the ports of a daemon: `--sessions PORT --peers PORT [--link PORT] [--web PORT]`
abbrev pub with_port_options : App → App
with_port_options app =
    with_rule
    (with_rule (with_rule (with_rule app (needed_port (codes "sessions"))) (needed_port (codes "peers")))
    (port_option (codes "link")))
    (port_option (codes "web"))

-- `serve FILE --sessions PORT --peers PORT [--link PORT] [--web PORT] [--origin ORIGIN].. [--end-on-failure] [--log] [--ready]`
abbrev pub serve_app : App
serve_app =
    with_rule
    (with_rule
    (with_rule
    (with_rule (with_port_options (with_rule (new_app (codes "serve")) (needed (codes "FILE")))) origin_option)
    (flag_option (codes "end-on-failure")))
    (flag_option (codes "log")))
    (flag_option (codes "ready"))

-- the argument LINE, which may be given again
abbrev pub line_rule : Rule
line_rule = record (new_rule (codes "LINE")) { action = Some Append }

-- `ask PORT [LINE]..`
abbrev pub ask_app : App
ask_app = with_rule (with_rule (new_app (codes "ask")) (needed (codes "PORT"))) line_rule

-- a command that tells its version
abbrev pub versioned : Shape → Shape
versioned command = record command { has_version = true }

-- the program without its commands: it tells its version
abbrev pub bare_program : App
bare_program = on_top versioned (new_app (codes "peritext"))

-- a program with the commands that look at a file
abbrev pub with_looks : App → App
with_looks app =
    with_subcommand (with_subcommand (with_subcommand (with_subcommand (with_subcommand app dump_app.top) list_app.top)
    check_app.top) export_app.top) history_app.top

-- all commands of the program
abbrev pub program : App
program =
    with_subcommand (with_subcommand (with_subcommand
    (with_looks (with_subcommand (with_subcommand bare_program init_app.top) edit_app.top))
    import_app.top) serve_app.top) ask_app.top
