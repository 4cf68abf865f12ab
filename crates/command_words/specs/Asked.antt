-- What a command line asks for.
use Rattle.std.specs.Prelude.{ℕ, Bool, false, List, map, Option, Some, None}
use Rattle.std.specs.Prelude.{[], is_some, option_map, option_and_then, unwrap_or, codes, if◌then◌else◌}
use Rattle.std.specs.Option.{option_or}
use Rattle.std.specs.Str.{bytes_eq}
use Rattle.std.specs.Borrow.{Bor}
use Rattle.clap.specs.Walk.{Row, first_of, all_of}
use Rattle.clap.specs.Simple.{subcommand_of}
use Rattle.command_syntax.specs.Values.{replica_of, doc_of, every_of, form_of, port_of, optional_number_of, optional_port_of}
use Rattle.command_syntax.specs.Few.{as_few, texts_of}
use Rattle.program_commands.specs.Program.{program}
use Rattle.span_export.specs.declared.exporting.Form.{Form}
use Rattle.page_reading.specs.declared.page_form.PageForm.{PageForm}
use Rattle.page_reading.specs.Forms.{page_form_named}
use Rattle.command_syntax.specs.declared.order.Order.{Order}
use Rattle.command_syntax.specs.declared.order.Order.TheVariants as order
use Rattle.command_syntax.specs.declared.store_order.StoreOrder.{StoreOrder}
use Rattle.command_syntax.specs.declared.store_order.StoreOrder.TheVariants as store
use Rattle.command_syntax.specs.declared.web_order.WebOrder.{WebOrder}
use Rattle.command_syntax.specs.declared.bad_port.BadPort.{BadPort}

-- a session in memory, a new store of a replica, a session over a store, a document of a store, all its documents, what its opening finds,
-- one of them, as it is or as it was when it had so many operations, in a form for other programs, its versions of at most so many operations
-- each, a page in a form for one of them, or a store served at a port for sessions and one for peers, with the port of a peer to join where
-- one is named, a port for WebSockets and the origins that may open them where there is one, to its end or until the device failed, with its
-- events written or not, and told once it listens or not; or lines for the daemon at a port
pub data Asked : Type 0 where
  in_memory : Asked
  init : List ℕ → ℕ → Asked
  edit : List ℕ → Asked
  dump : List ℕ → ℕ → Asked
  list : List ℕ → Asked
  check : List ℕ → Asked
  export : List ℕ → ℕ → Option ℕ → Form → Asked
  history : List ℕ → ℕ → ℕ → Asked
  import : List ℕ → ℕ → PageForm → Asked
  serve : List ℕ → ℕ → ℕ → Option ℕ → Option (ℕ × List (List ℕ)) → Bool → Bool → Bool → Asked
  ask : ℕ → List (List ℕ) → Asked

-- what an order over one disk asks for
abbrev pub meant_of_store : StoreOrder → Asked
meant_of_store store.InMemory = in_memory
meant_of_store (store.Init file replica) = init file.now replica
meant_of_store (store.Edit file) = edit file.now

-- what is asked for of web pages: a port, and origins
abbrev pub meant_of_web : WebOrder → ℕ × List (List ℕ)
meant_of_web web = (web.port, texts_of web.origins)

-- what an order asks for
abbrev pub meant : Order → Asked
meant (order.Store order) = meant_of_store order
meant (order.Dump order) = dump order.file.now order.doc
meant (order.List order) = list order.file.now
meant (order.Check order) = check order.file.now
meant (order.Export order) = export order.file.now order.doc order.at_rev order.form
meant (order.History order) = history order.file.now order.doc order.every
meant (order.Import order) = import order.file.now order.doc order.form
meant (order.Serve order) =
    serve order.file.now order.sessions order.peers order.link (option_map meant_of_web order.web) order.ends_on_failure order.logs
    order.tells_ready
meant (order.Ask order) = ask order.port (texts_of order.lines)

-- an `init` with the values of its arguments
abbrev pub init_of : List Row → Option Asked
init_of rows =
    option_and_then (λ file. option_map (init file) (option_and_then replica_of (first_of (codes "UUID") rows)))
    (first_of (codes "FILE") rows)

-- an `edit` with the value of its argument
abbrev pub edit_of : List Row → Option Asked
edit_of rows = option_map edit (first_of (codes "FILE") rows)

-- a `dump` with the values of its arguments
abbrev pub dump_of : List Row → Option Asked
dump_of rows =
    option_and_then (λ file. option_map (dump file) (option_and_then doc_of (first_of (codes "DOC") rows)))
    (first_of (codes "FILE") rows)

-- a `list` with the value of its argument
abbrev pub list_of : List Row → Option Asked
list_of rows = option_map list (first_of (codes "FILE") rows)

-- a `check` with the value of its argument
abbrev pub check_of : List Row → Option Asked
check_of rows = option_map check (first_of (codes "FILE") rows)

-- the value that a given flag has
abbrev pub is_true : Option (List ℕ) → Bool
is_true None = false
is_true (Some text) = bytes_eq text (codes "true")

-- a flag is given
abbrev pub is_flag_given : List ℕ → List Row → Bool
is_flag_given flag rows = is_true (first_of flag rows)

-- an `export` with the values of its arguments
abbrev pub export_of : List Row → Option Asked
export_of rows =
    option_and_then (λ file. option_and_then (λ doc. option_and_then (λ at_rev. option_map (export file doc at_rev)
    (form_of (first_of (codes "to") rows) (is_flag_given (codes "breaks") rows)))
    (optional_number_of (first_of (codes "at-rev") rows)))
    (option_and_then doc_of (first_of (codes "DOC") rows)))
    (first_of (codes "FILE") rows)

-- a `history` with the values of its arguments
abbrev pub history_of : List Row → Option Asked
history_of rows =
    option_and_then (λ file. option_and_then (λ doc. option_map (history file doc)
    (every_of (first_of (codes "every") rows)))
    (option_and_then doc_of (first_of (codes "DOC") rows)))
    (first_of (codes "FILE") rows)

-- an `import` with the values of its arguments
abbrev pub import_of : List Row → Option Asked
import_of rows =
    option_and_then (λ file. option_and_then (λ doc. option_map (import file doc)
    (option_and_then page_form_named (first_of (codes "from") rows)))
    (option_and_then doc_of (first_of (codes "DOC") rows)))
    (first_of (codes "FILE") rows)

-- the port that an option or an argument names
abbrev pub port_at : List ℕ → List Row → Option ℕ
port_at option rows = option_and_then port_of (first_of option rows)

-- where WebSockets come in, and the origins that may open them: none may be named without that port
abbrev pub web_of : Option (List ℕ) → Option (List (List ℕ)) → Option (Option (ℕ × List (List ℕ)))
web_of None None = Some None
web_of None (Some texts) = None
web_of (Some word) texts =
    option_and_then (λ port. option_map (λ origins. Some (port, origins)) (as_few (unwrap_or texts []))) (port_of word)

-- what a `serve` names of web pages
abbrev pub web_at : List Row → Option (Option (ℕ × List (List ℕ)))
web_at rows = web_of (first_of (codes "web") rows) (all_of (codes "origin") rows)

-- a `serve` with the values of its arguments
abbrev pub serve_of : List Row → Option Asked
serve_of rows =
    option_and_then (λ file. option_and_then (λ sessions. option_and_then (λ peers.
    option_and_then (λ link. option_map (λ web. serve file sessions peers link web (is_flag_given (codes "end-on-failure") rows) (is_flag_given (codes "log") rows)
    (is_flag_given (codes "ready") rows))
    (web_at rows))
    (optional_port_of (first_of (codes "link") rows)))
    (port_at (codes "peers") rows))
    (port_at (codes "sessions") rows))
    (first_of (codes "FILE") rows)

-- an `ask` with the values of its arguments
abbrev pub ask_of : List Row → Option Asked
ask_of rows =
    option_and_then (λ port. option_map (ask port) (as_few (unwrap_or (all_of (codes "LINE") rows) [])))
    (port_at (codes "PORT") rows)

-- the command of this name, with the values of its arguments
abbrev pub asked_of : List ℕ → List Row → Option Asked
asked_of name rows =
    if bytes_eq name (codes "init") then init_of rows
    else if bytes_eq name (codes "edit") then edit_of rows
    else if bytes_eq name (codes "dump") then dump_of rows
    else if bytes_eq name (codes "list") then list_of rows
    else if bytes_eq name (codes "check") then check_of rows
    else if bytes_eq name (codes "export") then export_of rows
    else if bytes_eq name (codes "history") then history_of rows
    else if bytes_eq name (codes "import") then import_of rows
    else if bytes_eq name (codes "serve") then serve_of rows
    else if bytes_eq name (codes "ask") then ask_of rows
    else None

-- what a command asks for, and no command: a session in memory
abbrev pub asked_by : Option (List ℕ × List Row) → Option Asked
asked_by None = Some in_memory
asked_by (Some command) = asked_of command.0 command.1

-- the words of a command line
abbrev pub texts : List (Bor (List ℕ)) → List (List ℕ)
texts words = map (λ word. word.now) words

-- what the words of a command line ask for, of which the first is the program's name; none where a value breaks its rule
abbrev pub asked : List (List ℕ) → Option Asked
asked words = asked_by (subcommand_of program words)

-- what is told of a word that is no port: its option, or `PORT` for the argument, and the word
abbrev pub told : BadPort → List ℕ × List ℕ
told port = (port.option.now, port.word.now)

-- an option and its word, where that is no port
abbrev pub bad_word : List ℕ → List ℕ → Option (List ℕ × List ℕ)
bad_word option word = if is_some (port_of word) then None else Some (option, word)

-- an option whose word is no port, and that word
abbrev pub bad_port_at : List ℕ → List Row → Option (List ℕ × List ℕ)
bad_port_at option rows = option_and_then (bad_word option) (first_of option rows)

-- the first option whose word is no port, and that word
abbrev pub bad_port_of : List Row → Option (List ℕ × List ℕ)
bad_port_of rows =
    option_or (bad_port_at (codes "PORT") rows)
    (option_or (bad_port_at (codes "sessions") rows)
    (option_or (bad_port_at (codes "peers") rows)
    (option_or (bad_port_at (codes "link") rows) (bad_port_at (codes "web") rows))))

-- the first port of a command that breaks its rule
abbrev pub bad_port_by : Option (List ℕ × List Row) → Option (List ℕ × List ℕ)
bad_port_by None = None
bad_port_by (Some command) = bad_port_of command.1

-- the first port of a command line that breaks its rule, and its option; none where each keeps it
abbrev pub bad_port : List (List ℕ) → Option (List ℕ × List ℕ)
bad_port words = bad_port_by (subcommand_of program words)
