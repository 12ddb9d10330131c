-- The program and its commands, as `clap` sees them.
use Rattle.std.specs.Prelude.{[], ◌∷◌, List, codes, true}
use Rattle.clap.specs.Simple.{on_top}
use Rattle.clap.specs.Words.{App, new_app, with_subcommand}
use Rattle.zvt_tool.specs.BookOptions.{book_app, loop_app}
use Rattle.zvt_tool.specs.PlayOptions.{check_app, play_app}
use Rattle.zvt_tool.specs.ServeOptions.{serve_app}
use Rattle.zvt_tool.specs.TapOptions.{tap_app}
use Rattle.zvt_tool.specs.TerminalOptions.{terminal_app}
use Rattle.zvt_tool.specs.TillOptions.{till_app}
use Rattle.zvt_tool.specs.TraceCommands.{audit_app, join_app, normalise_app, receipts_app, report_app, show_app, vectors_app}

-- the program, which has a version, without its commands
abbrev pub program_app : App
program_app = on_top (λ top. record top { has_version = true }) (new_app (codes "zvt"))

-- the same with one more command
abbrev pub with_command : App → App → App
with_command app command = with_subcommand app command.top

-- the same with these additional commands
abbrev pub with_commands : App → List App → App
with_commands app [] = app
with_commands app (command ∷ commands) = with_commands (with_command app command) commands

-- the commands of the program
abbrev pub all_commands : List App
all_commands =
    show_app ∷
    join_app ∷
    normalise_app ∷
    audit_app ∷
    report_app ∷
    receipts_app ∷
    vectors_app ∷
    book_app ∷
    loop_app ∷
    till_app ∷
    terminal_app ∷
    tap_app ∷
    serve_app ∷
    play_app ∷
    check_app (codes "check-till") (codes "listen") ∷
    check_app (codes "check-terminal") (codes "port") ∷
    []

-- the program with its commands and their options
abbrev pub zvt_app : App
zvt_app = with_commands program_app all_commands
