-- The options of `terminal`.
use Rattle.std.specs.Prelude.{◌≡◌, ◌∷◌, [], List, Some, codes}
use Rattle.std.specs.Borrow.{Bor}
use Rattle.clap.specs.Words.{App, Row, Text, first_of}
use Rattle.zvt_tool.specs.Given.{GivesNumber, IsFlagOf, IsTextOf}
use Rattle.zvt_tool.specs.Options.{command_app, flag_rule, host_rule, needed_port_rule, number_rule, option_rule, tid_rule}
use Rattle.zvt_tool.specs.declared.terminal_options.TerminalOptions.{TerminalOptions}

abbrev pub terminal_app : App
terminal_app = command_app (codes "terminal") (
    needed_port_rule (codes "port") ∷
    host_rule ∷
    tid_rule ∷
    number_rule (codes "connections") (codes "1") ∷
    option_rule (codes "decline") ∷
    flag_rule (codes "extended") ∷
    option_rule (codes "card") ∷
    option_rule (codes "receipt") ∷
    flag_rule (codes "intermediate") ∷
    number_rule (codes "delay") (codes "0") ∷
    option_rule (codes "trace") ∷
    flag_rule (codes "no-times") ∷
    flag_rule (codes "loose") ∷
    flag_rule (codes "open") ∷
    flag_rule (codes "json") ∷
    [])

-- the options in the parsed words
pub record AreTerminalOptionsOf (rows : List Row) (options : TerminalOptions) : Type 0 where
  pub port : GivesNumber (codes "port") rows 65535 options.port
  pub host : first_of (codes "host") rows ≡ Some options.host.now
  pub tid : GivesNumber (codes "tid") rows 99999999 options.tid
  pub connections : GivesNumber (codes "connections") rows 65535 options.connections
  pub decline : IsTextOf (codes "decline") rows options.decline
  pub extended : IsFlagOf (codes "extended") rows options.extended
  pub card : IsTextOf (codes "card") rows options.card
  pub receipt : IsTextOf (codes "receipt") rows options.receipt
  pub intermediate : IsFlagOf (codes "intermediate") rows options.intermediate
  pub delay : GivesNumber (codes "delay") rows 65535 options.delay
  pub trace : IsTextOf (codes "trace") rows options.trace
  pub no_times : IsFlagOf (codes "no-times") rows options.no_times
  pub loose : IsFlagOf (codes "loose") rows options.loose
  pub reads_on : IsFlagOf (codes "open") rows options.reads_on
  pub json : IsFlagOf (codes "json") rows options.json
