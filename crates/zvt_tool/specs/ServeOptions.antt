-- The options of `serve`.
use Rattle.std.specs.Prelude.{◌≡◌, ◌∷◌, [], List, Some, codes, map}
use Rattle.std.specs.Borrow.{Bor}
use Rattle.clap.specs.Words.{App, Row, Text, first_of}
use Rattle.zvt_tool.specs.Given.{GivesNumber, IsFlagOf, IsTextOf, words_of}
use Rattle.zvt_tool.specs.Options.{command_app, flag_rule, host_rule, needed_port_rule, needed_rule, number_rule, option_rule, repeated_rule}
use Rattle.zvt_tool.specs.declared.serve_options.ServeOptions.{ServeOptions}

abbrev pub serve_app : App
serve_app = command_app (codes "serve") (
    needed_port_rule (codes "port") ∷
    host_rule ∷
    needed_rule (codes "terminal") ∷
    needed_rule (codes "book") ∷
    repeated_rule (codes "earlier") ∷
    needed_rule (codes "token-file") ∷
    option_rule (codes "allow-host") ∷
    option_rule (codes "password") ∷
    option_rule (codes "config") ∷
    option_rule (codes "currency") ∷
    number_rule (codes "timeout") (codes "180") ∷
    number_rule (codes "clients") (codes "64") ∷
    option_rule (codes "trace") ∷
    flag_rule (codes "no-times") ∷
    flag_rule (codes "no-ask") ∷
    flag_rule (codes "loose") ∷
    flag_rule (codes "open") ∷
    [])

-- the options in the parsed words
pub record AreServeOptionsOf (rows : List Row) (options : ServeOptions) : Type 0 where
  pub port : GivesNumber (codes "port") rows 65535 options.port
  pub host : first_of (codes "host") rows ≡ Some options.host.now
  pub terminal : first_of (codes "terminal") rows ≡ Some options.terminal.now
  pub book : first_of (codes "book") rows ≡ Some options.book.now
  pub earlier : map (λ file. file.now) options.earlier.items ≡ words_of (codes "earlier") rows
  pub token_file : first_of (codes "token-file") rows ≡ Some options.token_file.now
  pub allow_host : IsTextOf (codes "allow-host") rows options.allow_host
  pub password : IsTextOf (codes "password") rows options.password
  pub config : IsTextOf (codes "config") rows options.config
  pub currency : IsTextOf (codes "currency") rows options.currency
  pub timeout : GivesNumber (codes "timeout") rows 65535 options.timeout
  pub clients : GivesNumber (codes "clients") rows 65535 options.clients
  pub trace : IsTextOf (codes "trace") rows options.trace
  pub no_times : IsFlagOf (codes "no-times") rows options.no_times
  pub no_ask : IsFlagOf (codes "no-ask") rows options.no_ask
  pub loose : IsFlagOf (codes "loose") rows options.loose
  pub reads_on : IsFlagOf (codes "open") rows options.reads_on
