-- The options of `till`.
use Rattle.std.specs.Prelude.{◌≡◌, ◌∷◌, [], List, Some, codes, map}
use Rattle.std.specs.Borrow.{Bor}
use Rattle.clap.specs.Words.{App, Row, Text, first_of}
use Rattle.zvt_tool.specs.Given.{GivesNumber, IsFlagOf, IsTextOf, words_of}
use Rattle.zvt_tool.specs.Options.{command_app, flag_rule, host_rule, needed_port_rule, number_rule, option_rule, several_rule}
use Rattle.zvt_tool.specs.declared.till_options.TillOptions.{TillOptions}

abbrev pub till_app : App
till_app = command_app (codes "till") (
    needed_port_rule (codes "port") ∷
    host_rule ∷
    option_rule (codes "password") ∷
    option_rule (codes "config") ∷
    option_rule (codes "currency") ∷
    number_rule (codes "timeout") (codes "180") ∷
    option_rule (codes "trace") ∷
    flag_rule (codes "no-times") ∷
    option_rule (codes "book") ∷
    flag_rule (codes "no-ask") ∷
    flag_rule (codes "check") ∷
    flag_rule (codes "show") ∷
    flag_rule (codes "close-by-completion") ∷
    flag_rule (codes "reversal-by-receipt") ∷
    flag_rule (codes "loose") ∷
    flag_rule (codes "open") ∷
    flag_rule (codes "json") ∷
    several_rule (codes "step") ∷
    [])

-- the options in the parsed words
pub record AreTillOptionsOf (rows : List Row) (options : TillOptions) : Type 0 where
  pub port : GivesNumber (codes "port") rows 65535 options.port
  pub host : first_of (codes "host") rows ≡ Some options.host.now
  pub password : IsTextOf (codes "password") rows options.password
  pub config : IsTextOf (codes "config") rows options.config
  pub currency : IsTextOf (codes "currency") rows options.currency
  pub timeout : GivesNumber (codes "timeout") rows 65535 options.timeout
  pub trace : IsTextOf (codes "trace") rows options.trace
  pub no_times : IsFlagOf (codes "no-times") rows options.no_times
  pub book : IsTextOf (codes "book") rows options.book
  pub no_ask : IsFlagOf (codes "no-ask") rows options.no_ask
  pub check : IsFlagOf (codes "check") rows options.check
  pub show : IsFlagOf (codes "show") rows options.show
  pub close_by_completion : IsFlagOf (codes "close-by-completion") rows options.close_by_completion
  pub reversal_by_receipt : IsFlagOf (codes "reversal-by-receipt") rows options.reversal_by_receipt
  pub loose : IsFlagOf (codes "loose") rows options.loose
  pub reads_on : IsFlagOf (codes "open") rows options.reads_on
  pub json : IsFlagOf (codes "json") rows options.json
  pub steps : map (λ step. step.now) options.steps.items ≡ words_of (codes "step") rows
