-- The options of `tap`.
use Rattle.std.specs.Prelude.{◌≡◌, ◌∷◌, [], List, Some, codes}
use Rattle.std.specs.Borrow.{Bor}
use Rattle.clap.specs.Words.{App, Row, Text, first_of}
use Rattle.zvt_tool.specs.Given.{GivesNumber, IsFlagOf, IsTextOf}
use Rattle.zvt_tool.specs.Options.{command_app, flag_rule, needed_rule, number_rule, option_rule}
use Rattle.zvt_tool.specs.declared.tap_options.TapOptions.{TapOptions}

abbrev pub tap_app : App
tap_app = command_app (codes "tap") (
    needed_rule (codes "listen") ∷
    needed_rule (codes "to") ∷
    option_rule (codes "trace") ∷
    flag_rule (codes "no-times") ∷
    flag_rule (codes "trace-required") ∷
    number_rule (codes "connections") (codes "1") ∷
    flag_rule (codes "loose") ∷
    flag_rule (codes "open") ∷
    [])

-- the options in the parsed words
pub record AreTapOptionsOf (rows : List Row) (options : TapOptions) : Type 0 where
  pub listen : first_of (codes "listen") rows ≡ Some options.listen.now
  pub to : first_of (codes "to") rows ≡ Some options.to.now
  pub trace : IsTextOf (codes "trace") rows options.trace
  pub no_times : IsFlagOf (codes "no-times") rows options.no_times
  pub trace_required : IsFlagOf (codes "trace-required") rows options.trace_required
  pub connections : GivesNumber (codes "connections") rows 65535 options.connections
  pub loose : IsFlagOf (codes "loose") rows options.loose
  pub reads_on : IsFlagOf (codes "open") rows options.reads_on
