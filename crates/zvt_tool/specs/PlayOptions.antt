-- The options of `play`, `check-till` and `check-terminal`.
use Rattle.std.specs.Prelude.{◌≡◌, ◌∷◌, [], List, Some, codes, map}
use Rattle.std.specs.Borrow.{Bor}
use Rattle.clap.specs.Words.{App, Row, Text, first_of}
use Rattle.zvt_tool.specs.Given.{GivesNumber, IsFlagOf, IsNumberOf, IsTextOf, words_of}
use Rattle.zvt_tool.specs.Options.{command_app, flag_rule, host_rule, needed_port_rule, option_rule, port_option_rule, several_rule}
use Rattle.zvt_tool.specs.declared.play_options.CheckOptions.{CheckOptions}
use Rattle.zvt_tool.specs.declared.play_options.PlayOptions.{PlayOptions}

abbrev pub play_app : App
play_app = command_app (codes "play") (
    option_rule (codes "till") ∷
    option_rule (codes "terminal") ∷
    port_option_rule (codes "port") ∷
    port_option_rule (codes "listen") ∷
    host_rule ∷
    flag_rule (codes "loose") ∷
    flag_rule (codes "open") ∷
    [])

-- the options of `play` in the parsed words
pub record ArePlayOptionsOf (rows : List Row) (options : PlayOptions) : Type 0 where
  pub till : IsTextOf (codes "till") rows options.till
  pub terminal : IsTextOf (codes "terminal") rows options.terminal
  pub port : IsNumberOf (codes "port") rows 65535 options.port
  pub listen : IsNumberOf (codes "listen") rows 65535 options.listen
  pub host : first_of (codes "host") rows ≡ Some options.host.now
  pub loose : IsFlagOf (codes "loose") rows options.loose
  pub reads_on : IsFlagOf (codes "open") rows options.reads_on

-- a command with this name that plays situations, over connections of the port with that name
abbrev pub check_app : Text → Text → App
check_app name port = command_app name (
    needed_port_rule port ∷
    host_rule ∷
    option_rule (codes "junit") ∷
    flag_rule (codes "loose") ∷
    flag_rule (codes "open") ∷
    several_rule (codes "file") ∷
    [])

-- the options of a command that plays situations and whose port has this name
pub record AreCheckOptionsOf (port : Text) (rows : List Row) (options : CheckOptions) : Type 0 where
  pub gives_port : GivesNumber port rows 65535 options.port
  pub host : first_of (codes "host") rows ≡ Some options.host.now
  pub junit : IsTextOf (codes "junit") rows options.junit
  pub loose : IsFlagOf (codes "loose") rows options.loose
  pub reads_on : IsFlagOf (codes "open") rows options.reads_on
  pub files : map (λ file. file.now) options.files.items ≡ words_of (codes "file") rows
