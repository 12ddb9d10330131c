-- The options of the commands, as `clap` sees them, and the meaning of their values.
use Rattle.std.specs.Prelude.{◌≡◌, [], ◌∷◌, ◌==◌, if◌then◌else◌, ℕ, Bool, List, Some, ⊤, codes, map, true, false, pos}
use Rattle.clap.specs.Words.{App, Rule, Text, new_app, new_rule, with_rule}
use Rattle.clap.specs.declared.builder.arg.Arg.{Arg}
use Rattle.clap.specs.declared.builder.action.ArgAction.TheVariants.{Append, SetTrue}
use Rattle.clap.specs.declared.builder.value_parser.ValueParser.TheVariants as parser
use Rattle.zvt_grammar.specs.declared.lengths.Lengths.{Lengths}
use Rattle.zvt_grammar.specs.declared.lengths.Lengths.TheVariants.{Shortest, Padded}
use Rattle.zvt_text.specs.declared.form.Form.{Form}
use Rattle.zvt_text.specs.declared.form.Form.TheVariants as form
use Rattle.zvt_tool.specs.declared.options.CommandOption.{CommandOption}
use Rattle.zvt_tool.specs.declared.options.CommandOption.TheVariants as option
use Rattle.zvt_tool.specs.declared.options.CommandRow.{CommandRow}

-- any number of words
abbrev pub several_rule : Text → Rule
several_rule name = record (new_rule name) { action = Some Append; value_names = 1 }

-- at least one word
abbrev pub book_files_rule : Rule
book_files_rule = record (several_rule (codes "file")) { required = true }

-- an option without a value
abbrev pub flag_rule : Text → Rule
flag_rule name = record (new_rule name) { long = Some name; action = Some SetTrue }

-- an optional option with one value
abbrev pub option_rule : Text → Rule
option_rule name = record (new_rule name) { long = Some name; value_names = 1 }

-- an optional TCP port
abbrev pub port_option_rule : Text → Rule
port_option_rule name = record (option_rule name) { parser = Some (parser.Signed (pos 0) (pos 65535)) }

-- a required TCP port
abbrev pub needed_port_rule : Text → Rule
needed_port_rule name = record (port_option_rule name) { required = true }

-- a required option with one value
abbrev pub needed_rule : Text → Rule
needed_rule name = record (option_rule name) { required = true }

-- an option with one value, which may be given several times
abbrev pub repeated_rule : Text → Rule
repeated_rule name = record (option_rule name) { action = Some Append }

abbrev pub host_rule : Rule
host_rule = record (option_rule (codes "host")) { defaults = codes "127.0.0.1" ∷ [] }

abbrev pub tid_rule : Rule
tid_rule = record (option_rule (codes "tid")) {
  parser = Some (parser.Signed (pos 0) (pos 99999999));
  defaults = codes "12345678" ∷ [];
}

-- a number, which defaults to this one
abbrev pub number_rule : (name default : Text) → Rule
number_rule name default = record (option_rule name) {
  parser = Some (parser.Signed (pos 0) (pos 65535));
  defaults = default ∷ [];
}

-- an option, by its kind
abbrev pub rule_for : CommandOption → Rule
rule_for (option.Several name value text) = several_rule name.now
rule_for (option.BookFiles text) = book_files_rule
rule_for (option.Flag name text) = flag_rule name.now
rule_for (option.Value name value text) = option_rule name.now
rule_for (option.Repeated name value text) = repeated_rule name.now
rule_for (option.Needed name value text) = needed_rule name.now
rule_for (option.Port name text) = port_option_rule name.now
rule_for (option.NeededPort name text) = needed_port_rule name.now
rule_for (option.Host text) = host_rule
rule_for (option.Tid text) = tid_rule
rule_for (option.Number name value default text) = number_rule name.now default.now

-- the options belong to their command alone
abbrev pub AreLocal : List Arg → Type 0
AreLocal [] = ⊤
AreLocal (option ∷ options) = (option.global ≡ false) × AreLocal options

-- a command with these additional options
abbrev pub with_rules : App → List Rule → App
with_rules app [] = app
with_rules app (rule ∷ rules) = with_rules (with_rule app rule) rules

-- a command of this name with these options
abbrev pub command_app : Text → List Rule → App
command_app name = with_rules (new_app name)

-- the command of a row
abbrev pub app_for : CommandRow → App
app_for row = command_app row.name.now (map rule_for row.options.now)

-- ---- what the values mean

abbrev pub lengths_by : (loose : Bool) → Lengths
lengths_by false = Shortest
lengths_by true = Padded

abbrev pub form_by : (is_json : Bool) → Form
form_by false = form.Text
form_by true = form.Json

-- the number of connections to accept; 0 means any number
abbrev pub connections_by : ℕ → ℕ
connections_by number = if number == 0 then 18446744073709551615 else number
