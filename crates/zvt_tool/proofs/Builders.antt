-- The builders of the program's commands.
use Rattle.std.proofs.Common.{◌≡◌, ◌∙◌, ◌||◌, ◌+◌, [], ◌∷◌, ◌++◌, ap, ap₂, codes, map, refl, subst, sym, take, true, false, Bor, List, ℕ, Some}
use Rattle.std.proofs.lemmas.List.{map-append}
use Rattle.clap.specs.Built.{AddsArg, AddsInTurn}
use Rattle.clap.specs.Simple.{App, app_of, app_of_fields, new_app, on_top}
use Rattle.clap.specs.Walk.{Rule, rule_of}
use Rattle.clap.specs.declared.builder.arg.Arg.{Arg}
use Rattle.clap.specs.declared.builder.command.Command.{Command}
use Rattle.clap.specs.declared.builder.command.Command.TheViews.{out-Command as fields_of}
use Rattle.zvt_tool.specs.Commands.{program_app, with_command, with_commands}
use Rattle.zvt_tool.specs.Options.{AreLocal, app_for, rule_for, with_rules}
use Rattle.zvt_tool.specs.declared.options.CommandRow.{CommandRow}
use Rattle.zvt_tool.specs.declared.options.CommandOption.{CommandOption}

-- a command with these texts says the same
pub texts_say_nothing : (p q r : Command) (name about more : Bor (List ℕ)) → app_of p ≡ new_app name.now → (fields_of p).has_globals ≡ false
    → fields_of q ≡ record (fields_of p) { about = Some about } → fields_of r ≡ record (fields_of q) { after_help = Some more }
    → (app_of r ≡ new_app name.now) × ((fields_of r).has_globals ≡ false)
texts_say_nothing p q r name about more is local e f = (
  ap app_of_fields f ∙ (ap app_of_fields e ∙ is),
  ap (λ fields. fields.has_globals) f ∙ (ap (λ fields. fields.has_globals) e ∙ local),
)

-- the program of a version
pub versioned : (p q r : Command) (version name : Bor (List ℕ)) → app_of p ≡ new_app (codes "zvt")
    → fields_of q ≡ record (fields_of p) { version = Some version } → fields_of r ≡ record (fields_of q) { subcommand_value_name = Some name }
    → app_of r ≡ program_app
versioned p q r version name is e f =
    ap app_of_fields f ∙ (ap app_of_fields e ∙ ap (on_top (λ top. record top { has_version = true })) is)

-- with these options besides, which are its own
pub with_options : (old new : Command) (options : List Arg) → (fields_of old).has_globals ≡ false → AreLocal options
    → AddsInTurn AddsArg old options new → (app_of new ≡ with_rules (app_of old) (map rule_of options)) × ((fields_of new).has_globals ≡ false)
with_options old new [] local own is = (ap app_of (sym is), ap (λ command. (fields_of command).has_globals) (sym is) ∙ local)
with_options old new (option ∷ options) local own (next, adds, more) =
    let is_local = adds.globals ∙ ap₂ (λ x y. x || y) local own.0 in
    let rest = with_options next new options is_local own.1 more in
    (rest.0 ∙ ap (λ app. with_rules app (map rule_of options)) (adds.shape own.0), rest.1)

-- one more option
pub rules_more : (options more : List Arg) (rows : List CommandOption) (i : ℕ) (option : Arg) (row : CommandOption) → more ≡ options ++ option ∷ [] → rule_of option ≡ rule_for row
    → take (i + 1) rows ≡ take i rows ++ row ∷ [] → map rule_of options ≡ map rule_for (take i rows) → map rule_of more ≡ map rule_for (take (i + 1) rows)
rules_more options more rows i option row is rule longer before =
    ap (map rule_of) is ∙ (map-append rule_of options (option ∷ []) ∙ (ap₂ (λ (xs : List Rule) (x : Rule). xs ++ x ∷ []) before rule ∙ (sym (map-append rule_for (take i rows) (row ∷ [])) ∙ ap (map rule_for) (sym longer))))

-- and none of them is for other commands
local_added : (options : List Arg) (option : Arg) → AreLocal options → option.global ≡ false → AreLocal (options ++ option ∷ [])
local_added [] option local own = (own, tt)
local_added (first ∷ options) option local own = (local.0, local_added options option local.1 own)

pub local_more : (options more : List Arg) (option : Arg) → more ≡ options ++ option ∷ [] → AreLocal options → option.global ≡ false → AreLocal more
local_more options more option is local own = subst AreLocal (sym is) (local_added options option local own)

with_more : (app : App) (commands : List App) (command : App) → with_commands app (commands ++ command ∷ []) ≡ with_command (with_commands app commands) command
with_more app [] command = refl
with_more app (first ∷ commands) command = with_more (with_command app first) commands command

-- one more command
pub command_added : (old new command : Command) (rows : List CommandRow) (i : ℕ) (row : CommandRow) → app_of command ≡ app_for row → app_of new ≡ with_command (app_of old) (app_of command)
    → take (i + 1) rows ≡ take i rows ++ row ∷ [] → app_of old ≡ with_commands program_app (map app_for (take i rows)) → app_of new ≡ with_commands program_app (map app_for (take (i + 1) rows))
command_added old new command rows i row is adds longer before =
    adds ∙ (ap₂ with_command before is ∙ (sym (with_more program_app (map app_for (take i rows)) (app_for row)) ∙ ap (with_commands program_app) (sym (map-append app_for (take i rows) (row ∷ [])) ∙ ap (map app_for) (sym longer))))
